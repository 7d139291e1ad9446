use Rattle.std.proofs.Common.{◌≡◌, ℕ, ◌<◌, get_or}
use Rattle.arithmetic.specs.Totals.{sum_below}
use Rattle.codes.specs.Link.{link_of}
use Rattle.codes.specs.Parity.{term}
use Rattle.sender.specs.Block.{recent}
use Rattle.sender.proofs.window.Window.add_age.Given as goal

abbrev pub invariant-loop-sub : goal.invariant-loop-sub
invariant-loop-sub g l =
    let link = link_of g.A.Arithmetic.operations g.C.Code.shape g.C.Code.coefficients l.self.code.now l.self.symbols in
    let past = recent link l.self.history.now l.self.packet.now in
    let o = link.operations.symbols in
    (i : ℕ) → i < l.self.symbols
    → get_or l.row i o.zero ≡ o.plus (get_or l.fn.row i o.zero) (sum_below o l.sub (term link past l.parity i l.age))
