use Rattle.std.proofs.Common.{◌≡◌, ℕ, ◌<◌, get_or}
use Rattle.arithmetic.specs.Totals.{sum_below}
use Rattle.codes.specs.Link.{link_of}
use Rattle.codes.specs.Parity.{sum_of_age}
use Rattle.sender.specs.Block.{recent}
use Rattle.sender.proofs.window.Window.write_parity.Given as goal

abbrev pub invariant-loop-symbol : goal.invariant-loop-symbol
invariant-loop-symbol g l =
    let zero = g.A.Arithmetic.operations.symbols.zero in
    (i : ℕ) → i < l.symbol-index → get_or l.row i zero ≡ zero

abbrev pub invariant-loop-age : goal.invariant-loop-age
invariant-loop-age g l =
    let link = link_of g.A.Arithmetic.operations g.C.Code.shape g.C.Code.coefficients l.self.code.now l.self.symbols in
    let past = recent link l.self.history.now l.self.packet.now in
    (i : ℕ) → i < l.self.symbols
    → get_or l.row i link.operations.symbols.zero ≡ sum_below link.operations.symbols l.age (sum_of_age link past l.parity i)
