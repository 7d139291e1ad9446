use Rattle.std.proofs.Common.{◌≡◌, ℕ, ◌<◌}
use Rattle.sender.proofs.window.Window.takes_from.Given as goal

abbrev pub invariant-loop-sub : goal.invariant-loop-sub
invariant-loop-sub g l =
    (k : ℕ) → k < l.sub → g.C.Code.coefficients l.self.code.now l.parity l.age k ≡ g.A.Arithmetic.operations.coefficients.zero
