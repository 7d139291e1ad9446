use Rattle.std.proofs.Common.{ℕ, ◌≡◌, ◌<◌, ◌≢◌}
use Rattle.rows.specs.Memory.{coefficient}
use Rattle.solver.proofs.read.other_column.Given as goal

abbrev pub invariant-loop-other : goal.invariant-loop-other
invariant-loop-other g l =
    let o = g.A.Arithmetic.operations in
    (v : ℕ) → v < l.other → v ≢ l.column → coefficient o l.size l.coefficients l.row v ≡ o.coefficients.zero
