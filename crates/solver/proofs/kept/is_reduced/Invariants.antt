use Rattle.std.proofs.Common.{ℕ, ◌≡◌, ◌<◌, ◌≤◌, length}
use Rattle.systems.specs.Kept.{Empty}
use Rattle.rows.specs.Memory.{memory, coefficient}
use Rattle.solver.proofs.Barring.{Barred, Passes}
use Rattle.solver.proofs.kept.is_reduced.Given as goal

abbrev pub invariant-loop-unknown : goal.invariant-loop-unknown
invariant-loop-unknown g l =
    let o = g.A.Arithmetic.operations in
    record {
      long : length l.barred ≡ 128;
      barred : Barred o l.size.unknowns (coefficient o l.size l.coefficients) l.unknown l.barred;
      passed : (u : ℕ) → u < l.unknown → Passes o l.size (memory o l.size l.coefficients l.symbols) u;
    }

abbrev pub invariant-loop-row : goal.invariant-loop-row
invariant-loop-row g l =
    let o = g.A.Arithmetic.operations in
    (r : ℕ) → l.size.unknowns ≤ r → r < l.row → Empty o l.size (memory o l.size l.coefficients l.symbols) r
