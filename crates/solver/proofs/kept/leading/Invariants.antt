use Rattle.std.proofs.Common.{ℕ, ◌≡◌, ◌<◌, ◌↔◌, false, get_or, length, IsTrue}
use Rattle.rows.specs.Memory.{coefficient}
use Rattle.solver.specs.Barred.{IsLeading}
use Rattle.solver.proofs.kept.leading.Given as goal

abbrev pub invariant-loop-unknown : goal.invariant-loop-unknown
invariant-loop-unknown g l =
    let o = g.A.Arithmetic.operations in
    record {
      long : length l.leads ≡ 128;
      found : (v : ℕ) → v < l.unknown → IsTrue (get_or l.leads v false) ↔ IsLeading o (coefficient o l.size l.coefficients) v;
    }
