use Rattle.std.proofs.Common.{ℕ, ◌≤◌, ◌↔◌}
use Rattle.systems.specs.System.{rows, Solves}
use Rattle.systems.specs.Form.{SameRow}
use Rattle.elimination.specs.Progress.{Joined}
use Rattle.rows.specs.Lent.{system_of, SameLoan}
use Rattle.solver.proofs.join.join.Given as goal

abbrev pub invariant-loop-row : goal.invariant-loop-row
invariant-loop-row g l =
    let o = g.A.Arithmetic.operations in
    let z = l.fn.memory.size in
    let old = system_of o l.fn.memory in
    let new = system_of o l.memory in
    record {
      same : SameLoan l.fn.memory l.memory;
      joined : Joined o z new l.row;
      means : (x : _) → Solves o z new x ↔ Solves o z old x;
      behind : (r : ℕ) → rows z ≤ r → SameRow z new old r;
    }
