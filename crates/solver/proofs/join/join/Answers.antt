use Rattle.std.proofs.Common.{◌≡◌, ℕ, ◌+◌, ◌≤◌, ◌↔◌, subst, arith}
use mathlib.Core.Logic.Iff.{trans}
use Rattle.systems.specs.System.{Size, rows, Solves}
use Rattle.systems.specs.Form.{SameRow}
use Rattle.systems.proofs.Rows.{same_row_then}
use Rattle.systems.proofs.Unique.{kept_form}
use Rattle.elimination.specs.Progress.{Joined}
use Rattle.elimination.proofs.Joining.{joined_done}
use Rattle.rows.specs.Lent.{system_of}
use Rattle.rows.proofs.Loans.{same_loan_then}
use Rattle.solver.proofs.join.join.Goals as goal

pub loop-row-preserved : goal.loop-row-preserved
loop-row-preserved g c =
    let o = g.A.Arithmetic.operations in
    let so_far = c.loop-row.invariant in
    let s = system_of o c.loop-row.memory in
    let new = system_of o c.join_row.new.memory in
    record {
      same = same_loan_then so_far.same c.join_row.ensures.same;
      joined = subst (λ (z : Size). Joined o z new (c.loop-row.row + 1)) so_far.same.size c.join_row.ensures.joined;
      means = λ x.
          trans (subst (λ (z : Size). Solves o z new x ↔ Solves o z s x) so_far.same.size (c.join_row.ensures.means x)) (so_far.means x);
      behind = λ r h.
          same_row_then (subst (λ (z : Size). rows z ≤ r → SameRow z new s r) so_far.same.size (c.join_row.ensures.behind r) h) (so_far.behind r h);
    }

pub returns-clause-form : goal.returns-clause-form
returns-clause-form g c =
    let o = g.A.Arithmetic.operations in
    let z = c.args.memory.now.size in
    let at : c.loop-row.row ≡ z.unknowns + z.spare = omega arith in
    let new = system_of o c.loop-row.memory in
    let kept = joined_done o g.met.A.Arithmetic.laws (subst (λ (n : ℕ). Joined o z new n) at c.loop-row.invariant.joined) in
    kept_form o g.met.A.Arithmetic.laws z new c.unknowns-row.ensures.limits.some_symbol kept (Solves o z (system_of o c.args.memory.now))
    c.loop-row.invariant.means
