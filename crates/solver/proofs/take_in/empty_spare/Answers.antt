use Rattle.std.proofs.Common.{subst, arith}
use Rattle.systems.specs.System.{Size}
use Rattle.systems.specs.Steps.{Emptied}
use Rattle.rows.specs.Lent.{system_of}
use Rattle.rows.proofs.Loans.{same_loan_then}
use Rattle.solver.proofs.Copying.{spare_emptied_more}
use Rattle.solver.proofs.take_in.empty_spare.Goals as goal

pub loop-row-preserved : goal.loop-row-preserved
loop-row-preserved g c =
    let o = g.A.Arithmetic.operations in
    let so_far = c.loop-row.invariant in
    record {
      same = same_loan_then so_far.same c.empty_row.ensures.same;
      emptied = spare_emptied_more (omega arith) (omega arith) so_far.emptied
          (subst (λ (z : Size). Emptied o z (system_of o c.loop-row.memory) (system_of o c.empty_row.new.self) c.loop-row.row) so_far.same.size
          c.empty_row.ensures.emptied);
    }

pub returns-clause-empty : goal.returns-clause-empty
returns-clause-empty g c r from h = c.loop-row.invariant.emptied.empty r from (omega arith)
