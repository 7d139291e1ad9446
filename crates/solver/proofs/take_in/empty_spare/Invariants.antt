use Rattle.rows.specs.Lent.{system_of, SameLoan}
use Rattle.solver.proofs.Copying.{SpareEmptied}
use Rattle.solver.proofs.take_in.empty_spare.Given as goal

abbrev pub invariant-loop-row : goal.invariant-loop-row
invariant-loop-row g l =
    let o = g.A.Arithmetic.operations in
    record {
      same : SameLoan l.fn.memory l.memory;
      emptied : SpareEmptied o l.fn.memory.size l.row (system_of o l.fn.memory) (system_of o l.memory);
    }
