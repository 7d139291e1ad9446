use Rattle.rows.specs.Lent.{system_of, SameLoan}
use Rattle.solver.proofs.Diagonal.{OnesBelow}
use Rattle.solver.proofs.zero.give_zeros.Given as goal

abbrev pub invariant-loop-unknown : goal.invariant-loop-unknown
invariant-loop-unknown g l =
    let o = g.A.Arithmetic.operations in
    record {
      same : SameLoan l.fn.memory l.memory;
      ones : OnesBelow o l.fn.memory.size l.unknown (system_of o l.fn.memory) (system_of o l.memory);
    }
