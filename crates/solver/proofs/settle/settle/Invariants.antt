use Rattle.elimination.specs.Progress.{Settled}
use Rattle.rows.specs.Lent.{system_of, SameLoan}
use Rattle.solver.proofs.settle.settle.Given as goal

abbrev pub invariant-loop-row : goal.invariant-loop-row
invariant-loop-row g l =
    let o = g.A.Arithmetic.operations in
    record {
      same : SameLoan l.fn.memory l.memory;
      settled : Settled o l.fn.memory.size (system_of o l.fn.memory) (system_of o l.memory) l.row;
    }
