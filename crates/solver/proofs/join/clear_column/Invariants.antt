use Rattle.elimination.specs.Progress.{Cleared}
use Rattle.rows.specs.Lent.{system_of, SameLoan}
use Rattle.solver.proofs.join.clear_column.Given as goal

abbrev pub invariant-loop-other : goal.invariant-loop-other
invariant-loop-other g l =
    let o = g.A.Arithmetic.operations in
    record {
      same : SameLoan l.fn.memory l.memory;
      cleared : Cleared o l.fn.memory.size (system_of o l.fn.memory) (system_of o l.memory) l.row l.column l.other;
    }
