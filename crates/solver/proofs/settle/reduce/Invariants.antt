use Rattle.elimination.specs.Progress.{Reduced}
use Rattle.rows.specs.Lent.{system_of, SameLoan}
use Rattle.solver.proofs.settle.reduce.Given as goal

abbrev pub invariant-loop-unknown : goal.invariant-loop-unknown
invariant-loop-unknown g l =
    let o = g.A.Arithmetic.operations in
    record {
      same : SameLoan l.fn.memory l.memory;
      reduced : Reduced o l.fn.memory.size (system_of o l.fn.memory) (system_of o l.memory) l.row l.unknown;
    }

abbrev pub invariant-loop-earlier : goal.invariant-loop-earlier
invariant-loop-earlier g l =
    let o = g.A.Arithmetic.operations in
    record {
      same : SameLoan l.fn.memory l.memory;
      reduced : Reduced o l.fn.memory.size (system_of o l.fn.memory) (system_of o l.memory) l.row l.earlier;
    }
