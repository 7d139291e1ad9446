use Rattle.rows.specs.Memory.{memory}
use Rattle.rows.specs.Lent.{system_of, SameLoan}
use Rattle.solver.specs.Copying.{CopiedIn}
use Rattle.solver.proofs.take_in.copy_in.Given as goal

abbrev pub invariant-loop-source : goal.invariant-loop-source
invariant-loop-source g l =
    let o = g.A.Arithmetic.operations in
    let z = l.fn.memory.size in
    record {
      same : SameLoan l.fn.memory l.memory;
      copied : CopiedIn z l.source (memory o z l.equations.coefficients.now l.equations.symbols.now) (system_of o l.fn.memory) (system_of o l.memory);
    }
