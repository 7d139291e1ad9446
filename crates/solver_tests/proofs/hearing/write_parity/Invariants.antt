use Rattle.solver_tests.specs.Front.{SameFront}
use Rattle.solver_tests.proofs.hearing.write_parity.Given as goal

abbrev pub invariant-loop-column : goal.invariant-loop-column
invariant-loop-column g l = SameFront g.A.Arithmetic.operations l.fn.memory l.memory
