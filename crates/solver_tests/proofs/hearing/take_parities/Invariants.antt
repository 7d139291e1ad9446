use Rattle.solver_tests.specs.Front.{SameFront}
use Rattle.solver_tests.proofs.hearing.take_parities.Given as goal

abbrev pub invariant-loop-row : goal.invariant-loop-row
invariant-loop-row g l = SameFront g.A.Arithmetic.operations l.fn.memory l.memory
