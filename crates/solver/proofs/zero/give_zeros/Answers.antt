use Rattle.std.proofs.Common.{subst, arith}
use Rattle.systems.specs.System.{Size}
use Rattle.systems.specs.Steps.{CoefficientWritten}
use Rattle.rows.specs.Lent.{system_of}
use Rattle.rows.proofs.Loans.{same_loan_then}
use Rattle.solver.proofs.Diagonal.{ones_more}
use Rattle.solver.proofs.zero.give_zeros.Goals as goal

pub loop-unknown-preserved : goal.loop-unknown-preserved
loop-unknown-preserved g c =
    let o = g.A.Arithmetic.operations in
    let kept = c.loop-unknown.invariant in
    let u = c.loop-unknown.unknown in
    record {
      same = same_loan_then kept.same c.write_coefficient.ensures.same;
      ones = ones_more (omega arith) kept.ones
          (subst (λ (z : Size). CoefficientWritten z (system_of o c.loop-unknown.memory) (system_of o c.write_coefficient.new.self) u u o.products.one)
          kept.same.size (subst (λ (d : _). CoefficientWritten c.loop-unknown.memory.size (system_of o c.loop-unknown.memory)
          (system_of o c.write_coefficient.new.self) u u d) c.one.ensures c.write_coefficient.ensures.written));
    }
