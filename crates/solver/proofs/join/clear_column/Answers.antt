use Rattle.std.proofs.Common.{subst, arith}
use Rattle.systems.specs.System.{Size}
use Rattle.systems.specs.Steps.{Added}
use Rattle.elimination.proofs.Joining.{cleared_more}
use Rattle.rows.specs.Lent.{system_of}
use Rattle.rows.proofs.Loans.{same_loan_then}
use Rattle.solver.proofs.join.clear_column.Goals as goal

pub loop-other-preserved : goal.loop-other-preserved
loop-other-preserved g c =
    let o = g.A.Arithmetic.operations in
    let so_far = c.loop-other.invariant in
    let s = system_of o c.loop-other.memory in
    let new = system_of o c.clear.new.memory in
    record {
      same = same_loan_then so_far.same c.clear.ensures.same;
      cleared = cleared_more o g.met.A.Arithmetic.laws c.requires.within so_far.cleared (omega arith)
          (subst (λ (z : Size). Added o z s new c.loop-other.other c.args.row (o.coefficients.negative (s.coefficient c.loop-other.other c.args.column)))
          so_far.same.size c.clear.ensures.added);
    }
