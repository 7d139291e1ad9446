use Rattle.std.proofs.Common.{sym, ◌∙◌, subst, arith}
use Rattle.systems.specs.System.{Size}
use Rattle.systems.specs.Kept.{NoCoefficient}
use Rattle.systems.specs.Steps.{Added}
use Rattle.elimination.proofs.Reducing.{reduced_skip, reduced_more, reduced_absent, reduced_free, reduced_given}
use Rattle.rows.specs.Lent.{system_of}
use Rattle.rows.proofs.Loans.{same_loan_then}
use Rattle.solver.proofs.settle.reduce.Goals as goal
use Rattle.solver.proofs.settle.reduce.Goals.{then-not-same+then-not-same-2, else-not-same, else-not-same-via-then-not-same+else-not-same-2, else-not-same-via-else-not-same, in-Some, in_default}

pub loop-unknown-preserved : goal.loop-unknown-preserved
loop-unknown-preserved g c =
    let o = g.A.Arithmetic.operations in
    let laws = g.met.A.Arithmetic.laws in
    let so_far = c.loop-unknown.invariant in
    let s = system_of o c.loop-unknown.memory in
    elim c.if-not-same.branch [
      | then-not-same+then-not-same-2 w ↦
          rw (w.memory-is) (record {
            same = same_loan_then so_far.same w.clear.ensures.same;
            reduced = reduced_given o laws c.requires.among c.requires.led so_far.reduced (omega arith) c.requires.spare.0
                (λ e. let same = w.same-then-not-same.ensures.1 (w.coefficient-then-not-same.ensures ∙ e ∙ sym w.zero-then-not-same.ensures) in cc)
                (subst (λ (z : Size). Added o z s (system_of o w.clear.new.memory) c.args.row c.loop-unknown.unknown
                (o.coefficients.negative (s.coefficient c.args.row c.loop-unknown.unknown))) so_far.same.size w.clear.ensures.added);
          })
      | else-not-same w ↦
          rw (w.memory-is) (record {
            same = so_far.same;
            reduced = elim w.else-not-same.branch [
              | else-not-same-via-then-not-same+else-not-same-2 b ↦
                  reduced_free o laws c.requires.among so_far.reduced (omega arith) c.requires.spare.0
                  (sym b.coefficient-then-not-same.ensures ∙ b.same-then-not-same.ensures.0 b.if-not-same-2.false ∙ b.zero-then-not-same.ensures)
              | else-not-same-via-else-not-same b ↦
                  reduced_absent o laws c.requires.among so_far.reduced (omega arith)
                  (sym c.coefficient.ensures ∙ c.same.ensures.0 b.if-not-same.false ∙ c.zero.ensures)
            ];
          })
    ]

pub loop-earlier-preserved : goal.loop-earlier-preserved
loop-earlier-preserved g c =
    let o = g.A.Arithmetic.operations in
    let laws = g.met.A.Arithmetic.laws in
    let so_far = c.loop-earlier.invariant in
    let s = system_of o c.loop-earlier.memory in
    elim c.match-first_column.branch [
      | in-Some w ↦
          rw (w.memory-is) (record {
            same = same_loan_then so_far.same w.clear-in-Some.ensures.same;
            reduced = reduced_more o laws c.requires.led (omega arith) so_far.reduced
                (rw (so_far.same.size) at w.in-Some.ensures.0) w.in-Some.ensures.1
                (subst (λ (z : Size). Added o z s (system_of o w.clear-in-Some.new.memory) c.args.row c.loop-earlier.earlier
                (o.coefficients.negative (s.coefficient c.args.row w.in-Some.column))) so_far.same.size w.clear-in-Some.ensures.added);
          })
      | in_default w ↦
          rw (w.memory-is) (record {
            same = so_far.same;
            reduced = reduced_skip o laws so_far.reduced
                (subst (λ (z : Size). NoCoefficient o z s c.loop-earlier.earlier) so_far.same.size w.in_default.ensures) (omega arith);
          })
    ]
