use Rattle.std.proofs.Common.{◌↔◌, false, not, get_or, slice_set, IsTrue, ◌∙◌, get_or-set_same, get_or-set_other, length-set, arith}
use borrow.Author.Count.{below_more}
use Rattle.rows.specs.Memory.{coefficient}
use Rattle.solver.specs.Barred.{IsLeading}
use Rattle.solver.proofs.Barring.{not_same}
use Rattle.solver.proofs.kept.leading.Goals as goal

pub loop-unknown-preserved : goal.loop-unknown-preserved
loop-unknown-preserved g c =
    let o = g.A.Arithmetic.operations in
    let held = coefficient o c.args.size.now c.args.coefficients.now in
    let u = c.loop-unknown.unknown in
    let leads = c.loop-unknown.leads in
    let differs = not c.same.result in
    record {
      long = length-set leads u differs ∙ c.loop-unknown.invariant.long;
      found = λ v. below_more (λ q. IsTrue (get_or (slice_set leads u differs) q false) ↔ IsLeading o held q) u
          (λ q k. rw (get_or-set_other leads u q differs false (λ e. omega arith)) (c.loop-unknown.invariant.found q k))
          (rw (get_or-set_same leads u differs false (omega arith))
          (not_same c.same.result (held u u) o.coefficients.zero (rw (c.coefficient_at-own.ensures, c.zero.ensures) at c.same.ensures)))
          v;
    }
