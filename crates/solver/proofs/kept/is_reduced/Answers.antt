use Rattle.std.proofs.Common.{◌<◌, ◌≤◌, inl, inr, true, false, slice_set, refl, sym, ◌∙◌, length-set, arith}
use borrow.Author.Count.{below_more}
use Rattle.systems.specs.Kept.{Empty}
use Rattle.rows.specs.Memory.{memory, coefficient}
use Rattle.solver.proofs.Barring.{Passes, on_leads, off_leads_not, barred_around, barred_next, kept_leading, kept_other, passes_kept}
use Rattle.solver.proofs.kept.is_reduced.Goals.{then-leads, else-leads}
use Rattle.solver.proofs.kept.is_reduced.Goals as goal

pub is_giving-passes-requires-clause-mask : goal.is_giving-passes-requires-clause-mask
is_giving-passes-requires-clause-mask g c =
    let o = g.A.Arithmetic.operations in
    let z = c.args.size.now in
    barred_around o z.unknowns (coefficient o z c.args.coefficients.now) c.loop-unknown.unknown c.loop-unknown.barred c.loop-unknown.invariant.barred (omega arith)

pub returns-then-not-passes : goal.returns-then-not-passes
returns-then-not-passes g c =
    let o = g.A.Arithmetic.operations in
    let laws = g.met.A.Arithmetic.laws in
    let z = c.args.size.now in
    let s = memory o z c.args.coefficients.now c.args.symbols.now in
    let u = c.loop-unknown.unknown in
    let mask = c.loop-unknown.barred in
    let barred = c.loop-unknown.invariant.barred in
    let l : u < z.unknowns = omega arith in (
      λ on. absurd (cc),
      λ kept. absurd (elim c.if-leads.branch [
        | then-leads w ↦
            let leading = on_leads o z.unknowns s.coefficient u mask barred l w.if-leads.true in
            let gives = w.is_giving-passes.ensures.1 (kept_leading o laws z s kept u l leading) in cc
        | else-leads w ↦
            let other = off_leads_not o z.unknowns s.coefficient u mask barred l w.if-leads.false in
            let empty = w.is_empty-passes.ensures.1 (kept_other o laws z s kept u l other) in cc
      ]),
    )

pub loop-unknown-preserved : goal.loop-unknown-preserved
loop-unknown-preserved g c =
    let o = g.A.Arithmetic.operations in
    let z = c.args.size.now in
    let s = memory o z c.args.coefficients.now c.args.symbols.now in
    let u = c.loop-unknown.unknown in
    let mask = c.loop-unknown.barred in
    let off = length-set mask u false in
    let around = barred_around o z.unknowns s.coefficient u mask c.loop-unknown.invariant.barred (omega arith) in
    record {
      long = length-set (slice_set mask u false) u true ∙ off ∙ c.loop-unknown.invariant.long;
      barred = barred_next o z.unknowns s.coefficient u (slice_set mask u false) around (omega arith);
      passed = λ v. below_more (Passes o z s) u c.loop-unknown.invariant.passed
          (elim c.if-leads.branch [
            | then-leads w ↦ inr (w.is_giving-passes.ensures.0 (sym w.passes-is ∙ c.if-not-passes.false))
            | else-leads w ↦ inl (w.is_empty-passes.ensures.0 (sym w.passes-is ∙ c.if-not-passes.false))
          ])
          v;
    }

pub returns-then-not-is_empty : goal.returns-then-not-is_empty
returns-then-not-is_empty g c =
    (λ on. absurd (cc), λ kept. absurd (let empty = c.is_empty.ensures.1 (kept.spare c.loop-row.row (omega arith) (omega arith)) in cc))

pub loop-row-preserved : goal.loop-row-preserved
loop-row-preserved g c r from h =
    let o = g.A.Arithmetic.operations in
    let z = c.args.size.now in
    let s = memory o z c.args.coefficients.now c.args.symbols.now in
    below_more (λ q. z.unknowns ≤ q → Empty o z s q) c.loop-row.row (λ q k f. c.loop-row.invariant q f k)
    (λ f. c.is_empty.ensures.0 c.if-not-is_empty.false) r h from

pub returns : goal.returns
returns g c =
    let o = g.A.Arithmetic.operations in
    let z = c.args.size.now in
    let s = memory o z c.args.coefficients.now c.args.symbols.now in (
      λ on. passes_kept o g.met.A.Arithmetic.laws z s (λ u l. c.loop-unknown.invariant.passed u (omega arith))
          (λ r from k. c.loop-row.invariant r from (omega arith)),
      λ kept. refl,
    )
