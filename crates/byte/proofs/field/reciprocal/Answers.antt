use Rattle.std.proofs.Common.{ℕ, ◌+◌, ◌-◌, sym, ap, ◌∙◌, ap₂, arith}
use Rattle.galois.specs.Product.{product, squarings}
use Rattle.galois.proofs.Steps.{squarings_first, squarings_more, squarings_none}
use Rattle.byte.specs.declared.element.Byte.{Byte}
use Rattle.byte.proofs.field.reciprocal.Goals as goal

pub loop-step-init : goal.loop-step-init
loop-step-init c =
    ap (λ (r : Byte). product r.value (squarings 7 c.args.a.value)) c.one-result.ensures.value
    ∙ squarings_first c.args.a.value c.args.a.ok

pub loop-step-preserved : goal.loop-step-preserved
loop-step-preserved c =
    let square = c.product-square.ensures.value in
    ap₂ (λ (r s : ℕ). product r (squarings (7 - (c.loop-step._step + 1)) s))
    (c.product-result.ensures.value ∙ ap (product c.loop-step.result.value) square)
    square
    ∙ squarings_more c.loop-step._step c.loop-step.result.value c.loop-step.square.value
    (omega arith) c.loop-step.result.ok c.loop-step.square.ok
    ∙ c.loop-step.invariant

pub returns : goal.returns
returns c =
    sym (squarings_none c.loop-step._step c.loop-step.result.value c.loop-step.square.value
    (omega arith) c.loop-step.result.ok)
    ∙ c.loop-step.invariant
