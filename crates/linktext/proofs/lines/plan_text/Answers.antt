use Rattle.std.proofs.Common.{◌≡◌, string_bytes, refl, ◌∙◌}
use Rattle.std.proofs.lemmas.Result.{IfOk-weaker}
use Rattle.linktext.specs.Lines.{text_of_plan}
use Rattle.linktext.proofs.lines.plan_text.Goals as goal

pub returns : goal.returns
returns c =
    let plan = c.args.plan.now in
    IfOk-weaker c.format.result _ (λ s. string_bytes s ≡ text_of_plan plan.burst plan.width plan.stretch plan.symbols plan.arithmetic)
    (λ s e. e ∙ rw (c.burst-burst.ensures.value, c.width-width.ensures.value, c.stretch-stretch.ensures.value, c.symbols-symbols.ensures.value, c.arithmetic-name.ensures) refl)
    c.format.ensures.ok
