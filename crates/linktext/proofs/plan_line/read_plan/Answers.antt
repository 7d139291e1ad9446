use Rattle.std.proofs.Common.{Some, ap, ◌∙◌}
use Rattle.std.proofs.lemmas.Result.{err_from_is_err_and}
use Rattle.refusal.specs.declared.Refusal.{Refusal}
use Rattle.refusal.specs.Number.{number_of}
use Rattle.refusal.specs.Order.{refused_with}
use Rattle.linktext.specs.Fields.{back}
use Rattle.linktext.proofs.Form.{field_refused, second_wrong, third_wrong, fourth_wrong}
use Rattle.linktext.proofs.plan_line.read_plan.Goals as goal

pub returns-in_err-width-clause-refusal : goal.returns-in_err-width-clause-refusal
returns-in_err-width-clause-refusal c =
    let line = c.args.line.now in
    let p = err_from_is_err_and c.from_residual-in_err-width.result c.from_residual-in_err-width.ensures.1 in
    let second = c.in_ok-burst.ensures.rest in
    ap refused_with p.1 ∙ ap (λ (w : Refusal). Some (number_of w)) p.2 ∙ field_refused line _ _ (second_wrong line) (rw second at c.in_err-width.ensures.refusal)

pub returns-in_err-stretch-clause-refusal : goal.returns-in_err-stretch-clause-refusal
returns-in_err-stretch-clause-refusal c =
    let line = c.args.line.now in
    let p = err_from_is_err_and c.from_residual-in_err-stretch.result c.from_residual-in_err-stretch.ensures.1 in
    let third = c.in_ok-width.ensures.rest ∙ ap back c.in_ok-burst.ensures.rest in
    ap refused_with p.1 ∙ ap (λ (w : Refusal). Some (number_of w)) p.2 ∙ field_refused line _ _ (third_wrong line) (rw third at c.in_err-stretch.ensures.refusal)

pub returns-in_err-symbols-clause-refusal : goal.returns-in_err-symbols-clause-refusal
returns-in_err-symbols-clause-refusal c =
    let line = c.args.line.now in
    let p = err_from_is_err_and c.from_residual-in_err-symbols.result c.from_residual-in_err-symbols.ensures.1 in
    let fourth = c.in_ok-stretch.ensures.rest ∙ ap back (c.in_ok-width.ensures.rest ∙ ap back c.in_ok-burst.ensures.rest) in
    ap refused_with p.1 ∙ ap (λ (w : Refusal). Some (number_of w)) p.2 ∙ field_refused line _ _ (fourth_wrong line) (rw fourth at c.in_err-symbols.ensures.refusal)
