use Rattle.std.proofs.Common.{◌≡◌, string_bytes, ap, ◌∙◌, subst}
use Rattle.std.proofs.lemmas.Result.{IfOk-weaker}
use Rattle.codes.specs.Link.{link_of}
use Rattle.plan.specs.Codes.{shape_of, coefficients_of, plan_link}
use Rattle.plan.proofs.Means.{code_link}
use Rattle.linktext.specs.Fields.{lines_of}
use Rattle.sender.specs.State.{fresh}
use Rattle.sender.specs.Block.{zero_history}
use Rattle.transcript.specs.Printed.{Printed}
use Rattle.transcript.specs.Steps.{PrintedFrom}
use Rattle.transcript.proofs.Starting.{from_start}
use Rattle.transcript.proofs.whole.send_packets.Goals as goal

pub returns : goal.returns
returns g c =
    let o = g.A.Arithmetic.operations in
    let b = g.A.Arithmetic.bytes in
    let plan = c.args.plan.now in
    let lines = lines_of c.args.lines.rest.now in
    let link = link_of o shape_of (coefficients_of g.A.Coef.Sum.sum g.A.Coef.Field.product) in
    let made : c.unwrap-sender.result ≡ fresh c.code.result c.symbols.result = rw c.unwrap-sender.ensures at c.new.ensures.made in
    let is_plan : link c.unwrap-sender.result.code c.unwrap-sender.result.symbols ≡ plan_link o plan =
    ap (λ s. link s.code s.symbols) made
    ∙ ap (link c.code.result) c.symbols.ensures.value
    ∙ code_link o g.A.Coef.Sum.sum g.A.Coef.Field.product g.met.A.Arithmetic.coefficients g.met.A.Arithmetic.products plan c.code.result c.code.ensures.parts in
    let at = c.in_ok-new.field-0 in
    let sender = c.in_ok-new.ensures.sender in
    let history = c.in_ok-new.ensures.history ∙ ap zero_history is_plan in
    IfOk-weaker c.answer_lines.result _ (λ s. Printed (plan_link o plan) b lines (string_bytes s))
    (λ s printed.
    from_start (plan_link o plan) b at.history.items at.sender.next lines (string_bytes s) history
    (ap (λ s. s.next) (sender ∙ made))
    (subst (λ k. PrintedFrom k b at.history.items at.sender.next lines (string_bytes s)) (ap (λ s. link s.code s.symbols) sender ∙ is_plan) printed))
    c.answer_lines.ensures
