use Rattle.std.proofs.Common.{◌≡◌, ◌+◌, ◌-◌, ◌*◌, min, false, get_or, sym, ◌∙◌, arith}
use Rattle.std.proofs.lemmas.Bool.{cond-false}
use Rattle.linktext.specs.Fields.{is_decimal}
use Rattle.linktext.proofs.Numbers.{has_value, no_digit, read_more, read_broken}
use Rattle.linktext.proofs.fields.digits_value.Goals as goal

pub returns-in_err-digit : goal.returns-in_err-digit
returns-in_err-digit c =
    let digits = c.args.digits.now in
    let wrong : is_decimal (get_or digits c.loop-c.c-index 0) ≡ false = rw (← c.from.ensures) (no_digit c.from.result c.in_err-digit.ensures.value) in
    c.from_residual.ensures ∙ sym (cond-false _ _ _ (read_broken digits c.loop-c.c-index c.loop-c.n c.loop-c-test.true wrong c.loop-c.invariant))

pub loop-c-preserved : goal.loop-c-preserved
loop-c-preserved c =
    let digits = c.args.digits.now in
    let d = get_or digits c.loop-c.c-index 0 in
    let good = rw c.from.ensures at (has_value c.from.result c.in_ok-digit.digit c.in_ok-digit.ensures.value.0 c.in_ok-digit.ensures.value.1) in
    let is : c.saturating_add-n.result ≡ min (c.loop-c.n * 10 + (d - 48)) 4294967295 = omega arith in
    read_more digits c.loop-c.c-index c.loop-c.n _ c.loop-c-test.true good.0 is c.loop-c.invariant
