use Rattle.std.proofs.Common.{◌≡◌, Bool, true, false, ◌&&◌, sym, ap, ◌∙◌}
use Rattle.std.specs.Slice.Iter.{chunks_rest}
use Rattle.std.proofs.lemmas.List.{nil_from_length}
use Rattle.hextext.specs.Digits.{all_digits}
use Rattle.hextext.proofs.Checks.{digits_joined, hex_is}
use Rattle.hextext.proofs.digits.is_hex.Goals as goal

pub loop-part-preserved : goal.loop-part-preserved
loop-part-preserved c =
    let rest = chunks_rest c.next.new.self in
    let front : all_digits c.in-Some.part.now ≡ true = sym c.only_digits.ensures ∙ c.if-not-only_digits.false in
    c.loop-part.invariant ∙ ap all_digits c.in-Some.ensures.steps.1.0 ∙ digits_joined c.in-Some.part.now rest ∙ ap (λ (t : Bool). t && all_digits rest) front

pub returns-then-not-only_digits : goal.returns-then-not-only_digits
returns-then-not-only_digits c =
    let rest = chunks_rest c.next.new.self in
    let front : all_digits c.in-Some.part.now ≡ false = sym c.only_digits.ensures ∙ c.if-not-only_digits.true in
    let is : all_digits c.args.text.now ≡ false =
    c.loop-part.invariant ∙ ap all_digits c.in-Some.ensures.steps.1.0 ∙ digits_joined c.in-Some.part.now rest ∙ ap (λ (t : Bool). t && all_digits rest) front in
    sym is ∙ hex_is c.args.text.now c.if-text-ne0.false

pub returns : goal.returns
returns c =
    let left = chunks_rest c.loop-part.part-iterator in
    let none = nil_from_length left c.in-None.ensures.steps.1.0 in
    sym (c.loop-part.invariant ∙ ap all_digits none) ∙ hex_is c.args.text.now c.if-text-ne0.false
