-- A plan's line that breaks its form. Assumes nothing.
use Rattle.std.proofs.Common.{◌≡◌, ℕ, Bool, true, false, not, ltb, List, length, Some, sym, refl, ap, ◌∙◌, arith}
use Rattle.std.proofs.lemmas.Bool.{and_left, and_right, not_from_false, or_right}
use Rattle.refusal.specs.Order.{refused, accepted}
use Rattle.plan.specs.Numbers.{plan_refusal}
use Rattle.linktext.specs.Fields.{front, back, is_number, read_on}
use Rattle.linktext.specs.PlanLine.{plan_form, plan_line_refusal, longest}

-- a field that is no number breaks the whole
pub second_wrong : (cs : List ℕ) → is_number (front (back cs)) ≡ false → plan_form cs ≡ false
second_wrong cs h = and_right (is_number (front cs)) _ (and_left _ _ h)

pub third_wrong : (cs : List ℕ) → is_number (front (back (back cs))) ≡ false → plan_form cs ≡ false
third_wrong cs h = and_right (is_number (front cs)) _ (and_right (is_number (front (back cs))) _ (and_left _ _ h))

pub fourth_wrong : (cs : List ℕ) → is_number (front (back (back (back cs)))) ≡ false → plan_form cs ≡ false
fourth_wrong cs h =
    and_right (is_number (front cs)) _
    (and_right (is_number (front (back cs))) _ (and_right (is_number (front (back (back cs)))) _ (and_left _ _ h)))

broken : (cs : List ℕ) → plan_form cs ≡ false → Some 10 ≡ plan_line_refusal cs
broken cs h =
    let b = front cs in
    let r = back cs in
    let rest = plan_refusal (read_on 0 b) (read_on 0 (front r)) (read_on 0 (front (back r))) (read_on 0 (front (back (back r)))) in
    sym (ap (λ (t : Bool). refused t 10 rest) (or_right (ltb longest (length cs)) (not (plan_form cs)) (not_from_false (plan_form cs) h)))

-- what a field is refused for, the line is
pub field_refused : (cs : List ℕ) (b : Bool) (why : ℕ) → (b ≡ false → plan_form cs ≡ false)
    → Some why ≡ refused (not b) 10 accepted → Some why ≡ plan_line_refusal cs
field_refused cs true why wrong e = let z : ◌≡◌ {A = ℕ} 0 1 = cc in absurd (omega arith)
field_refused cs false why wrong e = e ∙ broken cs (wrong refl)
