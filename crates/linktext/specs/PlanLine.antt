-- The first line of a link's text: B, m, α, L and a letter, W for word or F for byte arithmetic. Assumes nothing.
use Rattle.std.specs.Prelude.{◌≡◌, ℕ, Bool, false, not, ◌&&◌, ◌||◌, List, [], ◌∷◌, length, Option, ◌==◌, nat_lt}
use Rattle.refusal.specs.Order.{refused}
use Rattle.plan.specs.Numbers.{PlanNumbers, plan_refusal}
use Rattle.plan.specs.declared.card.ArithmeticName.{ArithmeticName}
use Rattle.plan.specs.declared.card.ArithmeticName.TheVariants.{Word, Byte}
use Rattle.linktext.specs.Fields.{front, back, is_number, read_on}

-- no line is longer than this
abbrev pub longest : ℕ
longest = 2050

abbrev pub is_letter : List ℕ → Bool
is_letter [] = false
is_letter (c ∷ []) = c == 87 || c == 70
is_letter (c ∷ d ∷ cs) = false

-- four numbers and a letter, one blank between
abbrev pub plan_form : List ℕ → Bool
plan_form cs =
    is_number (front cs)
    && (is_number (front (back cs))
    && (is_number (front (back (back cs)))
    && (is_number (front (back (back (back cs)))) && is_letter (back (back (back (back cs)))))))

-- a line that breaks its form first, then numbers outside their limits
abbrev pub plan_line_refusal : List ℕ → Option ℕ
plan_line_refusal cs =
    refused (nat_lt longest (length cs) || not (plan_form cs)) 10
    (plan_refusal (read_on 0 (front cs)) (read_on 0 (front (back cs))) (read_on 0 (front (back (back cs)))) (read_on 0 (front (back (back (back cs))))))

-- W names word arithmetic, F byte arithmetic
abbrev pub letter_text : ArithmeticName → List ℕ
letter_text Word = 87 ∷ []
letter_text Byte = 70 ∷ []

-- the line says the plan's numbers and names its arithmetic
pub record Says (cs : List ℕ) (plan : PlanNumbers) : Type 0 where
  pub burst : plan.burst ≡ read_on 0 (front cs)
  pub width : plan.width ≡ read_on 0 (front (back cs))
  pub stretch : plan.stretch ≡ read_on 0 (front (back (back cs)))
  pub symbols : plan.symbols ≡ read_on 0 (front (back (back (back cs))))
  pub letter : letter_text plan.arithmetic ≡ back (back (back (back cs)))
