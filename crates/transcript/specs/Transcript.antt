-- What is printed for a link's whole text. Assumes nothing.
use Rattle.std.specs.Prelude.{◌≡◌, ℕ, List, [], ◌∷◌, ◌++◌, Some, None}
use Rattle.refusal.specs.declared.Refusal.{Refusal}
use Rattle.refusal.specs.declared.Refusal.TheVariants.{BrokenLine}
use Rattle.refusal.specs.Number.{number_of}
use Rattle.plan.specs.Numbers.{PlanNumbers, short_deadline_of, deadline_of}
use Rattle.plan.specs.Codes.{plan_shape, plan_link}
use Rattle.plan.specs.declared.card.ArithmeticName.{ArithmeticName}
use Rattle.plan.specs.declared.card.ArithmeticName.TheVariants.{Word, Byte}
use Rattle.linktext.specs.PlanLine.{plan_line_refusal, Says}
use Rattle.linktext.specs.Lines.{text_of_plan, text_of_shape, text_of_refusal}
use Rattle.word.specs.Arithmetic.{word_operations, word_strings}
use Rattle.byte.specs.Arithmetic.{byte_operations, byte_strings}
use Rattle.transcript.specs.Printed.{Printed}

-- the packets of a plan's link, in the arithmetic of this name
abbrev pub PrintedIn : ArithmeticName → PlanNumbers → List (List ℕ) → List ℕ → Type 0
PrintedIn Word plan lines out = Printed (plan_link word_operations plan) word_strings lines out
PrintedIn Byte plan lines out = Printed (plan_link byte_operations plan) byte_strings lines out

-- the two lines on the plan
abbrev pub heading : PlanNumbers → List ℕ
heading plan =
    let short = short_deadline_of plan.burst plan.width in
    let long = deadline_of plan.burst plan.width plan.stretch in
    let shape = plan_shape plan.burst plan.width plan.stretch in
    text_of_plan plan.burst plan.width plan.stretch plan.symbols plan.arithmetic
    ++ (10 ∷ (text_of_shape short long shape ++ (10 ∷ [])))

-- the first line hands in the plan, the others packets; a text without a line, or whose plan is refused, says so
pub data Transcript : List (List ℕ) → List ℕ → Type 0 where
  nothing : Transcript [] (text_of_refusal BrokenLine 1 ++ (10 ∷ []))
  unplanned : {first : List ℕ} {lines : List (List ℕ)} (why : Refusal)
      → plan_line_refusal first ≡ Some (number_of why)
      → Transcript (first ∷ lines) (text_of_refusal why 1 ++ (10 ∷ []))
  planned : {first : List ℕ} {lines : List (List ℕ)} (out : List ℕ) (plan : PlanNumbers)
      → plan_line_refusal first ≡ None
      → Says first plan
      → PrintedIn plan.arithmetic plan lines out
      → Transcript (first ∷ lines) (heading plan ++ out)
