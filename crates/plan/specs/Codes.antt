-- The code of a plan. Assumes nothing.
use Rattle.std.specs.Prelude.{◌≡◌, ℕ, ◌+◌, ◌-◌, ◌≤◌, cond, ◌==◌}
use Rattle.arithmetic.specs.Operations.{Sums, Products, Operations}
use Rattle.codes.specs.Shape.{Shape}
use Rattle.codes.specs.Link.{Link}
use Rattle.codes.specs.Coefficients.{main_shape, main_coefficients, back_shape, back_coefficients, overlay_shape, overlay, spread_shape, spread}
use Rattle.plan.specs.Numbers.{PlanNumbers}
use Rattle.plan.specs.declared.code.PlanCode.{PlanCode}
use Rattle.plan.specs.declared.code.PlanCode.TheVariants.{OneDeadline, TwoDeadlines}

-- α = 1: the main diagonal, spread by B. Else the main diagonal, and over it the back diagonal of step α - 1
-- delayed by m + 1, all spread by B
abbrev pub plan_shape : ℕ → ℕ → ℕ → Shape
plan_shape b m α =
    cond (α == 1) (spread_shape (main_shape m) b)
    (spread_shape (overlay_shape (main_shape m) (back_shape m (α - 1)) (m + 1)) b)

abbrev pub plan_coefficients : {F : Type 0} → Sums F → Products F → ℕ → ℕ → ℕ → ℕ → ℕ → ℕ → F
plan_coefficients s p b m α =
    cond (α == 1) (spread s (main_coefficients s p m) b)
    (spread s (overlay s (main_coefficients s p m) (back_coefficients s p m (α - 1)) (m + 1)) b)

-- the link of a plan, over an arithmetic
abbrev pub plan_link : {F S : Type 0} → Operations F S → PlanNumbers → Link F S
plan_link o plan = record {
  operations = o;
  shape = plan_shape plan.burst plan.width plan.stretch;
  coefficients = plan_coefficients o.coefficients o.products plan.burst plan.width plan.stretch;
  symbols = plan.symbols;
}

-- what a code made of these parts means
abbrev pub shape_of : PlanCode → Shape
shape_of (OneDeadline c) = spread_shape (main_shape c.code.width) c.step.value
shape_of (TwoDeadlines c) =
    spread_shape (overlay_shape (main_shape c.code.first.width) (back_shape c.code.second.width c.code.second.step.value) c.code.delay) c.step.value

abbrev pub coefficients_of : {F : Type 0} → Sums F → Products F → PlanCode → ℕ → ℕ → ℕ → F
coefficients_of s p (OneDeadline c) = spread s (main_coefficients s p c.code.width) c.step.value
coefficients_of s p (TwoDeadlines c) =
    spread s (overlay s (main_coefficients s p c.code.first.width) (back_coefficients s p c.code.second.width c.code.second.step.value) c.code.delay) c.step.value

-- the parts are those of the plan
abbrev pub CodeOf : ℕ → ℕ → ℕ → PlanCode → Type 0
CodeOf b m α (OneDeadline c) = (α ≡ 1) × (c.code.width ≡ m) × (c.step.value ≡ b)
CodeOf b m α (TwoDeadlines c) =
    (2 ≤ α) × (c.code.first.width ≡ m) × (c.code.second.width ≡ m) × (c.code.second.step.value ≡ α - 1)
    × (c.code.delay ≡ m + 1) × (c.step.value ≡ b)
