-- The numbers of a plan: B losses to a short run, m sub-symbols, α times as many losses to a long run, L symbols. Assumes nothing.
use Rattle.std.specs.Prelude.{◌≡◌, ℕ, ◌+◌, ◌*◌, cond, Option, ◌==◌}
use Rattle.refusal.specs.Order.{refused, accepted}
use Rattle.codes.specs.Shape.{out_of}
use Rattle.plan.specs.declared.card.ArithmeticName.{ArithmeticName}

-- what a plan says
pub record PlanNumbers : Type 0 where
  -- B, the losses of a short run
  pub burst : ℕ
  -- m, the sub-symbols of a packet
  pub width : ℕ
  -- α, how many times the losses of a short run a long one may have
  pub stretch : ℕ
  -- L, the symbols of a sub-symbol
  pub symbols : ℕ
  -- which arithmetic the link is run in
  pub arithmetic : ArithmeticName

-- each number has its limits
abbrev pub plan_refusal : ℕ → ℕ → ℕ → ℕ → Option ℕ
plan_refusal b m α l =
    refused (out_of 1 63 b) 1
    (refused (out_of 1 8 m) 1
    (refused (out_of 1 8 α) 1
    (refused (out_of 1 32 l) 1 accepted)))

-- its numbers are within their limits
abbrev pub IsPlan : PlanNumbers → Type 0
IsPlan plan = plan_refusal plan.burst plan.width plan.stretch plan.symbols ≡ accepted

-- T: within so many slots a packet of a short run is repaired
abbrev pub short_deadline_of : ℕ → ℕ → ℕ
short_deadline_of b m = m * b

-- D: within so many slots every packet is repaired
abbrev pub deadline_of : ℕ → ℕ → ℕ → ℕ
deadline_of b m α = cond (α == 1) (short_deadline_of b m) (α * short_deadline_of b m + b)
