-- Runs of losses, and which losses a plan allows. lost t says whether slot t was lost; one that is
-- not settled was not. Assumes nothing.
use Rattle.std.specs.Prelude.{◌≡◌, ℕ, ◌+◌, ◌-◌, ◌*◌, ◌<◌, ◌≤◌, ◌⊎◌, Bool, true, false}
use Rattle.plan.specs.Numbers.{PlanNumbers, short_deadline_of, deadline_of}
use Rattle.streams.specs.Logs.{Log, was_lost}

-- slots a to e are a run: a longest row of neighbouring lost slots
pub record LossRun (lost : ℕ → Bool) (a e : ℕ) : Type 0 where
  pub order : a ≤ e
  pub inside : (t : ℕ) → a ≤ t → t ≤ e → lost t ≡ true
  pub before : (t : ℕ) → t + 1 ≡ a → lost t ≡ false
  pub behind : lost (e + 1) ≡ false

-- how many slots these are
abbrev pub losses : ℕ → ℕ → ℕ
losses a e = e + 1 - a

-- no loss comes in the d slots behind slot e: so at least d arrivals come before any next one
abbrev pub Followed : (ℕ → Bool) → ℕ → ℕ → Type 0
Followed lost e d = (t : ℕ) → e < t → t ≤ e + d → lost t ≡ false

-- a short run has at most B losses
abbrev pub Short : PlanNumbers → ℕ → ℕ → Type 0
Short plan a e = losses a e ≤ plan.burst

-- a long one has more, but at most α times B
abbrev pub Long : PlanNumbers → ℕ → ℕ → Type 0
Long plan a e = (plan.burst < losses a e) × (losses a e ≤ plan.stretch * plan.burst)

-- T and D
abbrev pub short_deadline : PlanNumbers → ℕ
short_deadline plan = short_deadline_of plan.burst plan.width

abbrev pub deadline : PlanNumbers → ℕ
deadline plan = deadline_of plan.burst plan.width plan.stretch

-- each run is short, and at least T arrivals follow it before any next loss, or long, and at least
-- D
abbrev pub Allows : PlanNumbers → (ℕ → Bool) → Type 0
Allows plan lost =
    (a e : ℕ) → LossRun lost a e
    → (Short plan a e × Followed lost e (short_deadline plan))
    ⊎ (Long plan a e × Followed lost e (deadline plan))

-- a plan allows a log, if it allows the slots that were lost in it
abbrev pub AllowsLog : {S : Type 0} → PlanNumbers → Log S → Type 0
AllowsLog plan log = Allows plan (was_lost log)
