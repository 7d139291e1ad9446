-- Which losses a plan allows, and by when all is repaired, in numbers. Assumes nothing.
use Rattle.std.proofs.Common.{◌≡◌, ℕ, ◌+◌, ◌*◌, ◌<◌, ◌≤◌, ◌⊎◌, inl, inr, add-mul, one-mul, arith}
use Rattle.std.specs.Prelude.{Bool}
use Rattle.repair.specs.Losses.{LossRun, losses, Followed}

-- each run has at most b losses and t arrivals behind it, or more, but at most c, and d arrivals
abbrev pub AllowsRuns : (ℕ → Bool) → ℕ → ℕ → ℕ → ℕ → Type 0
AllowsRuns lost b t c d =
    (a e : ℕ) → LossRun lost a e
    → ((losses a e ≤ b) × Followed lost e t)
    ⊎ (((b < losses a e) × (losses a e ≤ c)) × Followed lost e d)

-- d is D where B is 1, of m sub-symbols, for runs of at most s + 1 losses: m where s is 0, and else (s + 1) times m, and 1
abbrev pub Deadline : ℕ → ℕ → ℕ → Type 0
Deadline m s d = ((s ≡ 0) × (d ≡ m)) ⊎ ((1 ≤ s) × (d ≡ (s + 1) * m + 1))

-- it is no sooner than T
pub shortest : (m s d : ℕ) → Deadline m s d → m ≤ d
shortest m s d (inl (none, is)) = omega arith
shortest m s d (inr (some, is)) = omega (arith, add-mul s 1 m, one-mul m)
