-- The slots of one remainder: a pattern of losses, as each b-th slot alone sees it. Assumes nothing.
use Rattle.std.proofs.Common.{◌≡◌, ℕ, zero, suc, ◌+◌, ◌-◌, ◌*◌, ◌<◌, ◌≤◌, inl, inr, subst, ap, mul-le-mul_left, mul-le-mul_right, arith}
use Rattle.std.specs.Prelude.{Bool, true, false}
use Rattle.std.proofs.lemmas.Bool.{cases_lt, false_from_ne_true, both_ways}
use Rattle.repair.specs.Losses.{LossRun, losses, Followed}
use Rattle.repair.proofs.Allowing.{AllowsRuns}
use Rattle.repair.proofs.Finding.{run_of}

-- the losses of the slots r, b + r, 2b + r and so on, as a pattern of their own
abbrev pub on_remainder : (ℕ → Bool) → ℕ → ℕ → ℕ → Bool
on_remainder lost b r j = lost (j * b + r)

-- where no slot from n on is lost, none of the remainder is
pub late_on : (lost : ℕ → Bool) (n b r : ℕ) → ((t : ℕ) → n ≤ t → lost t ≡ false) → 1 ≤ b
    → (j : ℕ) → n ≤ j → on_remainder lost b r j ≡ false
late_on lost n b r late some j from = let far : j * 1 ≤ j * b = mul-le-mul_left j some in late (j * b + r) (omega arith)

-- behind each run come at least d slots without a loss
abbrev Apart : (ℕ → Bool) → ℕ → Type 0
Apart lost d = (a e : ℕ) → LossRun lost a e → Followed lost e d

-- what is followed by some slots without a loss is followed by fewer
fewer : (lost : ℕ → Bool) (e d g : ℕ) → g ≤ d → Followed lost e d → Followed lost e g
fewer lost e d g l followed k from to = followed k from (omega arith)

-- where losses are allowed, each run is followed by so many slots without a loss as short and long runs both need
pub runs_apart : (lost : ℕ → Bool) (b t c d g : ℕ) → g ≤ t → g ≤ d → AllowsRuns lost b t c d → Apart lost g
runs_apart lost b t c d g lt ld allows a e run = elim (allows a e run) [
  | inl short ↦ fewer lost e t g lt short.1
  | inr long ↦ fewer lost e d g ld long.1
]

module _ (lost : ℕ → Bool) (first last : ℕ) (run : LossRun lost first last) where
  -- where b slots without a loss follow each run, no slot before a run and at most b slots before one of its own was lost
  came_before : (n b : ℕ) → ((t : ℕ) → n ≤ t → lost t ≡ false) → Apart lost b
      → (s t : ℕ) → s < first → first ≤ t → t ≤ last → t ≤ s + b → lost s ≡ false
  came_before n b late apart s t early from to near = false_from_ne_true (lost s) (λ was.
      let found = run_of lost n late s was in
      let other = found.1.1.0 in
      elim (cases_lt found.1.0 first) [
        | inl earlier ↦
            both_ways (lost t) (apart found.0 found.1.0 other t (omega arith) (omega (arith, found.1.1.1.1))) (run.inside t from to)
        | inr meets ↦
            both_ways (lost (first - 1)) (run.before (first - 1) (omega arith))
            (other.inside (first - 1) (omega (arith, found.1.1.1.0)) (omega arith))
      ])

  module _ (b r : ℕ) where
    -- a lost slot that is b slots behind one of the run is of the run too, where b slots without a loss follow it
    stays : Followed lost last b → (t : ℕ) → t ≤ last → lost (t + b) ≡ true → t + b ≤ last
    stays followed t to was = elim (cases_lt last (t + b)) [
      | inl late ↦ absurd (both_ways (lost (t + b)) (followed (t + b) late (omega arith)) was)
      | inr fits ↦ fits
    ]

    -- so is a whole row of lost slots of the remainder that begins in it
    row : Followed lost last b → (a n : ℕ) → ((k : ℕ) → a ≤ k → k ≤ a + n → on_remainder lost b r k ≡ true) → a * b + r ≤ last
        → (a + n) * b + r ≤ last
    row followed a zero inside to = omega arith
    row followed a (suc n) inside to =
        let next : (a + suc n) * b + r ≡ (a + n) * b + r + b = omega arith in
        let here = row followed a n (λ k least most. inside k least (omega arith)) to in
        let was = subst (λ (t : ℕ). lost t ≡ true) next (inside (a + suc n) (omega arith) (omega arith)) in
        let there = stays followed ((a + n) * b + r) here was in
        omega arith

    -- a run of the remainder that begins in a run of the whole ends in it
    run_on : Followed lost last b → (a e : ℕ) → LossRun (on_remainder lost b r) a e → a * b + r ≤ last → e * b + r ≤ last
    run_on followed a e part to =
        let order = part.order in
        let end : a + (e - a) ≡ e = omega arith in
        subst (λ (k : ℕ). k * b + r ≤ last) end (row followed a (e - a) (λ k least most. part.inside k least (omega arith)) to)

    -- a run of the remainder that lies in one with at most c times b losses has at most c
    losses_on : (a e c : ℕ) → first ≤ a * b + r → e * b + r ≤ last → losses first last ≤ c * b → losses a e ≤ c
    losses_on a e c from to most = elim (cases_lt e (a + c)) [
      | inl few ↦ omega arith
      | inr many ↦ let apart : (a + c) * b ≤ e * b = mul-le-mul_right b many in let order = run.order in absurd (omega arith)
    ]

    -- and where d times b slots without a loss follow the one, d of the remainder follow the other
    followed_on : (a e d : ℕ) → LossRun (on_remainder lost b r) a e → first ≤ e * b + r → e * b + r ≤ last
        → Followed lost last (d * b) → Followed (on_remainder lost b r) e d
    followed_on a e d part from to followed k after upto = elim (cases_lt last (k * b + r)) [
      | inl late ↦ let most : k * b ≤ (e + d) * b = mul-le-mul_right b upto in followed (k * b + r) late (omega arith)
      | inr inside ↦
          let next : (e + 1) * b ≤ k * b = mul-le-mul_right b (omega arith) in
          absurd (both_ways (lost ((e + 1) * b + r)) part.behind (run.inside ((e + 1) * b + r) (omega arith) (omega arith)))
    ]

    -- a slot of a short run is a run of its own on its remainder
    pub short_on : (n : ℕ) → ((t : ℕ) → n ≤ t → lost t ≡ false) → Apart lost b → losses first last ≤ b
        → (j : ℕ) → first ≤ j * b + r → j * b + r ≤ last → LossRun (on_remainder lost b r) j j
    short_on n late apart short j from to = record {
      order = omega arith;
      inside = λ t least most. subst (λ (k : ℕ). on_remainder lost b r k ≡ true) (omega arith) (run.inside (j * b + r) from to);
      before = λ t next.
          let slot = ap (λ (k : ℕ). k * b + r) next in
          came_before n b late apart (t * b + r) (j * b + r) (omega arith) from to (omega arith);
      behind = apart first last run ((j + 1) * b + r) (omega arith) (omega arith);
    }

-- losses that are allowed are so on the slots of each remainder, where all numbers are b times smaller: a long run that has one
-- slot of them is short there, and is followed by more arrivals than it needs
pub allows_on : (lost : ℕ → Bool) (n b t c d r : ℕ) → ((t : ℕ) → n ≤ t → lost t ≡ false) → 1 ≤ t → t ≤ d
    → AllowsRuns lost b (t * b) (c * b) (d * b) → AllowsRuns (on_remainder lost b r) 1 t c d
allows_on lost n b t c d r late some more allows a e part =
    let found = run_of lost n late (a * b + r) (part.inside a (omega arith) part.order) in
    let first = found.0 in
    let last = found.1.0 in
    let run = found.1.1.0 in
    let from = found.1.1.1.0 in
    let to = found.1.1.1.1 in
    let low : b ≤ t * b = omega (arith, mul-le-mul_right b some) in
    let high : b ≤ d * b = omega (arith, low, mul-le-mul_right b more) in
    let order : a * b ≤ e * b = mul-le-mul_right b part.order in
    elim (allows first last run) [
      | inl short ↦
          let end = run_on lost first last run b r (fewer lost last (t * b) b low short.1) a e part to in
          inl (
            losses_on lost first last run b r a e 1 from end (omega (arith, short.0)),
            followed_on lost first last run b r a e t part (omega (arith, from)) end short.1,
          )
      | inr long ↦
          let end = run_on lost first last run b r (fewer lost last (d * b) b high long.1) a e part to in
          let followed = followed_on lost first last run b r a e d part (omega (arith, from)) end long.1 in
          elim (cases_lt 1 (losses a e)) [
            | inl many ↦ inr ((many, losses_on lost first last run b r a e c from end long.0.1), followed)
            | inr one ↦ inl (one, fewer (on_remainder lost b r) e d t more followed)
          ]
    ]
