-- Whether a plan allows losses, by computing. lost t says whether slot t was lost. Assumes nothing.
use Rattle.std.proofs.Common.{refl, ◌≡◌, ℕ, zero, suc, ◌+◌, ◌-◌, ◌*◌, ◌<◌, ◌≤◌, inl, inr, Bool, true, false, subst, arith}
use Rattle.std.specs.Prelude.{not, ◌&&◌, ◌||◌, nat_le, nat_lt}
use Rattle.std.proofs.lemmas.Bool.{cases_lt, and_parts, and_from, or_cases, not-true, not_from_false, both_ways, leb-true, le-leb, ltb-true}
use Rattle.plan.specs.Numbers.{PlanNumbers}
use Rattle.repair.specs.Losses.{LossRun, losses, Followed, short_deadline, deadline, Allows}

-- the test holds of each number below n
abbrev each_below : ℕ → (ℕ → Bool) → Bool
each_below zero test = true
each_below (suc n) test = test n && each_below n test

-- so it holds of one of them
each_at : (n : ℕ) (test : ℕ → Bool) → each_below n test ≡ true → (i : ℕ) → i < n → test i ≡ true
each_at zero test all i l = absurd (omega arith)
each_at (suc n) test all i l =
    let parts = and_parts (test n) (each_below n test) all in
    elim (cases_lt i n) [
      | inl less ↦ each_at n test parts.1 i less
      | inr last ↦ let e : n ≡ i = omega arith in subst (λ (j : ℕ). test j ≡ true) e parts.0
    ]

-- and it does where it holds of each
each_from : (n : ℕ) (test : ℕ → Bool) → ((i : ℕ) → i < n → test i ≡ true) → each_below n test ≡ true
each_from zero test each = refl
each_from (suc n) test each =
    and_from (test n) (each_below n test) (each n (omega arith)) (each_from n test (λ i l. each i (omega arith)))

module _ (lost : ℕ → Bool) where
  -- slots a to a + d - 1 were lost
  abbrev all_lost : ℕ → ℕ → Bool
  all_lost a d = each_below d (λ i. lost (a + i))

  -- none of them was
  abbrev none_lost : ℕ → ℕ → Bool
  none_lost a d = each_below d (λ i. not (lost (a + i)))

  -- slot a is the first of a row of losses, if it was lost: the slot before it was not
  abbrev first_lost : ℕ → Bool
  first_lost zero = true
  first_lost (suc a) = not (lost a)

  -- slots a to e are a run
  abbrev is_run : ℕ → ℕ → Bool
  is_run a e = nat_le a e && (all_lost a (losses a e) && (first_lost a && not (lost (e + 1))))

  -- where that is found, no slot right before slot a was lost
  before_if : (a : ℕ) → first_lost a ≡ true → (t : ℕ) → t + 1 ≡ a → lost t ≡ false
  before_if zero none t e = absurd (omega arith)
  before_if (suc a) none t e = let same : a ≡ t = omega arith in subst (λ (u : ℕ). lost u ≡ false) same (not-true (lost a) none)

  -- and where none was, that is found
  before_from : (a : ℕ) → ((t : ℕ) → t + 1 ≡ a → lost t ≡ false) → first_lost a ≡ true
  before_from zero before = refl
  before_from (suc a) before = not_from_false (lost a) (before a (omega arith))

  -- where it is found that all slots a to e were lost, each was
  inside_if : (a e : ℕ) → all_lost a (losses a e) ≡ true → (t : ℕ) → a ≤ t → t ≤ e → lost t ≡ true
  inside_if a e all t from to =
      let at : a + (t - a) ≡ t = omega arith in
      subst (λ (u : ℕ). lost u ≡ true) at (each_at (losses a e) (λ i. lost (a + i)) all (t - a) (omega arith))

  -- what is found to be a run is one
  pub run_if : (a e : ℕ) → is_run a e ≡ true → LossRun lost a e
  run_if a e is =
      let first = and_parts _ _ is in
      let second = and_parts _ _ first.1 in
      let third = and_parts _ _ second.1 in
      record {
        order = leb-true a e first.0;
        inside = inside_if a e second.0;
        before = before_if a third.0;
        behind = not-true (lost (e + 1)) third.1;
      }

  -- and each run is found
  run_found : (a e : ℕ) → LossRun lost a e → is_run a e ≡ true
  run_found a e run =
      and_from _ _ (le-leb a e run.order)
      (and_from _ _ (each_from (losses a e) (λ i. lost (a + i)) (λ i l. run.inside (a + i) (omega arith) (omega (arith, run.order))))
      (and_from _ _ (before_from a run.before) (not_from_false (lost (e + 1)) run.behind)))

  -- d arrivals come before any loss behind slot e
  followed_if : (e d : ℕ) → none_lost (e + 1) d ≡ true → Followed lost e d
  followed_if e d none t late within =
      let at : e + 1 + (t - (e + 1)) ≡ t = omega arith in
      subst (λ (u : ℕ). lost u ≡ false) at
      (not-true _ (each_at d (λ i. not (lost (e + 1 + i))) none (t - (e + 1)) (omega arith)))

module _ (plan : PlanNumbers) (lost : ℕ → Bool) where
  -- a short run, and T arrivals
  abbrev is_short : ℕ → ℕ → Bool
  is_short a e = nat_le (losses a e) plan.burst && none_lost lost (e + 1) (short_deadline plan)

  -- a long run, and D arrivals
  abbrev is_long : ℕ → ℕ → Bool
  is_long a e =
      nat_lt plan.burst (losses a e)
      && (nat_le (losses a e) (plan.stretch * plan.burst) && none_lost lost (e + 1) (deadline plan))

  -- if slots a to e are a run, the plan allows it
  abbrev is_allowed_run : ℕ → ℕ → Bool
  is_allowed_run a e = not (is_run lost a e) || (is_short a e || is_long a e)

  -- it allows each run of slots below n
  abbrev pub is_allowed : ℕ → Bool
  is_allowed n = each_below n (λ a. each_below n (λ e. is_allowed_run a e))

  -- where no slot from n on was lost, it allows all
  pub allowed_if : (n : ℕ) → ((t : ℕ) → n ≤ t → lost t ≡ false) → is_allowed n ≡ true → Allows plan lost
  allowed_if n none all a e run =
      let settled : e < n = elim (cases_lt e n) [
        | inl early ↦ early
        | inr late ↦ absurd (both_ways (lost e) (none e late) (run.inside e run.order (omega arith)))
      ] in
      let of_a = each_at n (λ a. each_below n (λ e. is_allowed_run a e)) all a (omega (arith, run.order)) in
      let here = each_at n (λ e. is_allowed_run a e) of_a e settled in
      elim (or_cases _ _ here) [
        | inl none ↦ absurd (both_ways (is_run lost a e) (not-true (is_run lost a e) none) (run_found lost a e run))
        | inr kinds ↦ elim (or_cases (is_short a e) (is_long a e) kinds) [
          | inl short ↦
              let parts = and_parts _ _ short in
              inl (leb-true (losses a e) plan.burst parts.0, followed_if lost e (short_deadline plan) parts.1)
          | inr long ↦
              let first = and_parts _ _ long in
              let second = and_parts _ _ first.1 in
              inr (
                (ltb-true plan.burst (losses a e) first.0, leb-true (losses a e) (plan.stretch * plan.burst) second.0),
                followed_if lost e (deadline plan) second.1,
              )
        ]
      ]
