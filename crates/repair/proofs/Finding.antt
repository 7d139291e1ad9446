-- The run that a lost slot lies in. Assumes nothing.
use Rattle.std.proofs.Common.{◌≡◌, ℕ, zero, suc, ◌+◌, ◌-◌, ◌<◌, ◌≤◌, inl, inr, subst, arith}
use Rattle.std.specs.Prelude.{Bool, true, false}
use Rattle.std.proofs.lemmas.Bool.{both_ways, cases_Bool, cases_lt}
use Rattle.repair.specs.Losses.{LossRun, Followed}

-- where r arrivals follow slot e, a later loss comes behind them
pub behind_arrivals : (lost : ℕ → Bool) (e r t : ℕ) → Followed lost e r → e < t → lost t ≡ true → e + r < t
behind_arrivals lost e r t followed later gone = elim (cases_lt (e + r) t) [
  | inl past ↦ past
  | inr soon ↦ absurd (both_ways (lost t) (followed t later soon) gone)
]

-- a run that begins before another ends before it
pub over_before : (lost : ℕ → Bool) (c f a e : ℕ) → LossRun lost c f → LossRun lost a e → c < a → f < a
over_before lost c f a e earlier run first = elim (cases_lt f a) [
  | inl over ↦ over
  | inr on ↦ absurd (both_ways (lost (a - 1)) (run.before (a - 1) (omega arith)) (earlier.inside (a - 1) (omega arith) (omega arith)))
]

-- slots a to e were lost
abbrev AllLost : (ℕ → Bool) → ℕ → ℕ → Type 0
AllLost lost a e = (t : ℕ) → a ≤ t → t ≤ e → lost t ≡ true

-- a lost slot alone
alone : (lost : ℕ → Bool) (i : ℕ) → lost i ≡ true → AllLost lost i i
alone lost i gone t from to = subst (λ u. lost u ≡ true) (omega arith) gone

-- one row of losses behind the other
joined : (lost : ℕ → Bool) (a b c e : ℕ) → AllLost lost a b → AllLost lost c e → c ≤ b + 1 → AllLost lost a e
joined lost a b c e one other near t from to = elim (cases_lt b t) [
  | inl later ↦ other t (omega arith) to
  | inr earlier ↦ one t from earlier
]

-- slots a to i were lost, and none lies right before them
record Begins (lost : ℕ → Bool) (i a : ℕ) : Type 0 where
  order : a ≤ i
  inside : AllLost lost a i
  before : (t : ℕ) → t + 1 ≡ a → lost t ≡ false

-- slots i to e were lost, and none lies right behind them
record Ends (lost : ℕ → Bool) (i e : ℕ) : Type 0 where
  order : i ≤ e
  inside : AllLost lost i e
  behind : lost (e + 1) ≡ false

-- the row of lost slots up to a lost slot has a beginning
beginning : (lost : ℕ → Bool) (i : ℕ) → lost i ≡ true → (a : ℕ) × Begins lost i a
beginning lost zero gone = (0, record { order = omega arith; inside = alone lost 0 gone; before = λ t e. absurd (omega arith) })
beginning lost (suc i) gone = elim (cases_Bool (lost i)) [
  | inl more ↦
      let (a, row) = beginning lost i more in (
        a,
        record {
          order = omega (arith, row.order);
          inside = joined lost a i (suc i) (suc i) row.inside (alone lost (suc i) gone) (omega arith);
          before = row.before;
        },
      )
  | inr none ↦ (
    suc i,
    record {
      order = omega arith;
      inside = alone lost (suc i) gone;
      before = λ t e. subst (λ u. lost u ≡ false) (omega arith) none;
    },
  )
]

-- from slot n on nothing was lost
module _ (lost : ℕ → Bool) (n : ℕ) (late : (t : ℕ) → n ≤ t → lost t ≡ false) where
  -- and the row from it on has an end, before slot n; d is how many slots are left to look at
  ending : (d i : ℕ) → n ≤ i + d → lost i ≡ true → (e : ℕ) × Ends lost i e
  ending zero i near gone = absurd (both_ways (lost i) (late i (omega arith)) gone)
  ending (suc d) i near gone = elim (cases_Bool (lost (i + 1))) [
    | inl more ↦
        let (e, row) = ending d (i + 1) (omega arith) more in (
          e,
          record {
            order = omega (arith, row.order);
            inside = joined lost i i (i + 1) e (alone lost i gone) row.inside (omega arith);
            behind = row.behind;
          },
        )
    | inr none ↦ (i, record { order = omega arith; inside = alone lost i gone; behind = none })
  ]

  -- so it lies in a run
  pub run_of : (i : ℕ) → lost i ≡ true → (a : ℕ) × ((e : ℕ) × (LossRun lost a e × ((a ≤ i) × (i ≤ e))))
  run_of i gone =
      let (a, front) = beginning lost i gone in
      let (e, back) = ending n i (omega arith) gone in
      let run : LossRun lost a e = record {
        order = omega (arith, front.order, back.order);
        inside = joined lost a i i e front.inside back.inside (omega arith);
        before = front.before;
        behind = back.behind;
      } in
      (a, (e, (run, (front.order, back.order))))
