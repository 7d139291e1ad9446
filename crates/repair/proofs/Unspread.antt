-- Repair times where a short run is one lost slot. Assumes nothing.
use Rattle.std.proofs.Common.{◌≡◌, ℕ, zero, suc, ◌+◌, ◌*◌, ◌<◌, ◌≤◌, ◌⊎◌, inl, inr, arith}
use Rattle.std.specs.Prelude.{Bool, false}
use Rattle.std.proofs.lemmas.Bool.{cases_Bool}
use Rattle.repair.specs.Losses.{LossRun, losses, Followed}
use Rattle.repair.proofs.Allowing.{AllowsRuns, Deadline, shortest}
use Rattle.repair.proofs.Telling.{Tells}
use Rattle.repair.proofs.Repairing.{single, in_run}
use Rattle.repair.proofs.Finding.{behind_arrivals, over_before, run_of}

-- m sub-symbols, s the step of the second sum, d the deadline; slot h is settled, and blocks up to there tell what they give;
-- from slot n on nothing was lost
module _ (m s d n h : ℕ) (lost : ℕ → Bool) (late : (t : ℕ) → n ≤ t → lost t ≡ false) (Known : ℕ → ℕ → Type 0)
    (heard : (t : ℕ) → t ≤ h → lost t ≡ false → ((k : ℕ) → k < m → Known t k) × Tells m s Known t)
    (deadline : Deadline m s d)
    (allows : AllowsRuns lost 1 m (s + 1) d) where
  -- all packets before slot a are known
  abbrev Front : ℕ → Type 0
  Front a = (u k : ℕ) → k < m → u < a → Known u k

  -- slot i of the run a to e is due: m slots later in a short run, d slots later in any
  abbrev Due : ℕ → ℕ → ℕ → Type 0
  Due a e i = ((losses a e ≤ 1) × (i + m ≤ h)) ⊎ (i + d ≤ h)

  -- in any run it is due m slots later at the soonest
  due_short : (a e i : ℕ) → Due a e i → i + m ≤ h
  due_short a e i (inl (one, soon)) = soon
  due_short a e i (inr later) = omega (arith, shortest m s d deadline)

  -- one lost slot is repaired m slots later
  slot_alone : (i k : ℕ) → k < m → Followed lost i m → i + m ≤ h → Front i → Known i k
  slot_alone i k l followed due front =
      single m s Known i front
      (λ u x lx more most. (heard u (omega arith) (followed u more most)).0 x lx)
      (λ u more most. (heard u (omega arith) (followed u more most)).1)
      k l

  -- each slot of a longer run d slots later
  slot_of_long : (a e i k : ℕ) → k < m → a ≤ i → i ≤ e → 1 ≤ s → d ≡ (s + 1) * m + 1
      → losses a e ≤ s + 1 → Followed lost e d → i + d ≤ h → Front a → Known i k
  slot_of_long a e i k l from to some is few followed due front =
      in_run m s Known a e (i + d) (omega arith) (omega arith) some front
      (λ u x lx more most. (heard u (omega arith) (followed u more (omega arith))).0 x lx)
      (λ u more most. (heard u (omega arith) (followed u more (omega arith))).1)
      i k l from to (omega arith)

  -- what is due in a run is repaired, if all is known before it
  of_run : (a e i k : ℕ) → k < m → LossRun lost a e → a ≤ i → i ≤ e → Due a e i → Front a → Known i k
  of_run a e i k l run from to due front = elim (allows a e run) [
    | inl (one, followed) ↦
        slot_alone i k l (λ t more most. followed t (omega arith) (omega arith)) (due_short a e i due)
        (λ u x lx less. front u x lx (omega arith))
    | inr ((many, few), followed) ↦ elim deadline [
      | inl (none, is) ↦ absurd (omega arith)
      | inr (some, is) ↦ elim due [
        | inl (one, soon) ↦ absurd (omega arith)
        | inr later ↦ slot_of_long a e i k l from to some is few followed later front
      ]
    ]
  ]

  -- slot u of a run that begins before another is due when that one begins
  due_before : (a e c f u : ℕ) → LossRun lost a e → a ≤ h → LossRun lost c f → c ≤ u → u ≤ f → u < a → Due c f u
  due_before a e c f u run within earlier from to less =
      let first = run.inside a (omega arith) run.order in
      let over = over_before lost c f a e earlier run (omega arith) in
      elim (allows c f earlier) [
        | inl (one, followed) ↦ let past = behind_arrivals lost f m a followed over first in inl (one, omega arith)
        | inr (long, followed) ↦ let past = behind_arrivals lost f d a followed over first in inr (omega arith)
      ]

  -- all is known before a run that begins below slot b
  front_below : (b a e : ℕ) → a < b → LossRun lost a e → a ≤ h → Front a
  front_below zero a e below run within u k l less = absurd (omega arith)
  front_below (suc b) a e below run within u k l less = elim (cases_Bool (lost u)) [
    | inr came ↦ (heard u (omega arith) came).0 k l
    | inl gone ↦
        let (c, (f, (earlier, (from, to)))) = run_of lost n late u gone in
        of_run c f u k l earlier from to (due_before a e c f u run within earlier from to less)
        (front_below b c f (omega arith) earlier (omega arith))
  ]

  -- what is due in a run is repaired
  repaired : (a e i k : ℕ) → k < m → LossRun lost a e → a ≤ i → i ≤ e → Due a e i → Known i k
  repaired a e i k l run from to due =
      let soon = due_short a e i due in
      of_run a e i k l run from to due (front_below (a + 1) a e (omega arith) run (omega arith))

  -- a slot of a short run is repaired m slots later
  pub repaired_short : (a e i k : ℕ) → k < m → LossRun lost a e → losses a e ≤ 1 → a ≤ i → i ≤ e → i + m ≤ h → Known i k
  repaired_short a e i k l run one from to due = repaired a e i k l run from to (inl (one, due))

  -- every packet is known d slots later
  pub repaired_every : (i k : ℕ) → k < m → i + d ≤ h → Known i k
  repaired_every i k l due = elim (cases_Bool (lost i)) [
    | inr came ↦ (heard i (omega arith) came).0 k l
    | inl gone ↦
        let (a, (e, (run, (from, to)))) = run_of lost n late i gone in
        repaired a e i k l run from to (inr due)
  ]
