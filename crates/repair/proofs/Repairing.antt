-- Repair of one run of lost slots, where all packets before it are known. Assumes nothing.
use Rattle.std.proofs.Common.{◌≡◌, ℕ, zero, suc, ◌+◌, ◌-◌, ◌*◌, ◌<◌, ◌≤◌, inl, inr, subst, refl, arith, mul-le-mul_left}
use Rattle.std.proofs.lemmas.Bool.{cases_lt}
use Rattle.repair.proofs.Telling.{Tells}

-- one lost slot is repaired by the m blocks behind it: the block of slot e + m - k tells its sub-symbol k
pub single : (m s : ℕ) (Known : ℕ → ℕ → Type 0) (e : ℕ)
    → ((u k : ℕ) → k < m → u < e → Known u k)
    → ((u k : ℕ) → k < m → e < u → u ≤ e + m → Known u k)
    → ((t : ℕ) → e < t → t ≤ e + m → Tells m s Known t)
    → (k : ℕ) → k < m → Known e k
single m s Known e before behind tells k l =
    (tells (e + m - k) (omega arith) (omega arith)).first k l
    (λ v i li apart eq. elim (cases_lt v e) [
      | inl early ↦ before v i li early
      | inr late ↦ behind v i li (omega arith) (omega arith)
    ])
    (λ v i li eq. before v i li (omega arith))
    e (omega arith)

-- the second sum reaches back a step more at least for each sub-symbol
further : (s i k : ℕ) → i < k → s * (i + 1) + s ≤ s * (k + 1)
further s i k l =
    let more : s * (i + 2) ≤ s * (k + 1) = mul-le-mul_left s (omega arith) in
    let same : s * (i + 2) ≡ s * (i + 1) + s = omega arith in
    omega (arith, more, same)

-- and a step at least for any of them
step_back : (s i : ℕ) → s ≤ s * (i + 1)
step_back s i =
    let more : s * 1 ≤ s * (i + 1) = mul-le-mul_left s (omega arith) in
    let same : s * 1 ≡ s = omega arith in
    omega (arith, more, same)

-- a run of at most s + 1 lost slots, a to e; the slots behind it up to slot h were heard
module _ (m s : ℕ) (Known : ℕ → ℕ → Type 0) (a e h : ℕ) (order : a ≤ e) (short : e ≤ a + s) (some : 1 ≤ s)
    (before : (u k : ℕ) → k < m → u < a → Known u k)
    (behind : (u k : ℕ) → k < m → e < u → u ≤ h → Known u k)
    (tells : (t : ℕ) → e < t → t ≤ h → Tells m s Known t) where
  -- the sub-symbols below k of the run's slots are known where a block up to slot h has them in its second sum
  abbrev Below : ℕ → Type 0
  Below k = (u i : ℕ) → i < k → a ≤ u → u ≤ e → u + (m + 1 + s * (i + 1)) ≤ h → Known u i

  -- then the block of slot e + m - k tells sub-symbol k of the last lost slot, by its first sum
  last_slot : (k : ℕ) → k < m → Below k → e + (m + 1 + s * (k + 1)) ≤ h → Known e k
  last_slot k l below due =
      (tells (e + m - k) (omega arith) (omega arith)).first k l
      (λ v i li apart eq. elim (cases_lt v a) [
        | inl early ↦ before v i li early
        | inr late ↦ elim (cases_lt i k) [
          | inl less ↦ let f = further s i k less in below v i less late (omega arith) (omega arith)
          | inr more ↦ behind v i li (omega arith) (omega arith)
        ]
      ])
      (λ v i li eq. let f = step_back s i in before v i li (omega arith))
      e (omega arith)

  -- and a later block that of an earlier slot, by its second sum
  inner_slot : (k : ℕ) → k < m → Below k → (u : ℕ) → a ≤ u → u < e → u + (m + 1 + s * (k + 1)) ≤ h → Known u k
  inner_slot k l below u from inner due =
      let own = step_back s k in
      (tells (u + (m + 1 + s * (k + 1))) (omega arith) due).second some k l
      (λ v i li eq. behind v i li (omega arith) (omega arith))
      (λ v i li apart eq. elim (cases_lt i k) [
        | inl less ↦
            let f = further s i k less in
            elim (cases_lt e v) [
              | inl late ↦ behind v i li late (omega arith)
              | inr within ↦ below v i less (omega arith) within (omega arith)
            ]
        | inr more ↦ let f = further s k i (omega arith) in before v i li (omega arith)
      ])
      u refl

  -- so all are known, one sub-symbol after the other
  known_below : (n : ℕ) → n ≤ m → Below n
  known_below zero fits u k l from to due = absurd (omega arith)
  known_below (suc n) fits u k l from to due =
      let below : Below k = λ v i li. known_below n (omega arith) v i (omega arith) in
      elim (cases_lt u e) [
        | inl inner ↦ inner_slot k (omega arith) below u from inner due
        | inr end ↦
            let same : e ≡ u = omega arith in
            subst (λ v. Known v k) same (last_slot k (omega arith) below (omega arith))
      ]

  -- each slot u of the run is repaired by slot u + (s + 1) * m + 1
  pub in_run : (u k : ℕ) → k < m → a ≤ u → u ≤ e → u + ((s + 1) * m + 1) ≤ h → Known u k
  in_run u k l from to due =
      let most : s * (k + 1) ≤ s * m = mul-le-mul_left s (omega arith) in
      let parts : (s + 1) * m ≡ s * m + m = omega arith in
      known_below m (omega arith) u k l from to (omega arith)
