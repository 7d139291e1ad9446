-- Where things lie that come row by row. Assumes nothing.
use Rattle.std.proofs.Common.{ℕ, ◌+◌, ◌*◌, ◌/◌, ◌%◌, ◌<◌, ◌≤◌, inl, inr, subst, mul-le-mul_right, add-mul, mod-lt, arith}
use Rattle.std.proofs.Math.Nat.{div-lt_iff_lt-mul}
use Rattle.std.proofs.lemmas.Bool.{cases_eq}
use Rattle.std.proofs.lemmas.Nat.{div-add-mod'}

-- place i of row n, of m rows of l places each
pub below : (m l n i : ℕ) → n < m → i < l → n * l + i < m * l
below m l n i h k =
    let up : (n + 1) * l ≤ m * l = mul-le-mul_right l (omega arith) in
    let more = add-mul n 1 l in
    omega arith

-- and each of all these places is one
pub each_place : (m l : ℕ) (P : ℕ → Type 0) → ((n i : ℕ) → n < m → i < l → P (n * l + i)) → (p : ℕ) → p < m * l → P p
each_place m l P each p lp = elim (cases_eq l 0) [
  | inl empty ↦ let h = subst (λ (k : ℕ). p < m * k) empty lp in absurd (omega arith)
  | inr full ↦
      let pos : 0 < l = omega arith in
      subst P (div-add-mod' p l) (each (p / l) (p % l) ((div-lt_iff_lt-mul pos).1 lp) (mod-lt p pos))
]
