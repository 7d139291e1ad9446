-- No code has a coefficient outside its shape. Assumes nothing.
use Rattle.std.specs.Prelude.{◌≡◌, ℕ, ◌+◌, ◌*◌, ◌/◌, ◌%◌, ◌^◌, ◌<◌, ◌≤◌, true, ◌&&◌, ◌==◌, nat_eq, nat_lt, refl}
use Rattle.std.proofs.Common.{inl, inr, mul-le-mul_left, mul_comm, div-le_self, arith, rules}
use Rattle.std.proofs.Math.Nat.{lt_of_mul-lt-mul_left}
use Rattle.std.proofs.lemmas.Nat.{div-add-mod'}
use Rattle.std.proofs.lemmas.Bool.{cond_both, eqb-true, ltb-true, and_parts}
use Rattle.arithmetic.specs.Laws.{SumLaws}
use Rattle.arithmetic.specs.Operations.{Sums, Products}
use Rattle.codes.specs.Shape.{Shape, Outside, capped}
use Rattle.codes.specs.Coefficients.{main_coefficients, main_shape, back_coefficients, back_shape, overlay, overlay_shape, spread, spread_shape}

-- the age in steps lies beyond the inner memory where the age lies beyond the spread one
past_memory : (m g a : ℕ) → a < 2 ^ 32 → a % g ≡ 0 → capped (g * m) < a → m < a / g
past_memory m g a small whole past =
    let e = div-add-mod' a g in
    let c = mul_comm (a / g) g in
    let h : g * m < g * (a / g) = omega arith in
    lt_of_mul-lt-mul_left g h

pub spread_bounded : {F : Type 0} (s : Sums F) (x : Shape) (c : ℕ → ℕ → ℕ → F) (g : ℕ)
    → ((j a k : ℕ) → a < 2 ^ 32 → Outside x j a k → c j a k ≡ s.zero)
    → (j a k : ℕ) → a < 2 ^ 32 → Outside (spread_shape x g) j a k → spread s c g j a k ≡ s.zero
spread_bounded s x c g inner j a k small out =
    cond_both (a % g == 0) (c j (a / g) k) s.zero (λ v. v ≡ s.zero) (λ t. inner j (a / g) k (omega (arith, div-le_self a g)) (inside t out)) (λ _. refl)
  where
    inside : nat_eq (a % g) 0 ≡ true → Outside (spread_shape x g) j a k → Outside x j (a / g) k
    inside t (inl p) = inl p
    inside t (inr (inl p)) = inr (inl p)
    inside t (inr (inr p)) = inr (inr (past_memory x.memory g a small (eqb-true (a % g) 0 t) p))

pub back_bounded : {F : Type 0} (s : Sums F) (p : Products F) (m g j a k : ℕ)
    → a < 2 ^ 32 → Outside (back_shape m g) j a k → back_coefficients s p m g j a k ≡ s.zero
back_bounded s p m g j a k small out =
    let test = j == 0 && (nat_lt k m && a == g * (k + 1)) in
    cond_both test p.one s.zero (λ v. v ≡ s.zero) (λ t. absurd (inside t out)) (λ _. refl)
  where
    inside : (j == 0 && (nat_lt k m && a == g * (k + 1))) ≡ true → Outside (back_shape m g) j a k → ⊥
    inside t out =
        let u = and_parts (j == 0) (nat_lt k m && a == g * (k + 1)) t in
        let v = and_parts (nat_lt k m) (a == g * (k + 1)) u.1 in
        let first = eqb-true j 0 u.0 in
        let below = ltb-true k m v.0 in
        let age = eqb-true a (g * (k + 1)) v.1 in
        let far : g * (k + 1) ≤ g * m = mul-le-mul_left g (omega arith) in
        elim out [ inl q ↦ omega arith | inr r ↦ elim r [ inl q ↦ omega arith | inr q ↦ omega arith ] ]

pub main_bounded : {F : Type 0} (s : Sums F) (p : Products F) (m j a k : ℕ)
    → a < 2 ^ 32 → Outside (main_shape m) j a k → main_coefficients s p m j a k ≡ s.zero
main_bounded s p m j a k small out = search rules

pub overlay_bounded : {F : Type 0} (s : Sums F) (laws : SumLaws s) (x y : Shape) (c d : ℕ → ℕ → ℕ → F) (n : ℕ)
    → ((j a k : ℕ) → a < 2 ^ 32 → Outside x j a k → c j a k ≡ s.zero)
    → ((j a k : ℕ) → a < 2 ^ 32 → Outside y j a k → d j a k ≡ s.zero)
    → (j a k : ℕ) → a < 2 ^ 32 → Outside (overlay_shape x y n) j a k → overlay s c d n j a k ≡ s.zero
overlay_bounded s laws x y c d n first second j a k small out = search rules
