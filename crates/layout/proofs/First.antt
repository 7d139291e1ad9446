-- The first of f 0, .., f (n - 1) that there is. Assumes nothing.
use Rattle.std.proofs.Common.{◌≡◌, ℕ, zero, suc, ◌<◌, Some, None, Option, refl, sym, ap, ◌∙◌, inl, inr, arith}
use Rattle.std.proofs.lemmas.Bool.{cases_eq}
use Rattle.std.proofs.lemmas.Option.{none-some}
use Rattle.layout.specs.Faults.{or_else, first_below}

module _ {X : Type 0} where
  -- of two there is neither only if neither is there
  neither : (x y : Option X) → or_else x y ≡ None → (x ≡ None) × (y ≡ None)
  neither (Some x) y e = absurd (none-some x (sym e))
  neither None y e = (refl, e)

module _ {X : Type 0} (f : ℕ → Option X) where
  -- where none was found, one more that is not there changes nothing
  pub first_none_more : (i : ℕ) → first_below f i ≡ None → f i ≡ None → first_below f (suc i) ≡ None
  first_none_more i below here = ap (λ (x : Option X). or_else x (f i)) below ∙ here

  -- the first that is there is found, however far one looks
  pub first_at : (i n : ℕ) (x : X) → first_below f i ≡ None → f i ≡ Some x → i < n → first_below f n ≡ Some x
  first_at i zero x below here lt = absurd (omega arith)
  first_at i (suc n) x below here lt = elim (cases_eq n i) [
    | inl e ↦ rw e (ap (λ (y : Option X). or_else y (f i)) below ∙ here)
    | inr ne ↦ ap (λ (y : Option X). or_else y (f n)) (first_at i n x below here (omega arith))
  ]

  -- where none was found, none is there
  pub first_none_below : (n i : ℕ) → first_below f n ≡ None → i < n → f i ≡ None
  first_none_below zero i none lt = absurd (omega arith)
  first_none_below (suc n) i none lt =
      let parts = neither (first_below f n) (f n) none in
      elim (cases_eq n i) [ inl e ↦ rw e at parts.1 | inr ne ↦ first_none_below n i parts.0 (omega arith) ]

  -- where none is there, none is found
  pub first_none_all : (n : ℕ) → ((i : ℕ) → i < n → f i ≡ None) → first_below f n ≡ None
  first_none_all zero none = refl
  first_none_all (suc n) none = first_none_more n (first_none_all n (λ i lt. none i (omega arith))) (none n (omega arith))
