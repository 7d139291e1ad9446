-- Exclusive or has the laws of a sum, at every width. Assumes nothing.
use Rattle.std.proofs.Common.{◌≡◌, ℕ, ◌^◌, ◌<◌, ◌⊎◌, sym, ap, ◌∙◌, subst, inl, inr, pow_pos}
use lib.Bits.{bit_xor, xor_assoc, xor_comm, xor_self, xor_lt, xor_zero_l}
use Rattle.std.proofs.lemmas.Bool.{cases_eq}
use Rattle.arithmetic.specs.Laws.{SumLaws}
use Rattle.arithmetic.specs.Xor.{xor_sums, Numbered}

module _ {X : Type 0} (k : ℕ) (value : X → ℕ) (of : ℕ → X) (numbers : Numbered k value of) where
  -- an element is known by its number
  pub element_is : (x : X) (n : ℕ) → value x ≡ n → x ≡ of n
  element_is x n e = numbers.same x (of n) (e ∙ sym (numbers.held n (subst (λ (m : ℕ). m < 2 ^ k) e (numbers.small x))))

  pub xor_value : (x y : X) → value (of (bit_xor (value x) (value y))) ≡ bit_xor (value x) (value y)
  xor_value x y = numbers.held (bit_xor (value x) (value y)) (xor_lt k (value x) (value y) (numbers.small x) (numbers.small y))

  assoc : (x y z : X) → (xor_sums value of).plus ((xor_sums value of).plus x y) z ≡ (xor_sums value of).plus x ((xor_sums value of).plus y z)
  assoc x y z =
      ap of
      (ap (λ n. bit_xor n (value z)) (xor_value x y) ∙ xor_assoc (value x) (value y) (value z)
      ∙ sym (ap (bit_xor (value x)) (xor_value y z)))

  zero_plus : (x : X) → (xor_sums value of).plus (of 0) x ≡ x
  zero_plus x =
      sym (element_is x (bit_xor (value (of 0)) (value x))
      (sym (ap (λ n. bit_xor n (value x)) (numbers.held 0 (pow_pos k)) ∙ xor_zero_l (value x))))

  decide : (x y : X) → (x ≡ y) ⊎ (x ≡ y → ⊥)
  decide x y = elim (cases_eq (value x) (value y)) [ inl e ↦ inl (numbers.same x y e) | inr n ↦ inr (λ e. n (ap value e)) ]

  pub xor_laws : SumLaws (xor_sums value of)
  xor_laws = record {
    assoc = assoc;
    comm = λ x y. ap of (xor_comm (value x) (value y));
    zero_plus = zero_plus;
    negative_plus = λ x. ap of (xor_self (value x));
    decide = decide;
  }
