-- Scaling and products: what becomes of zero, of negatives and of sums, and what can be cancelled. Assumes nothing.
use Rattle.std.proofs.Common.{◌≡◌, ℕ, zero, suc, ◌≢◌, Some, None, inl, inr, sym, ap, ◌∙◌, ap₂}
use Rattle.std.specs.Prelude.{Option, MatchOption}
use Rattle.arithmetic.specs.Operations.{Operations}
use Rattle.arithmetic.specs.Laws.{ArithmeticLaws}
use Rattle.arithmetic.specs.Totals.{sum_below}
use Rattle.arithmetic.proofs.Sums.{cancel, plus_zero, plus_negative, is_negative, same_where_no_rest}

module _ {F S : Type 0} (o : Operations F S) (laws : ArithmeticLaws o) where
  pub scale_nothing : (c : F) → o.scale c o.symbols.zero ≡ o.symbols.zero
  scale_nothing c =
      cancel o.symbols laws.symbols (o.scale c o.symbols.zero) (o.scale c o.symbols.zero) o.symbols.zero
      (sym (laws.scaling.over_symbols c o.symbols.zero o.symbols.zero)
      ∙ ap (o.scale c) (laws.symbols.zero_plus o.symbols.zero) ∙ sym (plus_zero o.symbols laws.symbols (o.scale c o.symbols.zero)))

  pub scale_by_zero : (x : S) → o.scale o.coefficients.zero x ≡ o.symbols.zero
  scale_by_zero x =
      cancel o.symbols laws.symbols (o.scale o.coefficients.zero x) (o.scale o.coefficients.zero x) o.symbols.zero
      (sym (laws.scaling.over_coefficients o.coefficients.zero o.coefficients.zero x)
      ∙ ap (λ c. o.scale c x) (laws.coefficients.zero_plus o.coefficients.zero)
      ∙ sym (plus_zero o.symbols laws.symbols (o.scale o.coefficients.zero x)))

  scale_negative : (c : F) (x : S) → o.scale (o.coefficients.negative c) x ≡ o.symbols.negative (o.scale c x)
  scale_negative c x =
      is_negative o.symbols laws.symbols (o.scale c x) (o.scale (o.coefficients.negative c) x)
      (sym (laws.scaling.over_coefficients c (o.coefficients.negative c) x)
      ∙ ap (λ d. o.scale d x) (plus_negative o.coefficients laws.coefficients c) ∙ scale_by_zero x)

  pub times_zero : (c : F) → o.products.times c o.coefficients.zero ≡ o.coefficients.zero
  times_zero c =
      cancel o.coefficients laws.coefficients (o.products.times c o.coefficients.zero) (o.products.times c o.coefficients.zero) o.coefficients.zero
      (sym (laws.products.distributes c o.coefficients.zero o.coefficients.zero)
      ∙ ap (o.products.times c) (laws.coefficients.zero_plus o.coefficients.zero)
      ∙ sym (plus_zero o.coefficients laws.coefficients (o.products.times c o.coefficients.zero)))

  pub zero_times : (c : F) → o.products.times o.coefficients.zero c ≡ o.coefficients.zero
  zero_times c = laws.products.comm o.coefficients.zero c ∙ times_zero c

  pub times_one : (c : F) → o.products.times c o.products.one ≡ c
  times_one c = laws.products.comm c o.products.one ∙ laws.products.one_times c

  -- a coefficient that is not zero has an inverse
  inverse_of : (c : F) → c ≢ o.coefficients.zero → (d : F) × (o.products.times c d ≡ o.products.one)
  inverse_of c h = found (o.products.inverse c) (laws.products.inverse c) where
    found : (i : Option F) → MatchOption i (c ≡ o.coefficients.zero) (λ d. o.products.times c d ≡ o.products.one) → (d : F) × (o.products.times c d ≡ o.products.one)
    found None e = absurd (h e)
    found (Some d) e = (d, e)

  -- what is scaled by the same coefficient to the same is the same, unless that is zero
  pub scale_cancel : (c : F) (x y : S) → c ≢ o.coefficients.zero → o.scale c x ≡ o.scale c y → x ≡ y
  scale_cancel c x y h e =
      let (d, inverse) = inverse_of c h in
      let undone = λ (w : S). sym (laws.scaling.by_product d c w) ∙ ap (λ a. o.scale a w) (laws.products.comm d c ∙ inverse) ∙ laws.scaling.by_one w in
      sym (undone x) ∙ ap (o.scale d) e ∙ undone y

  -- only zero scales to nothing what is not zero
  pub scaled_to_nothing : (c : F) (x : S) → c ≢ o.coefficients.zero → o.scale c x ≡ o.symbols.zero → x ≡ o.symbols.zero
  scaled_to_nothing c x h e = scale_cancel c x o.symbols.zero h (e ∙ sym (scale_nothing c))

  -- coefficients that scale the mark alike are the same
  pub same_coefficient : (a b : F) → o.scale a o.mark ≡ o.scale b o.mark → a ≡ b
  same_coefficient a b e =
      elim (laws.coefficients.decide (o.coefficients.plus a (o.coefficients.negative b)) o.coefficients.zero) [
        | inl none ↦ same_where_no_rest o.coefficients laws.coefficients a b none
        | inr some ↦
            absurd
            (laws.scaling.mark_not_zero
            (scaled_to_nothing (o.coefficients.plus a (o.coefficients.negative b)) o.mark some
            (laws.scaling.over_coefficients a (o.coefficients.negative b) o.mark ∙ ap₂ o.symbols.plus e (scale_negative b o.mark)
            ∙ plus_negative o.symbols laws.symbols (o.scale b o.mark))))
      ]

  pub scale_sum : (c : F) (n : ℕ) (f : ℕ → S) → o.scale c (sum_below o.symbols n f) ≡ sum_below o.symbols n (λ u. o.scale c (f u))
  scale_sum c zero f = scale_nothing c
  scale_sum c (suc n) f = laws.scaling.over_symbols c (sum_below o.symbols n f) (f n) ∙ ap (λ x. o.symbols.plus x (o.scale c (f n))) (scale_sum c n f)
