-- Combinations of rows and of contents, and what rows gain. Assumes nothing.
use Rattle.std.proofs.Common.{◌≡◌, ℕ, ◌<◌, sym, ap, ◌∙◌, ap₂}
use Rattle.arithmetic.specs.Operations.{Operations}
use Rattle.arithmetic.specs.Laws.{ArithmeticLaws}
use Rattle.systems.specs.System.{combined}
use Rattle.arithmetic.proofs.Sums.{plus_zero, plus_negative, negative_zero, sum_zero, sum_plus, sum_same}
use Rattle.arithmetic.proofs.Scaling.{scale_by_zero, times_zero, zero_times, times_one, scale_sum}

module _ {F S : Type 0} (o : Operations F S) (laws : ArithmeticLaws o) where
  pub combined_same : (n : ℕ) (c d : ℕ → F) (x y : ℕ → S) → ((u : ℕ) → u < n → c u ≡ d u) → ((u : ℕ) → u < n → x u ≡ y u)
      → combined o n c x ≡ combined o n d y
  combined_same n c d x y h k = sum_same o.symbols laws.symbols n _ _ (λ u l. ap₂ o.scale (h u l) (k u l))

  pub combined_zero : (n : ℕ) (c : ℕ → F) (x : ℕ → S) → ((u : ℕ) → u < n → c u ≡ o.coefficients.zero) → combined o n c x ≡ o.symbols.zero
  combined_zero n c x h = sum_zero o.symbols laws.symbols n _ (λ u l. ap (λ a. o.scale a (x u)) (h u l) ∙ scale_by_zero o laws (x u))

  pub combined_of_sum : (n : ℕ) (c : ℕ → F) (x y : ℕ → S)
      → combined o n c (λ u. o.symbols.plus (x u) (y u)) ≡ o.symbols.plus (combined o n c x) (combined o n c y)
  combined_of_sum n c x y =
      sum_same o.symbols laws.symbols n _ _ (λ u l. laws.scaling.over_symbols (c u) (x u) (y u))
      ∙ sum_plus o.symbols laws.symbols n (λ u. o.scale (c u) (x u)) (λ u. o.scale (c u) (y u))

  -- one row added to another, so many times
  pub combined_added : (n : ℕ) (c : ℕ → F) (a : F) (d : ℕ → F) (x : ℕ → S)
      → combined o n (λ u. o.coefficients.plus (c u) (o.products.times a (d u))) x ≡ o.symbols.plus (combined o n c x) (o.scale a (combined o n d x))
  combined_added n c a d x =
      sum_same o.symbols laws.symbols n _ _
      (λ u l. laws.scaling.over_coefficients (c u) (o.products.times a (d u)) (x u)
      ∙ ap (o.symbols.plus (o.scale (c u) (x u))) (laws.scaling.by_product a (d u) (x u)))
      ∙ sum_plus o.symbols laws.symbols n (λ u. o.scale (c u) (x u)) (λ u. o.scale a (o.scale (d u) (x u)))
      ∙ ap (o.symbols.plus (combined o n c x)) (sym (scale_sum o laws a n (λ u. o.scale (d u) (x u))))

  pub combined_scaled : (n : ℕ) (a : F) (c : ℕ → F) (x : ℕ → S) → combined o n (λ u. o.products.times a (c u)) x ≡ o.scale a (combined o n c x)
  combined_scaled n a c x =
      sum_same o.symbols laws.symbols n _ _ (λ u l. laws.scaling.by_product a (c u) (x u)) ∙ sym (scale_sum o laws a n (λ u. o.scale (c u) (x u)))

  -- what a coefficient, or a symbol, becomes when its row gains a multiple of another

  pub gains_zero : (a c b : F) → b ≡ o.coefficients.zero → o.coefficients.plus a (o.products.times c b) ≡ a
  gains_zero a c b e =
      ap (o.coefficients.plus a) (ap (o.products.times c) e ∙ times_zero o laws c) ∙ plus_zero o.coefficients laws.coefficients a

  pub gains_no_times : (a c b : F) → c ≡ o.coefficients.zero → o.coefficients.plus a (o.products.times (o.coefficients.negative c) b) ≡ a
  gains_no_times a c b e =
      ap (o.coefficients.plus a)
      (ap (λ d. o.products.times d b) (ap o.coefficients.negative e ∙ negative_zero o.coefficients laws.coefficients) ∙ zero_times o laws b)
      ∙ plus_zero o.coefficients laws.coefficients a

  pub gains_no_times_symbol : (x : S) (c : F) (y : S) → c ≡ o.coefficients.zero → o.symbols.plus x (o.scale (o.coefficients.negative c) y) ≡ x
  gains_no_times_symbol x c y e =
      ap (o.symbols.plus x)
      (ap (λ d. o.scale d y) (ap o.coefficients.negative e ∙ negative_zero o.coefficients laws.coefficients) ∙ scale_by_zero o laws y)
      ∙ plus_zero o.symbols laws.symbols x

  pub gains_its_negative : (a b : F) → b ≡ o.products.one → o.coefficients.plus a (o.products.times (o.coefficients.negative a) b) ≡ o.coefficients.zero
  gains_its_negative a b e =
      ap (o.coefficients.plus a) (ap (o.products.times (o.coefficients.negative a)) e ∙ times_one o laws (o.coefficients.negative a))
      ∙ plus_negative o.coefficients laws.coefficients a
