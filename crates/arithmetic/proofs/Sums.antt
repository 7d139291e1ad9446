-- Sums: what can be cancelled, and sums of many elements. Assumes nothing.
use Rattle.std.proofs.Common.{◌≡◌, ℕ, zero, suc, ◌+◌, ◌<◌, ◌≢◌, inl, inr, add-zero, add-suc, sym, refl, ap, ◌∙◌, ap₂, arith}
use Rattle.std.proofs.lemmas.Bool.{cases_eq}
use Rattle.arithmetic.specs.Operations.{Sums}
use Rattle.arithmetic.specs.Laws.{SumLaws}
use Rattle.arithmetic.specs.Totals.{sum_below}

module _ {X : Type 0} (s : Sums X) (laws : SumLaws s) where
  pub plus_zero : (x : X) → s.plus x s.zero ≡ x
  plus_zero x = laws.comm x s.zero ∙ laws.zero_plus x

  pub plus_negative : (x : X) → s.plus x (s.negative x) ≡ s.zero
  plus_negative x = laws.comm x (s.negative x) ∙ laws.negative_plus x

  -- a + (x + b) and x + (a + b)
  plus_swap : (a x b : X) → s.plus a (s.plus x b) ≡ s.plus x (s.plus a b)
  plus_swap a x b = sym (laws.assoc a x b) ∙ ap (λ y. s.plus y b) (laws.comm a x) ∙ laws.assoc x a b

  plus_both : (a b c d : X) → s.plus (s.plus a b) (s.plus c d) ≡ s.plus (s.plus a c) (s.plus b d)
  plus_both a b c d = laws.assoc a b (s.plus c d) ∙ ap (s.plus a) (plus_swap b c d) ∙ sym (laws.assoc a c (s.plus b d))

  -- x + (y - x)
  pub plus_rest : (x y : X) → s.plus x (s.plus y (s.negative x)) ≡ y
  plus_rest x y = plus_swap x y (s.negative x) ∙ ap (s.plus y) (plus_negative x) ∙ plus_zero y

  negative_cancels : (x y : X) → s.plus (s.negative x) (s.plus x y) ≡ y
  negative_cancels x y = sym (laws.assoc (s.negative x) x y) ∙ ap (λ a. s.plus a y) (laws.negative_plus x) ∙ laws.zero_plus y

  pub cancel : (x a b : X) → s.plus x a ≡ s.plus x b → a ≡ b
  cancel x a b e = sym (negative_cancels x a) ∙ ap (s.plus (s.negative x)) e ∙ negative_cancels x b

  pub cancel_right : (x a b : X) → s.plus a x ≡ s.plus b x → a ≡ b
  cancel_right x a b e = cancel x a b (laws.comm x a ∙ e ∙ laws.comm b x)

  -- the only negative is the one that is named
  pub is_negative : (x y : X) → s.plus x y ≡ s.zero → y ≡ s.negative x
  is_negative x y e = cancel x y (s.negative x) (e ∙ sym (plus_negative x))

  pub negative_zero : s.negative s.zero ≡ s.zero
  negative_zero = sym (is_negative s.zero s.zero (laws.zero_plus s.zero))

  -- x - y is zero only where both are the same
  pub same_where_no_rest : (x y : X) → s.plus x (s.negative y) ≡ s.zero → x ≡ y
  same_where_no_rest x y e = cancel_right (s.negative y) x y (e ∙ sym (plus_negative y))

  -- elements with the same negative are the same
  pub same_negative : (x y : X) → s.negative x ≡ s.negative y → x ≡ y
  same_negative x y e = same_where_no_rest x y (ap (s.plus x) (sym e) ∙ plus_negative x)

  pub sum_same : (n : ℕ) (f g : ℕ → X) → ((u : ℕ) → u < n → f u ≡ g u) → sum_below s n f ≡ sum_below s n g
  sum_same zero f g h = refl
  sum_same (suc n) f g h = ap₂ s.plus (sum_same n f g (λ u k. h u (omega arith))) (h n (omega arith))

  pub sum_zero : (n : ℕ) (f : ℕ → X) → ((u : ℕ) → u < n → f u ≡ s.zero) → sum_below s n f ≡ s.zero
  sum_zero zero f h = refl
  sum_zero (suc n) f h = ap₂ s.plus (sum_zero n f (λ u k. h u (omega arith))) (h n (omega arith)) ∙ laws.zero_plus s.zero

  pub sum_plus : (n : ℕ) (f g : ℕ → X) → sum_below s n (λ u. s.plus (f u) (g u)) ≡ s.plus (sum_below s n f) (sum_below s n g)
  sum_plus zero f g = sym (laws.zero_plus s.zero)
  sum_plus (suc n) f g = ap (λ x. s.plus x (s.plus (f n) (g n))) (sum_plus n f g) ∙ plus_both (sum_below s n f) (sum_below s n g) (f n) (g n)

  -- all terms but one are zero
  pub sum_only : (n w : ℕ) (f : ℕ → X) → w < n → ((u : ℕ) → u < n → u ≢ w → f u ≡ s.zero) → sum_below s n f ≡ f w
  sum_only zero w f within h = absurd (omega arith)
  sum_only (suc n) w f within h =
      elim (cases_eq n w) [
        | inl last ↦
            ap₂ s.plus (sum_zero n f (λ u k. h u (omega arith) (λ e. omega arith))) (ap f last) ∙ laws.zero_plus (f w)
        | inr other ↦
            ap₂ s.plus (sum_only n w f (omega arith) (λ u k. h u (omega arith))) (h n (omega arith) other) ∙ plus_zero (f w)
      ]

  -- two equal sums whose terms are the same, but for one, have that one the same too
  pub same_remaining_term : (n w : ℕ) (f g : ℕ → X) → w < n → ((u : ℕ) → u < n → u ≢ w → f u ≡ g u)
      → sum_below s n f ≡ sum_below s n g → f w ≡ g w
  same_remaining_term n w f g l same e =
      same_where_no_rest (f w) (g w)
      (cancel (sum_below s n g) (s.plus (f w) (s.negative (g w))) s.zero (sym sums ∙ e ∙ sym (plus_zero (sum_below s n g)))) where
        sums : sum_below s n f ≡ s.plus (sum_below s n g) (s.plus (f w) (s.negative (g w)))
        sums =
            sum_same n f (λ u. s.plus (g u) (s.plus (f u) (s.negative (g u)))) (λ u _. sym (plus_rest (g u) (f u)))
            ∙ sum_plus n g (λ u. s.plus (f u) (s.negative (g u)))
            ∙ ap (s.plus (sum_below s n g))
            (sum_only n w (λ u. s.plus (f u) (s.negative (g u))) l
            (λ u k apart. ap (λ a. s.plus a (s.negative (g u))) (same u k apart) ∙ plus_negative (g u)))

  -- the first k terms, and those from k on
  pub sum_split : (k m : ℕ) (f : ℕ → X) → sum_below s (k + m) f ≡ s.plus (sum_below s k f) (sum_below s m (λ u. f (k + u)))
  sum_split k zero f = ap (λ n. sum_below s n f) (add-zero k) ∙ sym (plus_zero (sum_below s k f))
  sum_split k (suc m) f =
      ap (λ n. sum_below s n f) (add-suc k m)
      ∙ ap (λ x. s.plus x (f (k + m))) (sum_split k m f)
      ∙ laws.assoc (sum_below s k f) (sum_below s m (λ u. f (k + u))) (f (k + m))
