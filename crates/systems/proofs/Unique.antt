-- Two systems in kept form that stand for the same contents have the same rows. Assumes nothing.
use Rattle.std.proofs.Common.{◌≡◌, ℕ, ◌<◌, ◌≢◌, ◌↔◌, ◌⊎◌, inl, inr, sym, ap, ap₂, refl, ◌∙◌, arith}
use Rattle.std.proofs.lemmas.Bool.{cases_lt}
use Rattle.arithmetic.specs.Operations.{Operations}
use Rattle.arithmetic.specs.Laws.{ArithmeticLaws}
use Rattle.systems.specs.System.{Size, System, rows, combined, at_place, Solves}
use Rattle.systems.specs.Kept.{Empty, Kept}
use Rattle.systems.specs.Form.{SameRow, StandsFor, KeptFormOf}
use Rattle.arithmetic.proofs.Sums.{plus_zero, negative_zero, same_remaining_term}
use Rattle.arithmetic.proofs.Scaling.{scale_by_zero, same_coefficient}
use Rattle.systems.proofs.Rows.{both_empty}
use Rattle.systems.proofs.Solve.{solution, nothing, marked, gap, zero_before, solution_solves, solution_free, same_gap, same_combined, combined_of_nothing, combined_of_mark, mark_at, no_mark_at}
use Rattle.systems.proofs.Content.{some_content}

module _ {F S : Type 0} (o : Operations F S) (laws : ArithmeticLaws o) where
  -- two contents that agree at all other unknowns of a row agree at its own
  same_given : (z : Size) (s : System F S) (u p : ℕ) (x y : ℕ → ℕ → S) → u < z.unknowns → s.coefficient u u ≡ o.products.one
      → combined o z.unknowns (s.coefficient u) (at_place x p) ≡ combined o z.unknowns (s.coefficient u) (at_place y p)
      → ((v : ℕ) → v < z.unknowns → v ≢ u → (s.coefficient u v ≡ o.coefficients.zero) ⊎ (x v p ≡ y v p)) → x u p ≡ y u p
  same_given z s u p x y l one sums others =
      sym (with_one x)
      ∙ same_remaining_term o.symbols laws.symbols z.unknowns u (λ v. o.scale (s.coefficient u v) (x v p)) (λ v. o.scale (s.coefficient u v) (y v p)) l terms sums
      ∙ with_one y where
        with_one : (x : ℕ → ℕ → S) → o.scale (s.coefficient u u) (x u p) ≡ x u p
        with_one x = ap (λ c. o.scale c (x u p)) one ∙ laws.scaling.by_one (x u p)

        terms : (v : ℕ) → v < z.unknowns → v ≢ u → o.scale (s.coefficient u v) (x v p) ≡ o.scale (s.coefficient u v) (y v p)
        terms v k apart =
            elim (others v k apart) [
              | inl nothing ↦ by_nothing x v nothing ∙ sym (by_nothing y v nothing)
              | inr agree ↦ ap (o.scale (s.coefficient u v)) agree
            ] where
              by_nothing : (x : ℕ → ℕ → S) (v : ℕ) → s.coefficient u v ≡ o.coefficients.zero → o.scale (s.coefficient u v) (x v p) ≡ o.symbols.zero
              by_nothing x v e = ap (λ c. o.scale c (x v p)) e ∙ scale_by_zero o laws (x v p)

  -- contents that agree at all unknowns with empty rows agree everywhere
  same_contents : (z : Size) (s : System F S) → Kept o z s → (x y : ℕ → ℕ → S) → Solves o z s x → Solves o z s y → (p : ℕ) → p < z.symbols
      → ((u : ℕ) → u < z.unknowns → Empty o z s u → x u p ≡ y u p) → (u : ℕ) → u < z.unknowns → x u p ≡ y u p
  same_contents z s kept x y solves_x solves_y p place free u l =
      elim (kept.given u l) [
        | inl empty ↦ free u l empty
        | inr gives ↦
            same_given z s u p x y l gives.first.one (solves_x u (omega arith) p place ∙ sym (solves_y u (omega arith) p place))
            (λ v k apart. elim (kept.given v k) [
              | inl empty ↦ inr (free v k empty)
              | inr given ↦ inl (given.alone u (omega arith) (λ e. apart (sym e)))
            ])
      ]

  -- the mark for an unknown changes no later one
  later_unmarked : (z : Size) (s : System F S) → Kept o z s → (u v p : ℕ) → v < z.unknowns → u < v
      → solution o z s (marked o u) v p ≡ solution o z s (nothing o) v p
  later_unmarked z s kept u v p l later =
      ap₂ o.symbols.plus (no_mark_at o laws u v p (λ e. omega arith))
      (ap (λ a. o.symbols.plus (s.symbol v p) (o.symbols.negative a))
      (combined_of_mark o laws z.unknowns (s.coefficient v) u p (omega arith)
      ∙ ap (λ c. o.scale c o.mark) (zero_before o laws z s kept v u l later) ∙ scale_by_zero o laws o.mark
      ∙ sym (combined_of_nothing o laws z.unknowns (s.coefficient v) (at_place (nothing o) p) (λ _ _. refl))))

  -- of two systems with the same contents, where one leaves an unknown open the other does
  empty_too : (z : Size) (s t : System F S) → 0 < z.symbols → Kept o z s → Kept o z t → ((x : ℕ → ℕ → S) → Solves o z t x → Solves o z s x)
      → (u : ℕ) → u < z.unknowns → Empty o z t u → Empty o z s u
  empty_too z s t place kept_s kept_t covers u l empty =
      elim (kept_s.given u l) [
        | inl found ↦ found
        | inr gives ↦
            absurd
            (laws.scaling.mark_not_zero
            (sym (mark_at o laws u 0) ∙ sym (solution_free o laws z t (marked o u) u 0 empty place)
            ∙ same_given z s u 0 (solution o z t (marked o u)) (solution o z t (nothing o)) l gives.first.one
            (holds (marked o u) ∙ sym (holds (nothing o)))
            (λ v k apart. elim (cases_lt v u) [
              | inl earlier ↦ inl (gives.first.before v earlier)
              | inr late ↦ inr (later_unmarked z t kept_t u v 0 k (omega arith))
            ])
            ∙ solution_free o laws z t (nothing o) u 0 empty place))
      ] where
        holds : (y : ℕ → ℕ → S) → combined o z.unknowns (s.coefficient u) (at_place (solution o z t y) 0) ≡ s.symbol u 0
        holds y = covers (solution o z t y) (solution_solves o laws z t kept_t y) u (omega arith) 0 place

  -- and each choice leads to the same content
  same_solution : (z : Size) (s t : System F S) → 0 < z.symbols → Kept o z s → Kept o z t
      → ((x : ℕ → ℕ → S) → Solves o z s x ↔ Solves o z t x) → (y : ℕ → ℕ → S) (u p : ℕ) → u < z.unknowns → p < z.symbols
      → solution o z s y u p ≡ solution o z t y u p
  same_solution z s t place kept_s kept_t same y u p l within =
      same_contents z t kept_t (solution o z s y) (solution o z t y) ((same (solution o z s y)).0 (solution_solves o laws z s kept_s y))
      (solution_solves o laws z t kept_t y) p within
      (λ v k empty.
      solution_free o laws z s y v p (empty_too z s t place kept_s kept_t (λ x. (same x).1) v k empty) within
      ∙ sym (solution_free o laws z t y v p empty within))
      u l

  -- with nothing chosen, a row is off by its symbols
  gap_of_nothing : (z : Size) (s : System F S) (u p : ℕ) → gap o z s p (at_place (nothing o) p) u ≡ s.symbol u p
  gap_of_nothing z s u p =
      ap (λ a. o.symbols.plus (s.symbol u p) (o.symbols.negative a))
      (combined_of_nothing o laws z.unknowns (s.coefficient u) (at_place (nothing o) p) (λ _ _. refl))
      ∙ ap (o.symbols.plus (s.symbol u p)) (negative_zero o.symbols laws.symbols) ∙ plus_zero o.symbols laws.symbols (s.symbol u p)

  -- the same for each choice: at nothing it is the row's symbols, and at a mark its coefficient there
  same_row_by_solutions : (z : Size) (s t : System F S) → 0 < z.symbols
      → ((y : ℕ → ℕ → S) (u p : ℕ) → u < z.unknowns → p < z.symbols → solution o z s y u p ≡ solution o z t y u p)
      → (r : ℕ) → r < z.unknowns → SameRow z s t r
  same_row_by_solutions z s t place same r l = record {
    coefficients = λ u k.
        same_coefficient o laws (s.coefficient r u) (t.coefficient r u)
        (sym (combined_of_mark o laws z.unknowns (s.coefficient r) u 0 k)
        ∙ same_combined o laws z s t (marked o u) (marked o u) r 0 (symbols 0 place) (gaps (marked o u) 0 place)
        ∙ combined_of_mark o laws z.unknowns (t.coefficient r) u 0 k);
    symbols = symbols;
  } where
    gaps : (y : ℕ → ℕ → S) (p : ℕ) → p < z.symbols → gap o z s p (at_place y p) r ≡ gap o z t p (at_place y p) r
    gaps y p within = same_gap o laws z s t y y r p refl (same y r p l within)

    symbols : (p : ℕ) → p < z.symbols → s.symbol r p ≡ t.symbol r p
    symbols p within = sym (gap_of_nothing z s r p) ∙ gaps (nothing o) p within ∙ gap_of_nothing z t r p

  -- two systems in kept form with the same contents have the same rows
  one_form : (z : Size) (s t : System F S) → 0 < z.symbols → Kept o z s → Kept o z t → ((x : ℕ → ℕ → S) → Solves o z s x ↔ Solves o z t x)
      → (r : ℕ) → r < rows z → SameRow z s t r
  one_form z s t place kept_s kept_t same r l =
      elim (cases_lt r z.unknowns) [
        | inl within ↦ same_row_by_solutions z s t place (same_solution z s t place kept_s kept_t same) r within
        | inr beyond ↦ both_empty (kept_s.spare r beyond l) (kept_t.spare r beyond l)
      ]

  -- a system in kept form is the kept form of what it stands for
  pub kept_form : (z : Size) (s : System F S) → 0 < z.symbols → Kept o z s → (set : (ℕ → ℕ → S) → Type 0) → StandsFor o z s set
      → KeptFormOf o z s set
  kept_form z s place kept set stands = record {
    kept = kept;
    stands = stands;
    content = let (x, solves) = some_content o laws z s kept in (x, (stands x).0 solves);
    only = λ t kept_t stands_t.
        one_form z s t place kept kept_t
        (λ x. (λ solves. (stands_t x).1 ((stands x).0 solves), λ solves. (stands x).1 ((stands_t x).0 solves)));
  }

-- the kept form of a set is that of every set with the same contents
pub form_of_same : {F S : Type 0} (o : Operations F S) (z : Size) (s : System F S) (set other : (ℕ → ℕ → S) → Type 0) → KeptFormOf o z s set
    → ((x : ℕ → ℕ → S) → set x ↔ other x) → KeptFormOf o z s other
form_of_same o z s set other form same = record {
  kept = form.kept;
  stands = λ x. (λ solves. (same x).0 ((form.stands x).0 solves), λ m. (form.stands x).1 ((same x).1 m));
  content = (form.content.0, (same form.content.0).0 form.content.1);
  only = λ t kept stands. form.only t kept (λ x. (λ solves. (same x).1 ((stands x).0 solves), λ m. (stands x).1 ((same x).0 m)));
}
