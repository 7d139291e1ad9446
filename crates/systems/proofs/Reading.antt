-- What a row of a system says of its unknown: all contents share it, or two differ. Assumes nothing.
use Rattle.std.proofs.Common.{◌≡◌, ℕ, ◌<◌, ◌≢◌, inl, inr, sym, ap, refl, ◌∙◌, arith}
use Rattle.arithmetic.specs.Operations.{Operations}
use Rattle.arithmetic.specs.Laws.{ArithmeticLaws}
use Rattle.systems.specs.System.{Size, System, combined, at_place}
use Rattle.systems.specs.Kept.{Kept}
use Rattle.systems.specs.Reading.{Shared, Differ}
use Rattle.arithmetic.proofs.Sums.{sum_only}
use Rattle.arithmetic.proofs.Scaling.{scale_by_zero, scaled_to_nothing}
use Rattle.systems.proofs.Solve.{solution, nothing, marked, solution_solves, solution_free, same_gap, same_combined, combined_of_nothing, combined_of_mark, mark_at, no_mark_at}

module _ {F S : Type 0} (o : Operations F S) (laws : ArithmeticLaws o) where
  -- a row with a one for its unknown, and nothing else, adds up to what the unknown holds
  pub own_alone : (z : Size) (s : System F S) (u : ℕ) → u < z.unknowns → s.coefficient u u ≡ o.products.one
      → ((v : ℕ) → v < z.unknowns → v ≢ u → s.coefficient u v ≡ o.coefficients.zero) → (x : ℕ → ℕ → S) (p : ℕ)
      → combined o z.unknowns (s.coefficient u) (at_place x p) ≡ x u p
  own_alone z s u l one others x p =
      sum_only o.symbols laws.symbols z.unknowns u (λ v. o.scale (s.coefficient u v) (x v p)) l
      (λ v k apart. ap (λ c. o.scale c (x v p)) (others v k apart) ∙ scale_by_zero o laws (x v p))
      ∙ ap (λ c. o.scale c (x u p)) one ∙ laws.scaling.by_one (x u p)

  -- and so says what the unknown is
  pub shared : (z : Size) (s : System F S) (u : ℕ) → u < z.unknowns → s.coefficient u u ≡ o.products.one
      → ((v : ℕ) → v < z.unknowns → v ≢ u → s.coefficient u v ≡ o.coefficients.zero) → Shared o z s u (s.symbol u)
  shared z s u l one others x solves p place =
      sym (own_alone z s u l one others x p) ∙ solves u (omega arith) p place

  -- two contents: from the mark for unknown v alone, and from nothing
  mark_differs : (z : Size) (s : System F S) → Kept o z s → (u v : ℕ) → 0 < z.symbols
      → solution o z s (marked o v) u 0 ≢ solution o z s (nothing o) u 0 → Differ o z s u
  mark_differs z s kept u v place differ = record {
    one = solution o z s (marked o v);
    other = solution o z s (nothing o);
    one_solves = solution_solves o laws z s kept (marked o v);
    other_solves = solution_solves o laws z s kept (nothing o);
    place = 0;
    within = place;
    differ = differ;
  }

  -- a row without a one for its unknown is empty, and leaves the unknown open
  pub differ_empty : (z : Size) (s : System F S) → Kept o z s → (u : ℕ) → u < z.unknowns → 0 < z.symbols
      → s.coefficient u u ≢ o.products.one → Differ o z s u
  differ_empty z s kept u l place no_one =
      elim (kept.given u l) [
        | inl empty ↦
            mark_differs z s kept u u place
            (λ same. laws.scaling.mark_not_zero
            (sym (mark_at o laws u 0) ∙ sym (solution_free o laws z s (marked o u) u 0 empty place)
            ∙ same ∙ solution_free o laws z s (nothing o) u 0 empty place))
        | inr gives ↦ absurd (no_one gives.first.one)
      ]

  -- a row with another unknown in it leaves its own open as well
  pub differ_other : (z : Size) (s : System F S) → Kept o z s → (u v : ℕ) → v < z.unknowns → v ≢ u → 0 < z.symbols
      → s.coefficient u v ≢ o.coefficients.zero → Differ o z s u
  differ_other z s kept u v l apart place not_zero =
      mark_differs z s kept u v place
      (λ same. laws.scaling.mark_not_zero
      (scaled_to_nothing o laws (s.coefficient u v) o.mark not_zero
      (sym (combined_of_mark o laws z.unknowns (s.coefficient u) v 0 l)
      ∙ same_combined o laws z s s (marked o v) (nothing o) u 0 refl
      (same_gap o laws z s s (marked o v) (nothing o) u 0 (no_mark_at o laws v u 0 (λ e. apart (sym e))) same)
      ∙ combined_of_nothing o laws z.unknowns (s.coefficient u) (at_place (nothing o) 0) (λ _ _. refl))))
