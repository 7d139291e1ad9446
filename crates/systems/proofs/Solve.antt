-- Contents of a system in kept form: one from each choice of what its unknowns hold. Assumes nothing.
use Rattle.std.proofs.Common.{◌≡◌, ℕ, ◌<◌, ◌≢◌, cond, eqb, inl, inr, sym, ap, ◌∙◌, ne_eqb, eq-eqb, refl, arith}
use Rattle.std.proofs.lemmas.Bool.{cases_lt}
use Rattle.arithmetic.specs.Operations.{Operations}
use Rattle.arithmetic.specs.Laws.{ArithmeticLaws}
use Rattle.systems.specs.System.{Size, System, combined, at_place, Solves}
use Rattle.systems.specs.Kept.{Empty, Kept}
use Rattle.arithmetic.proofs.Sums.{cancel, plus_zero, plus_negative, plus_rest, same_negative, sum_zero, sum_only}
use Rattle.arithmetic.proofs.Scaling.{scale_nothing, scale_by_zero}
use Rattle.systems.proofs.Combining.{combined_zero, combined_of_sum}
use Rattle.systems.proofs.Rows.{empty_holds}

-- by how much row u is off at place p, where the unknowns hold y there
abbrev pub gap : {F S : Type 0} → Operations F S → Size → System F S → ℕ → (ℕ → S) → ℕ → S
gap o z s p y u = o.symbols.plus (s.symbol u p) (o.symbols.negative (combined o z.unknowns (s.coefficient u) y))

-- each unknown's choice, mended by what its row is off
abbrev pub solution : {F S : Type 0} → Operations F S → Size → System F S → (ℕ → ℕ → S) → ℕ → ℕ → S
solution o z s y u p = o.symbols.plus (y u p) (gap o z s p (at_place y p) u)

-- two choices: nothing at all, and the mark for unknown v alone
abbrev pub nothing : {F S : Type 0} → Operations F S → ℕ → ℕ → S
nothing o u p = o.symbols.zero

abbrev pub marked : {F S : Type 0} → Operations F S → ℕ → ℕ → ℕ → S
marked o v u p = cond (eqb u v) o.mark o.symbols.zero

module _ {F S : Type 0} (o : Operations F S) (laws : ArithmeticLaws o) where
  pub combined_of_nothing : (n : ℕ) (c : ℕ → F) (x : ℕ → S) → ((u : ℕ) → u < n → x u ≡ o.symbols.zero) → combined o n c x ≡ o.symbols.zero
  combined_of_nothing n c x h = sum_zero o.symbols laws.symbols n _ (λ u l. ap (o.scale (c u)) (h u l) ∙ scale_nothing o laws (c u))

  -- in kept form a row has zeros before its own unknown
  pub zero_before : (z : Size) (s : System F S) → Kept o z s → (u v : ℕ) → u < z.unknowns → v < u → s.coefficient u v ≡ o.coefficients.zero
  zero_before z s kept u v l before =
      elim (kept.given u l) [
        | inl empty ↦ empty.coefficients v (omega arith)
        | inr gives ↦ gives.first.before v before
      ]

  -- where the row holds already, nothing is off
  no_gap : (z : Size) (s : System F S) (y : ℕ → ℕ → S) (u p : ℕ)
      → combined o z.unknowns (s.coefficient u) (at_place y p) ≡ s.symbol u p → gap o z s p (at_place y p) u ≡ o.symbols.zero
  no_gap z s y u p e = ap (λ x. o.symbols.plus (s.symbol u p) (o.symbols.negative x)) e ∙ plus_negative o.symbols laws.symbols (s.symbol u p)

  -- and the solution keeps what was chosen
  pub solution_stays : (z : Size) (s : System F S) (y : ℕ → ℕ → S) (u p : ℕ)
      → combined o z.unknowns (s.coefficient u) (at_place y p) ≡ s.symbol u p → solution o z s y u p ≡ y u p
  solution_stays z s y u p e = ap (o.symbols.plus (y u p)) (no_gap z s y u p e) ∙ plus_zero o.symbols laws.symbols (y u p)

  -- in kept form a row takes from the others' gaps nothing, and its own as it is
  combined_gap : (z : Size) (s : System F S) → Kept o z s → (y : ℕ → ℕ → S) (w p : ℕ) → w < z.unknowns → p < z.symbols
      → combined o z.unknowns (s.coefficient w) (gap o z s p (at_place y p)) ≡ gap o z s p (at_place y p) w
  combined_gap z s kept y w p within place =
      elim (kept.given w within) [
        | inl empty ↦
            combined_zero o laws z.unknowns (s.coefficient w) (gap o z s p (at_place y p)) empty.coefficients
            ∙ sym (no_gap z s y w p (empty_holds o laws empty y p place))
        | inr gives ↦
            sum_only o.symbols laws.symbols z.unknowns w (λ u. o.scale (s.coefficient w u) (gap o z s p (at_place y p) u)) within others
            ∙ ap (λ c. o.scale c (gap o z s p (at_place y p) w)) gives.first.one ∙ laws.scaling.by_one (gap o z s p (at_place y p) w)
      ] where
        others : (u : ℕ) → u < z.unknowns → u ≢ w → o.scale (s.coefficient w u) (gap o z s p (at_place y p) u) ≡ o.symbols.zero
        others u l apart =
            elim (kept.given u l) [
              | inl empty ↦ ap (o.scale (s.coefficient w u)) (no_gap z s y u p (empty_holds o laws empty y p place)) ∙ scale_nothing o laws (s.coefficient w u)
              | inr gives ↦
                  ap (λ c. o.scale c (gap o z s p (at_place y p) u)) (gives.alone w (omega arith) (λ e. apart (sym e)))
                  ∙ scale_by_zero o laws (gap o z s p (at_place y p) u)
            ]

  -- whatever is chosen, the solution is a content
  pub solution_solves : (z : Size) (s : System F S) → Kept o z s → (y : ℕ → ℕ → S) → Solves o z s (solution o z s y)
  solution_solves z s kept y r l =
      elim (cases_lt r z.unknowns) [
        | inl within ↦ λ p place.
            combined_of_sum o laws z.unknowns (s.coefficient r) (at_place y p) (gap o z s p (at_place y p))
            ∙ ap (o.symbols.plus (combined o z.unknowns (s.coefficient r) (at_place y p))) (combined_gap z s kept y r p within place)
            ∙ plus_rest o.symbols laws.symbols (combined o z.unknowns (s.coefficient r) (at_place y p)) (s.symbol r p)
        | inr beyond ↦ empty_holds o laws (kept.spare r beyond l) (solution o z s y)
      ]

  -- the solution keeps what was chosen for an unknown whose row is empty
  pub solution_free : (z : Size) (s : System F S) (y : ℕ → ℕ → S) (u p : ℕ) → Empty o z s u → p < z.symbols → solution o z s y u p ≡ y u p
  solution_free z s y u p empty place = solution_stays z s y u p (empty_holds o laws empty y p place)

  -- two systems with the same solution for the same choice are off by the same
  pub same_gap : (z : Size) (s t : System F S) (x y : ℕ → ℕ → S) (u p : ℕ) → x u p ≡ y u p → solution o z s x u p ≡ solution o z t y u p
      → gap o z s p (at_place x p) u ≡ gap o z t p (at_place y p) u
  same_gap z s t x y u p chosen solved =
      cancel o.symbols laws.symbols (y u p) (gap o z s p (at_place x p) u) (gap o z t p (at_place y p) u)
      (ap (λ a. o.symbols.plus a (gap o z s p (at_place x p) u)) (sym chosen) ∙ solved)

  -- and where their symbols are the same as well, so are their sums
  pub same_combined : (z : Size) (s t : System F S) (x y : ℕ → ℕ → S) (u p : ℕ) → s.symbol u p ≡ t.symbol u p
      → gap o z s p (at_place x p) u ≡ gap o z t p (at_place y p) u
      → combined o z.unknowns (s.coefficient u) (at_place x p) ≡ combined o z.unknowns (t.coefficient u) (at_place y p)
  same_combined z s t x y u p symbols gaps =
      same_negative o.symbols laws.symbols _ _
      (cancel o.symbols laws.symbols (t.symbol u p) (o.symbols.negative (combined o z.unknowns (s.coefficient u) (at_place x p))) _
      (ap (λ a. o.symbols.plus a (o.symbols.negative (combined o z.unknowns (s.coefficient u) (at_place x p)))) (sym symbols) ∙ gaps))

  pub mark_at : (v p : ℕ) → marked o v v p ≡ o.mark
  mark_at v p = ap (λ b. cond b o.mark o.symbols.zero) (eq-eqb v v refl)

  pub no_mark_at : (v u p : ℕ) → u ≢ v → marked o v u p ≡ o.symbols.zero
  no_mark_at v u p apart = ap (λ b. cond b o.mark o.symbols.zero) (ne_eqb u v apart)

  pub combined_of_mark : (n : ℕ) (c : ℕ → F) (v p : ℕ) → v < n → combined o n c (at_place (marked o v) p) ≡ o.scale (c v) o.mark
  combined_of_mark n c v p l =
      sum_only o.symbols laws.symbols n v (λ u. o.scale (c u) (marked o v u p)) l
      (λ u _ apart. ap (o.scale (c u)) (no_mark_at v u p apart) ∙ scale_nothing o laws (c u))
      ∙ ap (o.scale (c v)) (mark_at v p)
