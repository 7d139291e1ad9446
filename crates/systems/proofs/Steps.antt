-- What rows say after a step. Assumes nothing.
use Rattle.std.proofs.Common.{◌≡◌, ℕ, ◌<◌, ◌≢◌, ◌↔◌, ◌==◌, if◌then◌else◌, sym, refl, ap, ◌∙◌, eq-eqb, ne_eqb}
use Rattle.arithmetic.specs.Operations.{Operations}
use Rattle.arithmetic.specs.Laws.{ArithmeticLaws}
use Rattle.systems.specs.System.{Size, System, combined, at_place, Holds}
use Rattle.systems.specs.Kept.{Empty}
use Rattle.systems.specs.Steps.{RowWritten, Added, Scaled, Copied, Emptied, SymbolsWritten, Moved}
use Rattle.arithmetic.proofs.Sums.{cancel_right}
use Rattle.arithmetic.proofs.Scaling.{scale_cancel}
use Rattle.systems.proofs.Combining.{combined_same, combined_added, combined_scaled, gains_no_times, gains_no_times_symbol}
use Rattle.systems.proofs.Rows.{same_row_then, alike_holds}

-- a row that is emptied says nothing
pub emptied_empty : {F S : Type 0} {o : Operations F S} {z : Size} {old new : System F S} {r : ℕ} → Emptied o z old new r → Empty o z new r
emptied_empty e = record { coefficients = e.coefficients; symbols = e.symbols }

-- a row that is written and then gets other symbols
pub with_symbols : {F S : Type 0} {z : Size} {old s new : System F S} {r : ℕ} {cs : ℕ → F} {ss symbols : ℕ → S} → RowWritten z old s r cs ss
    → SymbolsWritten z s new r symbols → RowWritten z old new r cs symbols
with_symbols e f = record {
  coefficients = λ u l. f.coefficients u l ∙ e.coefficients u l;
  symbols = f.symbols;
  others = λ q apart. same_row_then (f.others q apart) (e.others q apart);
}

-- a row that was copied, and then emptied, has moved
pub copied_emptied : {F S : Type 0} {o : Operations F S} {z : Size} {old s new : System F S} {to source : ℕ} → Copied z old old s to source
    → Emptied o z s new source → to ≢ source → Moved o z old new to source
copied_emptied {to = to} copied emptied apart = record {
  coefficients = λ u l. (emptied.others to apart).coefficients u l ∙ copied.coefficients u l;
  symbols = λ p l. (emptied.others to apart).symbols p l ∙ copied.symbols p l;
  emptied = emptied_empty emptied;
  others = λ r h k. same_row_then (emptied.others r k) (copied.others r h);
}

-- where one coefficient is written it is there, and the others of its row stay
pub written_at : {F S : Type 0} {z : Size} {old new : System F S} {r u : ℕ} {c : F} {ss : ℕ → S}
    → RowWritten z old new r (λ v. if v == u then c else old.coefficient r v) ss → u < z.unknowns → new.coefficient r u ≡ c
written_at {old = old} {r = r} {u = u} {c = c} e l = e.coefficients u l ∙ ap (λ b. if b then c else old.coefficient r u) (eq-eqb u u refl)

pub written_apart : {F S : Type 0} {z : Size} {old new : System F S} {r u : ℕ} (c : F) {ss : ℕ → S}
    → RowWritten z old new r (λ v. if v == u then c else old.coefficient r v) ss → (v : ℕ) → v < z.unknowns → v ≢ u
    → new.coefficient r v ≡ old.coefficient r v
written_apart {old = old} {r = r} {u = u} c e v l apart =
    e.coefficients v l ∙ ap (λ b. if b then c else old.coefficient r v) (ne_eqb v u apart)

module _ {F S : Type 0} (o : Operations F S) (laws : ArithmeticLaws o) where
  pub moved_holds : {z : Size} {old new : System F S} {to source : ℕ} → Moved o z old new to source
      → (x : ℕ → ℕ → S) → Holds o z new x to ↔ Holds o z old x source
  moved_holds {z} {old} {new} {to} {source} e = alike_holds o laws z new old to source e.coefficients e.symbols

  -- no multiple of a row is added
  pub added_nothing : {z : Size} {s : System F S} {to : ℕ} (source : ℕ) {c : F} → c ≡ o.coefficients.zero
      → Added o z s s to source (o.coefficients.negative c)
  added_nothing {s = s} {to = to} source {c = c} e = record {
    coefficients = λ u l. sym (gains_no_times o laws (s.coefficient to u) c (s.coefficient source u) e);
    symbols = λ p l. sym (gains_no_times_symbol o laws (s.symbol to p) c (s.symbol source p) e);
    others = λ r apart. record { coefficients = λ u l. refl; symbols = λ p l. refl };
  }

  -- one row gains a multiple of a row that holds
  pub gained_holds : (z : Size) (old new : System F S) (to source : ℕ) (c : F)
      → ((u : ℕ) → u < z.unknowns → new.coefficient to u ≡ o.coefficients.plus (old.coefficient to u) (o.products.times c (old.coefficient source u)))
      → ((p : ℕ) → p < z.symbols → new.symbol to p ≡ o.symbols.plus (old.symbol to p) (o.scale c (old.symbol source p)))
      → (x : ℕ → ℕ → S) → Holds o z old x source → Holds o z new x to ↔ Holds o z old x to
  gained_holds z old new to source c coefficients symbols x held = (
    λ h p l. cancel_right o.symbols laws.symbols (o.scale c (old.symbol source p)) _ _ (sym (total p l) ∙ h p l ∙ symbols p l),
    λ h p l. total p l ∙ ap (λ y. o.symbols.plus y (o.scale c (old.symbol source p))) (h p l) ∙ sym (symbols p l),
  ) where
    total : (p : ℕ) → p < z.symbols
        → combined o z.unknowns (new.coefficient to) (at_place x p)
        ≡ o.symbols.plus (combined o z.unknowns (old.coefficient to) (at_place x p)) (o.scale c (old.symbol source p))
    total p l =
        combined_same o laws z.unknowns _ _ (at_place x p) (at_place x p) coefficients (λ u k. refl)
        ∙ combined_added o laws z.unknowns (old.coefficient to) c (old.coefficient source) (at_place x p)
        ∙ ap (λ y. o.symbols.plus (combined o z.unknowns (old.coefficient to) (at_place x p)) (o.scale c y)) (held p l)

  pub added_holds : {z : Size} {old new : System F S} {to source : ℕ} {c : F} → Added o z old new to source c
      → (x : ℕ → ℕ → S) → Holds o z old x source → Holds o z new x to ↔ Holds o z old x to
  added_holds {z} {old} {new} {to} {source} {c} a = gained_holds z old new to source c a.coefficients a.symbols

  pub scaled_holds : {z : Size} {old new : System F S} {r : ℕ} {c : F} → Scaled o z old new r c → c ≢ o.coefficients.zero
      → (x : ℕ → ℕ → S) → Holds o z new x r ↔ Holds o z old x r
  scaled_holds {z} {old} {new} {r} {c} e some x = (
    λ h p l. scale_cancel o laws c _ _ some (sym (total p l) ∙ h p l ∙ e.symbols p l),
    λ h p l. total p l ∙ ap (o.scale c) (h p l) ∙ sym (e.symbols p l),
  ) where
    total : (p : ℕ) → p < z.symbols
        → combined o z.unknowns (new.coefficient r) (at_place x p) ≡ o.scale c (combined o z.unknowns (old.coefficient r) (at_place x p))
    total p l =
        combined_same o laws z.unknowns _ _ (at_place x p) (at_place x p) e.coefficients (λ u k. refl)
        ∙ combined_scaled o laws z.unknowns c (old.coefficient r) (at_place x p)
