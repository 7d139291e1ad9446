-- Rows that are the same, and rows that say nothing: when two are the same, and of which contents they hold. Assumes nothing.
use Rattle.std.proofs.Common.{◌≡◌, ℕ, ◌<◌, ◌↔◌, sym, refl, ◌∙◌, arith}
use Rattle.arithmetic.specs.Operations.{Operations}
use Rattle.arithmetic.specs.Laws.{ArithmeticLaws}
use Rattle.systems.specs.System.{Size, System, combined, at_place, Holds, HoldBelow}
use Rattle.systems.specs.Kept.{Empty, FirstOne}
use Rattle.systems.specs.Form.{SameRow}
use Rattle.systems.proofs.Combining.{combined_same, combined_zero}

pub same_row_back : {F S : Type 0} {z : Size} {s t : System F S} {r : ℕ} → SameRow z s t r → SameRow z t s r
same_row_back e = record { coefficients = λ u l. sym (e.coefficients u l); symbols = λ p l. sym (e.symbols p l) }

pub same_row_then : {F S : Type 0} {z : Size} {s t v : System F S} {r : ℕ} → SameRow z s t r → SameRow z t v r → SameRow z s v r
same_row_then e f = record {
  coefficients = λ u l. e.coefficients u l ∙ f.coefficients u l;
  symbols = λ p l. e.symbols p l ∙ f.symbols p l;
}

-- a row that is the same as one that says nothing says nothing
pub same_empty : {F S : Type 0} {o : Operations F S} {z : Size} {s t : System F S} {r : ℕ} → SameRow z s t r → Empty o z t r → Empty o z s r
same_empty e h = record {
  coefficients = λ u l. e.coefficients u l ∙ h.coefficients u l;
  symbols = λ p l. e.symbols p l ∙ h.symbols p l;
}

-- two rows that say nothing are the same
pub both_empty : {F S : Type 0} {o : Operations F S} {z : Size} {s t : System F S} {r : ℕ} → Empty o z s r → Empty o z t r → SameRow z s t r
both_empty e f = record {
  coefficients = λ u l. e.coefficients u l ∙ sym (f.coefficients u l);
  symbols = λ p l. e.symbols p l ∙ sym (f.symbols p l);
}

-- a row that is the same as one with a first one has it too
pub same_first_one : {F S : Type 0} {o : Operations F S} {z : Size} {s t : System F S} {r u : ℕ} → SameRow z s t r → u < z.unknowns
    → FirstOne o t r u → FirstOne o s r u
same_first_one {z = z} {u = u} e within f = record {
  one = e.coefficients u within ∙ f.one;
  before = λ v l. e.coefficients v (omega arith) ∙ f.before v l;
}

module _ {F S : Type 0} (o : Operations F S) (laws : ArithmeticLaws o) where
  -- row r of one system and row q of another, with the same coefficients and symbols, hold of the same contents
  pub alike_holds : (z : Size) (s t : System F S) (r q : ℕ) → ((u : ℕ) → u < z.unknowns → s.coefficient r u ≡ t.coefficient q u)
      → ((p : ℕ) → p < z.symbols → s.symbol r p ≡ t.symbol q p) → (x : ℕ → ℕ → S) → Holds o z s x r ↔ Holds o z t x q
  alike_holds z s t r q coefficients symbols x =
      (λ h p l. sym (total p) ∙ h p l ∙ symbols p l, λ h p l. total p ∙ h p l ∙ sym (symbols p l)) where
        total : (p : ℕ) → combined o z.unknowns (s.coefficient r) (at_place x p) ≡ combined o z.unknowns (t.coefficient q) (at_place x p)
        total p = combined_same o laws z.unknowns _ _ (at_place x p) (at_place x p) coefficients (λ u k. refl)

  pub same_row_holds : {z : Size} {s t : System F S} {r : ℕ} → SameRow z s t r → (x : ℕ → ℕ → S) → Holds o z s x r ↔ Holds o z t x r
  same_row_holds {z} {s} {t} {r} e = alike_holds z s t r r e.coefficients e.symbols

  pub same_rows_hold : (z : Size) (s t : System F S) (n : ℕ) → ((r : ℕ) → r < n → SameRow z s t r) → (x : ℕ → ℕ → S)
      → HoldBelow o z s n x ↔ HoldBelow o z t n x
  same_rows_hold z s t n e x = (λ h r l. (same_row_holds (e r l) x).0 (h r l), λ h r l. (same_row_holds (e r l) x).1 (h r l))

  -- a row that says nothing holds of every content
  pub empty_holds : {z : Size} {s : System F S} {r : ℕ} → Empty o z s r → (x : ℕ → ℕ → S) → Holds o z s x r
  empty_holds {z} e x p l = combined_zero o laws z.unknowns _ (at_place x p) e.coefficients ∙ sym (e.symbols p l)
