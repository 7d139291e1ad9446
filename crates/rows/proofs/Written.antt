-- What is written in the slices of a memory, said of its rows. Assumes nothing.
use Rattle.std.proofs.Common.{◌≡◌, ℕ, ◌+◌, ◌*◌, ◌<◌, ◌≤◌, ◌≢◌, ◌⊎◌, if◌then◌else◌, inl, inr, List, length, get_or, slice_set, refl, sym, ap, ◌∙◌, eq-eqb, ne_eqb, get_or-set_same, get_or-set_other, arith}
use Rattle.std.proofs.lemmas.Bool.{cases_eq}
use Rattle.arithmetic.specs.Operations.{Operations}
use Rattle.systems.specs.System.{Size, rows}
use Rattle.systems.specs.Form.{SameRow}
use Rattle.systems.specs.Steps.{CoefficientWritten}
use Rattle.rows.specs.Memory.{memory}
use Rattle.rows.proofs.Places.{outside_row, place_within, other_place}

-- nothing but row r, of w elements, was written
abbrev pub Outside : {X : Type 0} → ℕ → ℕ → List X → List X → Type 0
Outside {X} w r old new = (i : ℕ) (d : X) → (i < r * w) ⊎ (r * w + w ≤ i) → get_or new i d ≡ get_or old i d

-- so the other rows stay. Calls have answered n and l, the widths of the two slices' rows
pub other_rows : {F S : Type 0} (o : Operations F S) (z : Size) (r n l : ℕ) (cs ds : List F) (ss ts : List S) → n ≡ z.unknowns → l ≡ z.symbols
    → Outside n r cs ds → Outside l r ss ts → (q : ℕ) → q ≢ r → SameRow z (memory o z ds ts) (memory o z cs ss) q
other_rows o z r n l cs ds ss ts width long oc os q other = record {
  coefficients = λ u h. oc (q * z.unknowns + u) o.coefficients.zero (rw (width) (outside_row q r z.unknowns u other h));
  symbols = λ p h. os (q * z.symbols + p) o.symbols.zero (rw (long) (outside_row q r z.symbols p other h));
}

-- one coefficient was written
pub coefficient_written : {F S : Type 0} (o : Operations F S) (z : Size) (cs ds : List F) (ss : List S) (r u : ℕ) (c : F)
    → r < rows z → u < z.unknowns → rows z * z.unknowns ≤ length cs → ds ≡ slice_set cs (r * z.unknowns + u) c
    → CoefficientWritten z (memory o z cs ss) (memory o z ds ss) r u c
coefficient_written {F} o z cs ds ss r u c l k room e = record {
  coefficients = λ v h.
      elim (cases_eq v u) [
        | inl same ↦
            ap (λ xs. get_or xs (r * z.unknowns + v) zero) e ∙ ap (λ i. get_or (slice_set cs at c) (r * z.unknowns + i) zero) same
            ∙ get_or-set_same cs at c zero (place_within r (rows z) z.unknowns (length cs) u l room k)
            ∙ sym (ap (λ b. if b then c else get_or cs (r * z.unknowns + v) zero) (eq-eqb v u same))
        | inr other ↦
            stays r v (λ f. other (omega arith))
            ∙ sym (ap (λ b. if b then c else get_or cs (r * z.unknowns + v) zero) (ne_eqb v u other))
      ];
  symbols = λ p h. refl;
  others = λ q other. record { coefficients = λ v h. stays q v (other_place q r z.unknowns v u other h k); symbols = λ p h. refl };
} where
  zero : F
  zero = o.coefficients.zero

  at : ℕ
  at = r * z.unknowns + u

  stays : (q v : ℕ) → q * z.unknowns + v ≢ at → get_or ds (q * z.unknowns + v) zero ≡ get_or cs (q * z.unknowns + v) zero
  stays q v other = ap (λ xs. get_or xs (q * z.unknowns + v) zero) e ∙ get_or-set_other cs at (q * z.unknowns + v) c zero other
