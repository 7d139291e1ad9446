-- A new row, reduced by the rows before it. Assumes nothing.
use Rattle.std.proofs.Common.{◌≡◌, ℕ, ◌+◌, ◌<◌, ◌≤◌, ◌≢◌, inl, inr, sym, ◌∙◌, subst, arith}
use mathlib.Core.Logic.Iff.{trans}
use borrow.Author.Count.{below_more}
use Rattle.arithmetic.specs.Operations.{Operations}
use Rattle.arithmetic.specs.Laws.{ArithmeticLaws}
use Rattle.systems.specs.System.{Size, System}
use Rattle.systems.specs.Kept.{FirstIn, FirstOne, NoCoefficient, KeptAmong}
use Rattle.systems.specs.Form.{SameRow}
use Rattle.systems.specs.Steps.{Added}
use Rattle.systems.proofs.Combining.{gains_zero, gains_its_negative}
use Rattle.systems.proofs.Rows.{same_row_back, same_row_then, same_row_holds}
use Rattle.systems.proofs.Steps.{added_holds}
use Rattle.elimination.specs.Leading.{Led}
use Rattle.elimination.specs.Progress.{Reduced}
use Rattle.elimination.proofs.Beginnings.{first_in, same_first_in, first_unique, leads_in}

module _ {F S : Type 0} (o : Operations F S) (laws : ArithmeticLaws o) where
  -- one more of the rows before, zero where that begins too
  reduced_next : {z : Size} {old new : System F S} {t i : ℕ} → Reduced o z old new t i
      → ((u : ℕ) → u < z.unknowns → FirstOne o old i u → new.coefficient t u ≡ o.coefficients.zero) → Reduced o z old new t (i + 1)
  reduced_next {z} {old} {new} {t} {i} d here = record {
    others = d.others;
    means = d.means;
    clear = λ r u. below_more (λ q. u < z.unknowns → FirstOne o old q u → new.coefficient t u ≡ o.coefficients.zero) i (λ q. d.clear q u) (here u) r;
  }

  -- row i says nothing
  pub reduced_skip : {z : Size} {old new : System F S} {t i : ℕ} → Reduced o z old new t i → NoCoefficient o z new i → i < t
      → Reduced o z old new t (i + 1)
  reduced_skip d nothing before =
      reduced_next d (λ u within f. absurd ((first_in o laws f).some (sym ((d.others _ (omega arith)).coefficients u within) ∙ nothing u within)))

  -- row t gains such a multiple of row i that it is zero where row i begins
  pub reduced_more : {z : Size} {old s new : System F S} {t i u : ℕ} → Led o z old t → i < t → Reduced o z old s t i
      → u < z.unknowns → FirstIn o s i u → Added o z s new t i (o.coefficients.negative (s.coefficient t u)) → Reduced o z old new t (i + 1)
  reduced_more {z} {old} {s} {new} {t} {i} {u} led before d within begins a =
      reduced_next still (λ w column f.
      subst (λ (v : ℕ). new.coefficient t v ≡ o.coefficients.zero) (first_unique o laws one (first_in o laws f))
      (a.coefficients u within ∙ gains_its_negative o laws (s.coefficient t u) (s.coefficient i u) (same.coefficients u within ∙ one.one))) where
        same : SameRow z s old i
        same = d.others i (omega arith)

        one : FirstOne o old i u
        one = (leads_in o laws (led i before) within (same_first_in (same_row_back same) within begins)).0

        -- row i is zero where the rows before it begin
        still : Reduced o z old new t i
        still = record {
          others = λ r other. same_row_then (a.others r other) (d.others r other);
          means = λ x below. trans (added_holds o laws a x ((same_row_holds o laws same x).1 (below i before))) (d.means x below);
          clear = λ r w l column f.
              a.coefficients w column
              ∙ gains_zero o laws (s.coefficient t w) (o.coefficients.negative (s.coefficient t u)) (s.coefficient i w)
              (same.coefficients w column ∙ (leads_in o laws (led r (omega arith)) column (first_in o laws f)).1 i l before)
              ∙ d.clear r w l column f;
        }

  -- a kept row that begins at all begins with its own unknown
  own_column : {z : Size} {s : System F S} {n u w : ℕ} → KeptAmong o z s n → u < z.unknowns → w < z.unknowns → FirstOne o s u w → u ≡ w
  own_column {w = w} kept l column f =
      elim (kept _ l) [
        | inl empty ↦ absurd ((first_in o laws f).some (empty.coefficients w column))
        | inr gives ↦ first_unique o laws gives.first (first_in o laws f)
      ]

  -- the row of unknown u, which row t does not mention
  pub reduced_absent : {z : Size} {old s : System F S} {t u : ℕ} → KeptAmong o z old z.unknowns → Reduced o z old s t u → u < z.unknowns
      → s.coefficient t u ≡ o.coefficients.zero → Reduced o z old s t (u + 1)
  reduced_absent {s = s} {t = t} kept d l e =
      reduced_next d (λ w column f. subst (λ (v : ℕ). s.coefficient t v ≡ o.coefficients.zero) (own_column kept l column f) e)

  -- it does not give its unknown
  pub reduced_free : {z : Size} {old s : System F S} {t u : ℕ} → KeptAmong o z old z.unknowns → Reduced o z old s t u → u < z.unknowns
      → z.unknowns ≤ t → s.coefficient u u ≡ o.coefficients.zero → Reduced o z old s t (u + 1)
  reduced_free {old = old} {u = u} kept d l spare e =
      reduced_next d (λ w column f.
      absurd ((first_in o laws (subst (FirstOne o old u) (sym (own_column kept l column f)) f)).some
      (sym ((d.others u (omega arith)).coefficients u l) ∙ e)))

  -- it gives its unknown, and row t gains such a multiple of it that it does not mention that unknown any more
  pub reduced_given : {z : Size} {old s new : System F S} {t u : ℕ} → KeptAmong o z old z.unknowns → Led o z old t → Reduced o z old s t u
      → u < z.unknowns → z.unknowns ≤ t → s.coefficient u u ≢ o.coefficients.zero
      → Added o z s new t u (o.coefficients.negative (s.coefficient t u)) → Reduced o z old new t (u + 1)
  reduced_given {z} {old} {s} {new} {t} {u} kept led d l spare some a =
      reduced_more led (omega arith) d l
      (elim (kept u l) [
        | inl empty ↦ absurd (some (same.coefficients u l ∙ empty.coefficients u l))
        | inr gives ↦ same_first_in same l (first_in o laws gives.first)
      ])
      a where
        same : SameRow z s old u
        same = d.others u (omega arith)
