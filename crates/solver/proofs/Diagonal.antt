-- The ones on the diagonal, written one after the other. Assumes nothing.
use Rattle.std.proofs.Common.{◌≡◌, ℕ, ◌+◌, ◌<◌, ◌≤◌, ◌≢◌, inl, inr, sym, ◌∙◌, subst, arith}
use Rattle.std.proofs.lemmas.Bool.{cases_eq}
use borrow.Author.Count.{below_more}
use Rattle.arithmetic.specs.Operations.{Operations}
use Rattle.systems.specs.System.{Size, System, rows}
use Rattle.systems.specs.Form.{SameRow}
use Rattle.systems.specs.Steps.{CoefficientWritten}
use Rattle.systems.proofs.Rows.{same_row_then}
use Rattle.systems.proofs.Steps.{written_at, written_apart}

-- the first i rows give their unknowns, nothing else is in any row, and what lies behind the rows stays
pub record OnesBelow {F S : Type 0} (o : Operations F S) (z : Size) (i : ℕ) (old new : System F S) : Type 0 where
  pub diagonal : (u : ℕ) → u < i → new.coefficient u u ≡ o.products.one
  pub elsewhere : (r u : ℕ) → r < rows z → u < z.unknowns → r ≢ u → new.coefficient r u ≡ o.coefficients.zero
  pub symbols : (r p : ℕ) → r < rows z → p < z.symbols → new.symbol r p ≡ o.symbols.zero
  pub behind : (r : ℕ) → rows z ≤ r → SameRow z new old r

-- one more row gives its unknown
pub ones_more : {F S : Type 0} {o : Operations F S} {z : Size} {i : ℕ} {old s new : System F S} → i < z.unknowns → OnesBelow o z i old s
    → CoefficientWritten z s new i i o.products.one → OnesBelow o z (i + 1) old new
ones_more {o = o} {z} {i} {old} {s} {new} within ones step = record {
  diagonal = below_more (λ u. new.coefficient u u ≡ o.products.one) i
      (λ u h. (step.others u (λ e. omega arith)).coefficients u (omega arith) ∙ ones.diagonal u h) (written_at step within);
  elsewhere = λ r u h l apart.
      elim (cases_eq r i) [
        | inl e ↦ subst (λ (q : ℕ). q ≢ u → new.coefficient q u ≡ o.coefficients.zero) (sym e)
            (λ k. written_apart o.products.one step u l (λ f. k (sym f)) ∙ ones.elsewhere i u (omega arith) l k) apart
        | inr other ↦ (step.others r other).coefficients u l ∙ ones.elsewhere r u h l apart
      ];
  symbols = λ r p h l.
      elim (cases_eq r i) [
        | inl e ↦ subst (λ (q : ℕ). new.symbol q p ≡ o.symbols.zero) (sym e) (step.symbols p l ∙ ones.symbols i p (omega arith) l)
        | inr other ↦ (step.others r other).symbols p l ∙ ones.symbols r p h l
      ];
  behind = λ r h. same_row_then (step.others r (λ e. omega arith)) (ones.behind r h);
}
