-- What the memory stands for once equations are copied into its spare rows. Assumes nothing.
use Rattle.std.proofs.Common.{◌≡◌, ℕ, ◌+◌, ◌-◌, ◌<◌, ◌≤◌, ◌↔◌, inl, inr, subst, List, length, arith}
use Rattle.std.proofs.lemmas.Bool.{cases_lt}
use Rattle.arithmetic.specs.Operations.{Operations}
use Rattle.arithmetic.specs.Laws.{ArithmeticLaws}
use Rattle.systems.specs.System.{Size, System, rows, Holds, Solves}
use Rattle.systems.specs.Kept.{Kept, Empty}
use Rattle.systems.specs.Form.{SameRow}
use Rattle.systems.proofs.Unique.{form_of_same}
use Rattle.systems.proofs.Rows.{same_row_then, both_empty, alike_holds, same_row_holds, empty_holds}
use Rattle.rows.specs.Memory.{memory}
use Rattle.rows.proofs.Behind.{same_coefficients, same_symbols}
use Rattle.solver.specs.declared.batch.BatchOutcome.{BatchOutcome}
use Rattle.solver.specs.declared.batch.BatchOutcome.TheVariants.{Taken, Contradiction}
use Rattle.solver.specs.BatchOutcome.{Both, BatchSays, SolveSays}
use Rattle.solver.specs.Copying.{CopiedIn}

module _ {F S : Type 0} (o : Operations F S) (laws : ArithmeticLaws o) (z : Size) (k : ℕ) (given old new : System F S)
    (few : k ≤ z.spare) (kept : Kept o z old) (copied : CopiedIn z k given old new) where
  copied_holds : (j : ℕ) → j < k → (x : ℕ → ℕ → S) → Holds o z new x (z.unknowns + j) ↔ Holds o z given x j
  copied_holds j h = alike_holds o laws z new given (z.unknowns + j) j (λ u l. copied.coefficients j u h l) (λ p l. copied.symbols j p h l)

  -- exactly the contents that satisfy the old rows and the given equations
  copied_solves : (x : ℕ → ℕ → S) → Solves o z new x ↔ Both o z old k given x
  copied_solves x = (there, back) where
    old_row : (r : ℕ) → r < rows z → Solves o z new x → Holds o z old x r
    old_row r h solves =
        elim (cases_lt r z.unknowns) [
          | inl front ↦ (same_row_holds o laws (copied.front r front) x).0 (solves r h)
          | inr spare ↦ empty_holds o laws (kept.spare r (omega arith) h) x
        ]

    there : Solves o z new x → Both o z old k given x
    there solves = (λ r h. old_row r h solves, λ j h. (copied_holds j h x).0 (solves (z.unknowns + j) (omega arith)))

    new_row : (r : ℕ) → r < rows z → Both o z old k given x → Holds o z new x r
    new_row r h both =
        elim (cases_lt r z.unknowns) [
          | inl front ↦ (same_row_holds o laws (copied.front r front) x).1 (both.0 r h)
          | inr spare ↦ elim (cases_lt r (z.unknowns + k)) [
            | inl copy ↦
                let place : z.unknowns + (r - z.unknowns) ≡ r = omega arith in
                subst (λ (q : ℕ). Holds o z new x q) place ((copied_holds (r - z.unknowns) (omega arith) x).1 (both.1 (r - z.unknowns) (omega arith)))
            | inr beyond ↦ (same_row_holds o laws (copied.behind r (omega arith)) x).1 (both.0 r h)
          ]
        ]

    back : Both o z old k given x → Solves o z new x
    back both r h = new_row r h both

-- a system in kept form is given up: the rows of the unknowns are as they were, and the spare rows say nothing, so no row has changed
pub given_up : {F S : Type 0} {o : Operations F S} {z : Size} {old new : System F S} → Kept o z old
    → ((r : ℕ) → r < z.unknowns → SameRow z new old r) → ((r : ℕ) → z.unknowns ≤ r → r < rows z → Empty o z new r)
    → ((r : ℕ) → rows z ≤ r → SameRow z new old r) → (r : ℕ) → SameRow z new old r
given_up {z = z} kept front empty behind r =
    elim (cases_lt r z.unknowns) [
      | inl first ↦ front r first
      | inr later ↦ elim (cases_lt r (rows z)) [
        | inl spare ↦ both_empty (empty r later spare) (kept.spare r later spare)
        | inr beyond ↦ behind r beyond
      ]
    ]

-- what solving says of the rows with the equations among them is what taking in says of the rows before
module _ {F S : Type 0} (o : Operations F S) (laws : ArithmeticLaws o) (z : Size) (k : ℕ) (given : System F S)
    (cs ms ds : List F) (ss ns ts : List S) (few : k ≤ z.spare) (unknown : 0 < z.unknowns) (symbol : 0 < z.symbols)
    (kept : Kept o z (memory o z cs ss)) (copied : CopiedIn z k given (memory o z cs ss) (memory o z ms ns)) where
  pub batch_says : (b : BatchOutcome) → SolveSays o z (memory o z ms ns) (memory o z ds ts) b
      → ((r : ℕ) → rows z ≤ r → SameRow z (memory o z ds ts) (memory o z ms ns) r) → length ds ≡ length cs → length ts ≡ length ss
      → BatchSays o z k given cs ss ds ts b
  batch_says Taken form behind long wide =
      form_of_same o z (memory o z ds ts) (Solves o z (memory o z ms ns)) (Both o z (memory o z cs ss) k given) form
      (copied_solves o laws z k given (memory o z cs ss) (memory o z ms ns) few kept copied)
  batch_says Contradiction (none, (front, empty)) behind long wide = (
    λ x both. none x ((copied_solves o laws z k given (memory o z cs ss) (memory o z ms ns) few kept copied x).1 both),
    (same_coefficients o z cs ds ss ts unknown long same, same_symbols o z cs ds ss ts symbol wide same),
  ) where
    same : (r : ℕ) → SameRow z (memory o z ds ts) (memory o z cs ss) r
    same = given_up kept (λ r h. same_row_then (front r h) (copied.front r h)) empty
        (λ r h. same_row_then (behind r h) (copied.behind r (omega arith)))
