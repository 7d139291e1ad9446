-- A system in kept form has a content. Assumes nothing.
use Rattle.std.specs.Prelude.{ℕ}
use Rattle.arithmetic.specs.Operations.{Operations}
use Rattle.arithmetic.specs.Laws.{ArithmeticLaws}
use Rattle.systems.specs.System.{Size, System, Solves}
use Rattle.systems.specs.Kept.{Kept}
use Rattle.systems.proofs.Solve.{solution, nothing, solution_solves}

module _ {F S : Type 0} (o : Operations F S) (laws : ArithmeticLaws o) where
  pub some_content : (z : Size) (s : System F S) → Kept o z s → (x : ℕ → ℕ → S) × Solves o z s x
  some_content z s kept = (solution o z s (nothing o), solution_solves o laws z s kept (nothing o))
