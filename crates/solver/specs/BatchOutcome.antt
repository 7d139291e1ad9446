-- What taking in a batch of equations says. Assumes nothing.
use Rattle.std.specs.Prelude.{◌≡◌, ℕ, ◌<◌, ◌≤◌, List}
use Rattle.arithmetic.specs.Operations.{Operations}
use Rattle.systems.specs.System.{Size, System, rows, HoldBelow, Solves}
use Rattle.systems.specs.Kept.{Empty}
use Rattle.systems.specs.Form.{SameRow, KeptFormOf}
use Rattle.rows.specs.Memory.{memory}
use Rattle.solver.specs.declared.batch.BatchOutcome.{BatchOutcome}
use Rattle.solver.specs.declared.batch.BatchOutcome.TheVariants.{Taken, Contradiction}

-- the contents that satisfy the old rows, and the first k of the given equations
abbrev pub Both : {F S : Type 0} → Operations F S → Size → System F S → ℕ → System F S → (ℕ → ℕ → S) → Type 0
Both o z old k given x = Solves o z old x × HoldBelow o z given k x

-- taken in: the memory is the kept form of those contents. A contradiction: there are none, and the memory is as it was
abbrev pub BatchSays : {F S : Type 0} → Operations F S → Size → ℕ → System F S → List F → List S → List F → List S → BatchOutcome → Type 0
BatchSays o z k given cs ss ds ts Taken = KeptFormOf o z (memory o z ds ts) (Both o z (memory o z cs ss) k given)
BatchSays {F} {S} o z k given cs ss ds ts Contradiction =
    ((x : ℕ → ℕ → S) → Both o z (memory o z cs ss) k given x → ⊥) × ((ds ≡ cs) × (ts ≡ ss))

-- the same of equations that already lie in the spare rows: these rows say nothing afterwards
abbrev pub SolveSays : {F S : Type 0} → Operations F S → Size → System F S → System F S → BatchOutcome → Type 0
SolveSays o z old new Taken = KeptFormOf o z new (Solves o z old)
SolveSays {F} {S} o z old new Contradiction =
    ((x : ℕ → ℕ → S) → Solves o z old x → ⊥)
    × (((r : ℕ) → r < z.unknowns → SameRow z new old r) × ((r : ℕ) → z.unknowns ≤ r → r < rows z → Empty o z new r))
