-- What is written into the spare rows. Assumes nothing.
use Rattle.std.specs.Prelude.{ℕ, ◌<◌, ◌≤◌}
use Rattle.arithmetic.specs.Operations.{Operations}
use Rattle.systems.specs.System.{rows}
use Rattle.systems.specs.Form.{SameRow}
use Rattle.rows.specs.declared.memory.Memory.{Memory}
use Rattle.rows.specs.Lent.{system_of, SameLoan}

-- the rows of the unknowns stay, and what lies behind all rows
pub record SameFront {F S : Type 0} (o : Operations F S) (old new : Memory F S) : Type 0 where
  pub same : SameLoan old new
  pub front : (r : ℕ) → r < old.size.unknowns → SameRow old.size (system_of o new) (system_of o old) r
  pub behind : (r : ℕ) → rows old.size ≤ r → SameRow old.size (system_of o new) (system_of o old) r
