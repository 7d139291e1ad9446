-- A memory that is lent with a call. Assumes nothing.
use Rattle.std.specs.Prelude.{◌≡◌}
use Rattle.arithmetic.specs.Operations.{Operations}
use Rattle.systems.specs.System.{System}
use Rattle.rows.specs.Memory.{memory}
use Rattle.rows.specs.declared.memory.Memory.{Memory}

-- the system that it holds
abbrev pub system_of : {F S : Type 0} → Operations F S → Memory F S → System F S
system_of o m = memory o m.size m.coefficients.now m.symbols.now

-- it is still of this size, and holds the slices that were lent
pub record SameLoan {F S : Type 0} (old new : Memory F S) : Type 0 where
  pub size : new.size ≡ old.size
  pub coefficients : new.coefficients.ghost_name ≡ old.coefficients.ghost_name
  pub symbols : new.symbols.ghost_name ≡ old.symbols.ghost_name
