-- What is read of an unknown. Assumes nothing.
use Rattle.std.specs.Prelude.{◌≡◌, ℕ, List, length, slice_index_or}
use Rattle.arithmetic.specs.Operations.{Operations}
use Rattle.systems.specs.System.{Size, System}
use Rattle.systems.specs.Reading.{Shared}

-- these are its symbols, in all contents
pub record Known {F S : Type 0} (o : Operations F S) (z : Size) (s : System F S) (u : ℕ) (symbols : List S) : Type 0 where
  pub whole : length symbols ≡ z.symbols
  pub shared : Shared o z s u (λ p. slice_index_or symbols p o.symbols.zero)
