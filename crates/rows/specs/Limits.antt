-- The limits of a memory's size, and of its slices. Assumes nothing.
use Rattle.std.specs.Prelude.{ℕ, ◌*◌, ◌≤◌, Bool, ◌||◌, Option, nat_lt}
use Rattle.refusal.specs.Order.{refused, accepted}
use Rattle.codes.specs.Shape.{out_of}
use Rattle.systems.specs.System.{Size, rows}

-- 1 to 128 unknowns of 1 to 32 symbols, and at least one spare row
pub record InLimits (z : Size) : Type 0 where
  pub some_unknown : 1 ≤ z.unknowns
  pub few_unknowns : z.unknowns ≤ 128
  pub some_spare : 1 ≤ z.spare
  pub few_spare : z.spare ≤ 4294967295
  pub some_symbol : 1 ≤ z.symbols
  pub few_symbols : z.symbols ≤ 32

-- the number that the making of another size is refused with
abbrev pub size_refusal : Size → Option ℕ
size_refusal z =
    refused (out_of 1 128 z.unknowns) 1
    (refused (out_of 1 4294967295 z.spare) 1
    (refused (out_of 1 32 z.symbols) 1 accepted))

-- slices of so many coefficients and symbols do not hold n rows
abbrev pub short_by : Size → ℕ → ℕ → ℕ → Bool
short_by z n coefficients symbols = nat_lt coefficients (n * z.unknowns) || nat_lt symbols (n * z.symbols)

-- they do not hold all rows of a memory
abbrev pub short_of : Size → ℕ → ℕ → Bool
short_of z coefficients symbols = short_by z (rows z) coefficients symbols
