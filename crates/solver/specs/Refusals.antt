-- The numbers that calls of the solver are refused with; the first check that fails decides. c and s are the lengths of the
-- memory's slices. Assumes nothing.
use Rattle.std.specs.Prelude.{ℕ, ◌||◌, Option, nat_lt, nat_le}
use Rattle.refusal.specs.Order.{refused, accepted}
use Rattle.codes.specs.Shape.{out_of}
use Rattle.systems.specs.System.{Size}
use Rattle.rows.specs.Limits.{short_by, short_of}

-- a memory whose slices are too short for its rows
abbrev pub memory_refusal : Size → ℕ → ℕ → Option ℕ
memory_refusal z c s = refused (short_of z c s) 3 accepted

-- moving on by k unknowns: at least one, and at most all
abbrev pub move_refusal : Size → ℕ → ℕ → ℕ → Option ℕ
move_refusal z k c s = refused (out_of 1 z.unknowns k) 1 (memory_refusal z c s)

-- taking in k equations, as many as there are spare rows at most, that lie in slices of d coefficients and t symbols
abbrev pub batch_refusal : Size → ℕ → ℕ → ℕ → ℕ → ℕ → Option ℕ
batch_refusal z k d t c s =
    refused (nat_lt z.spare k) 1
    (refused (short_of z c s || short_by z k d t) 3 accepted)

-- reading unknown u
abbrev pub reading_refusal : Size → ℕ → ℕ → ℕ → Option ℕ
reading_refusal z u c s = refused (nat_le z.unknowns u) 1 (memory_refusal z c s)

-- giving unknown u the first of g symbols
abbrev pub giving_refusal : Size → ℕ → ℕ → ℕ → ℕ → Option ℕ
giving_refusal z u g c s =
    refused (nat_le z.unknowns u) 1
    (refused (short_of z c s || nat_lt g z.symbols) 3 accepted)
