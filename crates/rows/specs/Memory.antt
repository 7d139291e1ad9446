-- A memory's rows, which lie one after the other: their coefficients in one slice, their symbols in another. Assumes nothing.
use Rattle.std.specs.Prelude.{◌≡◌, ℕ, ◌+◌, ◌*◌, ◌≤◌, List, drop, slice_index_or}
use Rattle.arithmetic.specs.Operations.{Operations}
use Rattle.systems.specs.System.{Size, System, rows}

-- coefficient u of row r is the one at r * n + u
abbrev pub coefficient : {F S : Type 0} → Operations F S → Size → List F → ℕ → ℕ → F
coefficient o z coefficients r u = slice_index_or coefficients (r * z.unknowns + u) o.coefficients.zero

-- symbol p of row r is the one at r * l + p
abbrev pub symbol : {F S : Type 0} → Operations F S → Size → List S → ℕ → ℕ → S
symbol o z symbols r p = slice_index_or symbols (r * z.symbols + p) o.symbols.zero

-- the system that a memory holds
abbrev pub memory : {F S : Type 0} → Operations F S → Size → List F → List S → System F S
memory o z coefficients symbols = record { coefficient = coefficient o z coefficients; symbol = symbol o z symbols }

-- slices of c coefficients and s symbols hold all rows
pub record Room (z : Size) (c s : ℕ) : Type 0 where
  pub coefficients : rows z * z.unknowns ≤ c
  pub symbols : rows z * z.symbols ≤ s

-- what lies behind the rows is the same
pub record SameBehind {F S : Type 0} (z : Size) (cs ds : List F) (ss ts : List S) : Type 0 where
  pub coefficients : drop (rows z * z.unknowns) ds ≡ drop (rows z * z.unknowns) cs
  pub symbols : drop (rows z * z.symbols) ts ≡ drop (rows z * z.symbols) ss
