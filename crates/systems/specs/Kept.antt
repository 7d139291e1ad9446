-- The kept form of a system. Assumes nothing.
use Rattle.std.specs.Prelude.{◌≡◌, ℕ, ◌<◌, ◌≤◌, ◌⊎◌, ◌≢◌}
use Rattle.arithmetic.specs.Operations.{Operations}
use Rattle.systems.specs.System.{Size, System, rows}

-- all coefficients of row r are zero
abbrev pub NoCoefficient : {F S : Type 0} → Operations F S → Size → System F S → ℕ → Type 0
NoCoefficient o z s r = (u : ℕ) → u < z.unknowns → s.coefficient r u ≡ o.coefficients.zero

-- all its symbols are zero
abbrev pub NoSymbol : {F S : Type 0} → Operations F S → Size → System F S → ℕ → Type 0
NoSymbol o z s r = (p : ℕ) → p < z.symbols → s.symbol r p ≡ o.symbols.zero

-- row r says nothing
pub record Empty {F S : Type 0} (o : Operations F S) (z : Size) (s : System F S) (r : ℕ) : Type 0 where
  pub coefficients : NoCoefficient o z s r
  pub symbols : NoSymbol o z s r

-- the first coefficient of row r that is not zero stands in column u
pub record FirstIn {F S : Type 0} (o : Operations F S) (s : System F S) (r u : ℕ) : Type 0 where
  pub some : s.coefficient r u ≢ o.coefficients.zero
  pub before : (v : ℕ) → v < u → s.coefficient r v ≡ o.coefficients.zero

-- the first coefficient of row r that is not zero is a one in column u
pub record FirstOne {F S : Type 0} (o : Operations F S) (s : System F S) (r u : ℕ) : Type 0 where
  pub one : s.coefficient r u ≡ o.products.one
  pub before : (v : ℕ) → v < u → s.coefficient r v ≡ o.coefficients.zero

-- row u gives unknown u among the first n rows: it begins with a one in column u, which is zero in the others
pub record Gives {F S : Type 0} (o : Operations F S) (s : System F S) (n u : ℕ) : Type 0 where
  pub first : FirstOne o s u u
  pub alone : (r : ℕ) → r < n → r ≢ u → s.coefficient r u ≡ o.coefficients.zero

-- each unknown's row says nothing, or gives the unknown among the first n rows
abbrev pub KeptAmong : {F S : Type 0} → Operations F S → Size → System F S → ℕ → Type 0
KeptAmong o z s n = (u : ℕ) → u < z.unknowns → Empty o z s u ⊎ Gives o s n u

-- the kept form: this among all rows, and the spare rows say nothing
pub record Kept {F S : Type 0} (o : Operations F S) (z : Size) (s : System F S) : Type 0 where
  pub given : KeptAmong o z s (rows z)
  pub spare : (r : ℕ) → z.unknowns ≤ r → r < rows z → Empty o z s r
