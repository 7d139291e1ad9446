-- Equations written into the spare rows. Assumes nothing.
use Rattle.std.specs.Prelude.{◌≡◌, ℕ, ◌+◌, ◌<◌, ◌≤◌}
use Rattle.systems.specs.System.{Size, System}
use Rattle.systems.specs.Form.{SameRow}

-- the first k spare rows say what the first k given rows say; all other rows stay
pub record CopiedIn {F S : Type 0} (z : Size) (k : ℕ) (given old new : System F S) : Type 0 where
  pub coefficients : (j u : ℕ) → j < k → u < z.unknowns → new.coefficient (z.unknowns + j) u ≡ given.coefficient j u
  pub symbols : (j p : ℕ) → j < k → p < z.symbols → new.symbol (z.unknowns + j) p ≡ given.symbol j p
  pub front : (r : ℕ) → r < z.unknowns → SameRow z new old r
  pub behind : (r : ℕ) → z.unknowns + k ≤ r → SameRow z new old r
