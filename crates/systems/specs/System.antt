-- Equations between unknowns, and the contents that satisfy them. Assumes nothing.
use Rattle.std.specs.Prelude.{◌≡◌, ℕ, ◌+◌, ◌<◌}
use Rattle.arithmetic.specs.Operations.{Operations}
use Rattle.arithmetic.specs.Totals.{sum_below}

-- so many unknowns, so many spare rows beyond one row for each unknown, and so many symbols to an unknown and to a row
pub record Size : Type 0 where
  pub unknowns : ℕ
  pub spare : ℕ
  pub symbols : ℕ

-- all rows
abbrev pub rows : Size → ℕ
rows z = z.unknowns + z.spare

-- coefficients by row and unknown, symbols by row and place
pub record System (F S : Type 0) : Type 0 where
  pub coefficient : ℕ → ℕ → F
  pub symbol : ℕ → ℕ → S

-- coefficients times unknowns, added up
abbrev pub combined : {F S : Type 0} → Operations F S → ℕ → (ℕ → F) → (ℕ → S) → S
combined o n c x = sum_below o.symbols n (λ u. o.scale (c u) (x u))

-- what the unknowns hold at one place
abbrev pub at_place : {S : Type 0} → (ℕ → ℕ → S) → ℕ → ℕ → S
at_place x p u = x u p

-- row r holds of a content x, which has x u p at place p of unknown u: its coefficients times the unknowns add up to its symbols, at each place
abbrev pub Holds : {F S : Type 0} → Operations F S → Size → System F S → (ℕ → ℕ → S) → ℕ → Type 0
Holds o z s x r = (p : ℕ) → p < z.symbols → combined o z.unknowns (s.coefficient r) (at_place x p) ≡ s.symbol r p

-- the first n rows hold of x
abbrev pub HoldBelow : {F S : Type 0} → Operations F S → Size → System F S → ℕ → (ℕ → ℕ → S) → Type 0
HoldBelow o z s n x = (r : ℕ) → r < n → Holds o z s x r

-- x is one of the contents that the system stands for: all its rows hold of it
abbrev pub Solves : {F S : Type 0} → Operations F S → Size → System F S → (ℕ → ℕ → S) → Type 0
Solves o z s x = HoldBelow o z s (rows z) x
