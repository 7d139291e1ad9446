-- Rows of which each begins with a one, in a column where all later rows are zero. Assumes nothing.
use Rattle.std.specs.Prelude.{◌≡◌, ℕ, ◌<◌, ◌⊎◌}
use Rattle.arithmetic.specs.Operations.{Operations}
use Rattle.systems.specs.System.{Size, System}
use Rattle.systems.specs.Kept.{Empty, FirstOne}

-- row r begins with a one, in a column that is zero in the later ones of the first n rows
pub record Leads {F S : Type 0} (o : Operations F S) (z : Size) (s : System F S) (n r : ℕ) : Type 0 where
  pub column : ℕ
  pub within : column < z.unknowns
  pub first : FirstOne o s r column
  pub clear : (q : ℕ) → r < q → q < n → s.coefficient q column ≡ o.coefficients.zero

-- the first n rows: each says nothing or leads
abbrev pub Led : {F S : Type 0} → Operations F S → Size → System F S → ℕ → Type 0
Led o z s n = (r : ℕ) → r < n → Empty o z s r ⊎ Leads o z s n r
