-- What an arithmetic means: its elements' operations, with nothing said yet of their laws.
use Rattle.std.specs.Prelude.{ℕ, List, Option}

-- sums: of coefficients or of symbols
pub record Sums (X : Type 0) : Type 0 where
  pub zero : X
  pub plus : X → X → X
  pub negative : X → X

-- what coefficients have besides their sums; zero has no inverse
pub record Products (F : Type 0) : Type 0 where
  pub one : F
  pub times : F → F → F
  pub inverse : F → Option F

-- a whole arithmetic: coefficients F, symbols S, how a coefficient scales a symbol, and a symbol that is not zero
pub record Operations (F S : Type 0) : Type 0 where
  pub coefficients : Sums F
  pub products : Products F
  pub symbols : Sums S
  pub scale : F → S → S
  pub mark : S

-- symbols as strings of bytes, all of one width
pub record Bytes (S : Type 0) : Type 0 where
  pub width : ℕ
  pub write : S → List ℕ
  pub read : List ℕ → S
