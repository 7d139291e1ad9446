-- What both ends of a link agree on.
use Rattle.std.specs.Prelude.{ℕ}
use Rattle.arithmetic.specs.Operations.{Operations}
use Rattle.codes.specs.Shape.{Shape}

-- the arithmetic, the code by its shape and its coefficients c(j, a, k), and L, the symbols of a sub-symbol
pub record Link (F S : Type 0) : Type 0 where
  pub operations : Operations F S
  pub shape : Shape
  pub coefficients : ℕ → ℕ → ℕ → F
  pub symbols : ℕ

-- the link that is run by a code, over an arithmetic, with l symbols to a sub-symbol
abbrev pub link_of : {F S C : Type 0} → Operations F S → (C → Shape) → (C → ℕ → ℕ → ℕ → F) → C → ℕ → Link F S
link_of o shape coefficients code l = record {
  operations = o;
  shape = shape code;
  coefficients = coefficients code;
  symbols = l;
}
