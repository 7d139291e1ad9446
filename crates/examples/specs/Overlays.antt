-- Worked examples: two tables on top of each other, the second delayed by one slot.
use Rattle.std.specs.Prelude.{◌≡◌, ℕ, List, [], ◌∷◌}
use Rattle.byte.specs.declared.element.Byte.{Byte}
use Rattle.byte.specs.Field.{byte_sums}
use Rattle.codes.specs.Shape.{Shape}
use Rattle.codes.specs.Coefficients.{overlay, overlay_shape}
use Rattle.table.specs.Table.{table_shape, table_coefficients}
use Rattle.examples.specs.Tables as first

-- the first is that of the table's examples, with K=2, P=2, M=1; the second has K=3, P=1, M=1
abbrev pub table : List ℕ
table = 9 ∷ 10 ∷ 11 ∷ 12 ∷ 13 ∷ 14 ∷ []

abbrev pub second_shape : Shape
second_shape = table_shape 3 1 1

abbrev pub second : ℕ → ℕ → ℕ → Byte
second j a k = table_coefficients second_shape table j a k

abbrev pub shape : Shape
shape = overlay_shape first.shape second_shape 1

-- c(j, a, k) of the two together
abbrev pub coefficient : ℕ → ℕ → ℕ → Byte
coefficient j a k = overlay byte_sums first.coefficient second 1 j a k

pub record OverlayExamples : Type 0 where
  -- K is the second's, P the first's, and M the second's with the delay
  pub sources : shape.sources ≡ 3
  pub parities : shape.parities ≡ 2
  pub memory : shape.memory ≡ 2
  -- and the first's where that reaches back farther
  pub longer_first : (overlay_shape (table_shape 2 2 5) second_shape 1).memory ≡ 5
  -- before the delay the first's alone, also where the second has a coefficient at that age
  pub before : (coefficient 0 0 1).value ≡ 3
  pub second_has_one : (second 0 0 1).value ≡ 10
  -- where both have one their sum, which is the exclusive or: of 29 and 10, and of 142 and 9
  pub both : (coefficient 0 1 1).value ≡ 23
  pub both_too : (coefficient 0 1 0).value ≡ 135
  -- the second's alone, in a sub-symbol and at an age that the first has not
  pub new_sub : (coefficient 0 1 2).value ≡ 11
  pub new_age : (coefficient 0 2 2).value ≡ 14
  -- the first's alone, in a parity that the second has not
  pub other_parity : (coefficient 1 1 0).value ≡ 76
  pub neither : (coefficient 1 2 0).value ≡ 0
