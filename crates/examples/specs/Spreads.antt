-- Worked examples: a table spread by three slots, and an overlay spread by two.
use Rattle.std.specs.Prelude.{◌≡◌, ℕ}
use Rattle.byte.specs.declared.element.Byte.{Byte}
use Rattle.byte.specs.Field.{byte_sums}
use Rattle.codes.specs.Shape.{Shape}
use Rattle.codes.specs.Coefficients.{main_shape, spread, spread_shape}
use Rattle.examples.specs.Tables as table
use Rattle.examples.specs.Overlays as overlay

abbrev pub shape : Shape
shape = spread_shape table.shape 3

-- c(j, a, k) of the table that is spread
abbrev pub coefficient : ℕ → ℕ → ℕ → Byte
coefficient j a k = spread byte_sums table.coefficient 3 j a k

-- and of the overlay
abbrev pub overlay_coefficient : ℕ → ℕ → ℕ → Byte
overlay_coefficient j a k = spread byte_sums overlay.coefficient 2 j a k

pub record SpreadExamples : Type 0 where
  pub sources : shape.sources ≡ 2
  pub parities : shape.parities ≡ 2
  -- three times the table's
  pub memory : shape.memory ≡ 3
  -- the table's at multiples of three
  pub own : (coefficient 0 0 1).value ≡ 3
  pub at_3 : (coefficient 0 3 0).value ≡ 142
  -- zero between, and behind
  pub at_1 : (coefficient 0 1 0).value ≡ 0
  pub at_2 : (coefficient 0 2 0).value ≡ 0
  pub at_4 : (coefficient 0 4 0).value ≡ 0
  pub at_6 : (coefficient 0 6 0).value ≡ 0
  -- an overlay is spread with its delay: both coefficients of age 1 add up at age 2
  pub overlay_memory : (spread_shape overlay.shape 2).memory ≡ 4
  pub overlay_at_1 : (overlay_coefficient 0 1 1).value ≡ 0
  pub overlay_at_2 : (overlay_coefficient 0 2 1).value ≡ 23
  -- a memory that would be larger than the numbers of 32 bits is the largest of them
  pub largest : (spread_shape (main_shape 8) 4294967295).memory ≡ 4294967295
