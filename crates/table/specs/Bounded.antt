-- A table has no coefficient outside its shape. Assumes nothing.
use Rattle.std.specs.Prelude.{◌≡◌, ℕ, ◌^◌, ◌<◌, List}
use Rattle.std.proofs.Common.{rules}
use Rattle.codes.specs.Shape.{Shape, Outside}
use Rattle.byte.specs.Field.{byte_sums}
use Rattle.table.specs.Table.{table_coefficients}

pub table_bounded : (x : Shape) (bytes : List ℕ) (j a k : ℕ) → a < 2 ^ 32 → Outside x j a k → table_coefficients x bytes j a k ≡ byte_sums.zero
table_bounded x bytes j a k small out = search rules
