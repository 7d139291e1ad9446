-- What the tables should have at each place.
use Rattle.std.specs.Prelude.{ℕ, ◌+◌, ◌/◌, ◌%◌, Some, None, Option}
use Rattle.byte.specs.declared.element.Byte.{Byte}
use Rattle.byte.specs.Field.{byte, byte_products}
use Rattle.byte_products.specs.declared.table.Table.{Table}
use Rattle.byte_products.specs.declared.table.Table.TheVariants.{Products, Inverses}

-- 0 where there is no byte
abbrev pub value_of : Option Byte → ℕ
value_of (Some b) = b.value
value_of None = 0

-- the product of row and column; the inverse of one more than the place
abbrev pub entry_of : Table → ℕ → ℕ
entry_of Products k = (byte_products.times (byte (k / 256)) (byte k)).value
entry_of Inverses k = value_of (byte_products.inverse (byte (k % 256 + 1)))
