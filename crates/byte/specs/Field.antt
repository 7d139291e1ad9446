-- Sums and products of bytes.
use Rattle.std.specs.Prelude.{ℕ, ◌%◌, cond, Some, None, Option, ◌==◌}
use Rattle.std.proofs.Common.{mod-lt, lit<}
use Rattle.arithmetic.specs.Operations.{Sums, Products}
use Rattle.arithmetic.specs.Xor.{xor_sums}
use Rattle.galois.specs.Product.{product, reciprocal}
use Rattle.byte.specs.declared.element.Byte.{Byte}

-- the byte of a number: its lowest eight bits
abbrev pub byte : ℕ → Byte
byte n = record { value = n % 256; ok = mod-lt n (lit< tt) }

abbrev pub value_of : Byte → ℕ
value_of a = a.value

-- the sum of two bytes is their exclusive or
abbrev pub byte_sums : Sums Byte
byte_sums = xor_sums value_of byte

-- zero has no inverse, any other byte has a^254
abbrev pub inverse_of : Byte → Option Byte
inverse_of a = cond (a.value == 0) None (Some (byte (reciprocal a.value)))

-- the product of two bytes is that of their values in the field
abbrev pub byte_products : Products Byte
byte_products = record { one = byte 1; times = λ a b. byte (product a.value b.value); inverse = inverse_of }
