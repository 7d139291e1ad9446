-- Byte arithmetic: coefficients are elements of the field, symbols bytes, and a symbol is one byte long.
use Rattle.std.specs.Prelude.{[], ◌∷◌, slice_index}
use Rattle.arithmetic.specs.Operations.{Operations, Bytes}
use Rattle.galois.specs.Product.{product}
use Rattle.byte.specs.declared.element.Byte.{Byte}
use Rattle.byte.specs.declared.symbol.ByteSymbol.{ByteSymbol}
use Rattle.byte.specs.Field.{byte_sums, byte_products}
use Rattle.byte.specs.Symbols.{symbol, symbol_sums}

-- a coefficient scales a symbol by the product of the two in the field
abbrev pub byte_scale : Byte → ByteSymbol → ByteSymbol
byte_scale c x = symbol (product c.value x.value)

abbrev pub byte_operations : Operations Byte ByteSymbol
byte_operations = record { coefficients = byte_sums; products = byte_products; symbols = symbol_sums; scale = byte_scale; mark = symbol 1 }

-- a symbol is written as its own value
abbrev pub byte_strings : Bytes ByteSymbol
byte_strings = record { width = 1; write = λ x. x.value ∷ []; read = λ ns. symbol (slice_index ns 0) }
