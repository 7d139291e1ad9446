-- Symbols of one byte, added by exclusive or.
use Rattle.std.specs.Prelude.{ℕ, ◌%◌}
use Rattle.std.proofs.Common.{mod-lt, lit<}
use Rattle.arithmetic.specs.Operations.{Sums}
use Rattle.arithmetic.specs.Xor.{xor_sums}
use Rattle.byte.specs.declared.symbol.ByteSymbol.{ByteSymbol}

-- the symbol of a number: its lowest eight bits
abbrev pub symbol : ℕ → ByteSymbol
symbol n = record { value = n % 256; ok = mod-lt n (lit< tt) }

abbrev pub value_of_symbol : ByteSymbol → ℕ
value_of_symbol x = x.value

-- the sum of two symbols is their exclusive or
abbrev pub symbol_sums : Sums ByteSymbol
symbol_sums = xor_sums value_of_symbol symbol
