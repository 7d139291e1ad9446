-- Bytes and symbols are equal where their values are. Assumes nothing.
use Rattle.std.specs.Prelude.{◌≡◌, ℕ, ◌<◌}
use mathlib.Core.HLevel.{is_prop→PathP}
use Rattle.std.proofs.Common.{mod-eq_of_lt}
use Rattle.std.proofs.Math.Bridge.{le_prop}
use Rattle.arithmetic.specs.Laws.{SumLaws}
use Rattle.arithmetic.specs.Xor.{Numbered}
use Rattle.arithmetic.proofs.XorLaws.{element_is, xor_laws}
use Rattle.byte.specs.declared.element.Byte.{Byte}
use Rattle.byte.specs.declared.symbol.ByteSymbol.{ByteSymbol}
use Rattle.byte.specs.Field.{byte, value_of, byte_sums}
use Rattle.byte.specs.Symbols.{symbol, value_of_symbol, symbol_sums}

pub same_byte : (a b : Byte) → a.value ≡ b.value → a ≡ b
same_byte a b e =
    λ i. record { value = e i; ok = is_prop→PathP (λ j. e j < 256) (λ j. le_prop) a.ok b.ok i }

pub same_symbol : (x y : ByteSymbol) → x.value ≡ y.value → x ≡ y
same_symbol x y e =
    λ i. record { value = e i; ok = is_prop→PathP (λ j. e j < 256) (λ j. le_prop) x.ok y.ok i }

-- the number below 256 that a byte or a symbol is made of is its value
pub byte_value : (n : ℕ) → n < 256 → (byte n).value ≡ n
byte_value n h = mod-eq_of_lt h

pub byte_numbers : Numbered 8 value_of byte
byte_numbers = record { small = λ x. x.ok; held = byte_value; same = same_byte }

pub symbol_numbers : Numbered 8 value_of_symbol symbol
symbol_numbers = record { small = λ x. x.ok; held = byte_value; same = same_symbol }

pub is_byte : (a : Byte) (n : ℕ) → a.value ≡ n → a ≡ byte n
is_byte = element_is 8 value_of byte byte_numbers

pub is_symbol : (x : ByteSymbol) (n : ℕ) → x.value ≡ n → x ≡ symbol n
is_symbol = element_is 8 value_of_symbol symbol symbol_numbers

pub byte_sum_laws : SumLaws byte_sums
byte_sum_laws = xor_laws 8 value_of byte byte_numbers

pub symbol_sum_laws : SumLaws symbol_sums
symbol_sum_laws = xor_laws 8 value_of_symbol symbol symbol_numbers
