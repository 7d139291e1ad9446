-- What word arithmetic is, in numbers: each word has a number below 2^32. Assumes nothing.
use Rattle.std.specs.Prelude.{◌≡◌, ℕ, List, length, bit_xor}
use Rattle.std.specs.Int.Digits.{number_from_digits, AllBelowBase}
use Rattle.arithmetic.specs.Operations.{Operations, Bytes}
use Rattle.word.specs.declared.bit.Bit.{Bit}
use Rattle.word.specs.declared.bit.Bit.TheVariants.{Off, On}
use Rattle.word.specs.declared.element.Word.{Word}

pub record WordNumbers (o : Operations Bit Word) (strings : Bytes Word) : Type 0 where
  -- sums are the exclusive or
  pub sum : (x y : Word) → (o.symbols.plus x y).value ≡ bit_xor x.value y.value
  -- one keeps a word, zero wipes it out
  pub kept : (x : Word) → o.scale On x ≡ x
  pub wiped_out : (x : Word) → (o.scale Off x).value ≡ 0
  -- the symbol that is named as not zero
  pub mark : o.mark.value ≡ 1
  -- a word is written as the four digits of its number to the base 256, most significant first, and read from them
  pub four_digits : (x : Word) → length (strings.write x) ≡ 4
  pub below_base : (x : Word) → AllBelowBase 256 (strings.write x)
  pub written : (x : Word) → number_from_digits 256 (strings.write x) ≡ x.value
  pub read : (digits : List ℕ) → length digits ≡ 4 → AllBelowBase 256 digits
      → (strings.read digits).value ≡ number_from_digits 256 digits
