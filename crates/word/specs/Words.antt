-- Symbols of word arithmetic: words of 32 bits, added by exclusive or.
use Rattle.std.specs.Prelude.{ℕ, ◌%◌, ◌^◌}
use Rattle.std.proofs.Common.{mod-lt, lit<}
use Rattle.arithmetic.specs.Operations.{Sums}
use Rattle.arithmetic.specs.Xor.{xor_sums}
use Rattle.word.specs.declared.element.Word.{Word}

-- the word of a number: its lowest 32 bits
abbrev pub word : ℕ → Word
word n = record { value = n % 2 ^ 32; ok = mod-lt n (lit< tt) }

abbrev pub value_of : Word → ℕ
value_of x = x.value

-- the sum of two words is their exclusive or
abbrev pub word_sums : Sums Word
word_sums = xor_sums value_of word
