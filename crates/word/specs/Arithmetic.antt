-- Word arithmetic: coefficients are bits, symbols words, and a symbol is four bytes long.
use Rattle.std.specs.Prelude.{ℕ, ◌+◌, ◌*◌, ◌/◌, ◌%◌, List, [], ◌∷◌, slice_index}
use Rattle.arithmetic.specs.Operations.{Operations, Bytes}
use Rattle.word.specs.declared.bit.Bit.{Bit}
use Rattle.word.specs.declared.bit.Bit.TheVariants.{Off, On}
use Rattle.word.specs.declared.element.Word.{Word}
use Rattle.word.specs.Bits.{bit_sums, bit_products}
use Rattle.word.specs.Words.{word, word_sums}

-- one keeps a word, zero wipes it out
abbrev pub word_scale : Bit → Word → Word
word_scale Off x = word 0
word_scale On x = x

abbrev pub word_operations : Operations Bit Word
word_operations = record { coefficients = bit_sums; products = bit_products; symbols = word_sums; scale = word_scale; mark = word 1 }

-- most significant byte first
abbrev pub word_write : Word → List ℕ
word_write x = (x.value / 16777216 % 256) ∷ (x.value / 65536 % 256) ∷ (x.value / 256 % 256) ∷ (x.value % 256) ∷ []

abbrev pub word_read : List ℕ → Word
word_read ns = word (slice_index ns 0 * 16777216 + slice_index ns 1 * 65536 + slice_index ns 2 * 256 + slice_index ns 3)

abbrev pub word_strings : Bytes Word
word_strings = record { width = 4; write = word_write; read = word_read }
