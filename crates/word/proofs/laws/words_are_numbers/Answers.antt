use Rattle.std.proofs.Common.{◌≡◌, ℕ, List, [], ◌∷◌, length, refl, ap, sym, ◌∙◌, arith}
use Rattle.std.specs.Int.Digits.{number_from_digits, AllBelowBase}
use Rattle.arithmetic.proofs.XorLaws.{xor_value}
use Rattle.word.specs.declared.element.Word.{Word}
use Rattle.word.specs.Words.{word, value_of}
use Rattle.word.specs.Arithmetic.{word_read, word_write}
use Rattle.word.specs.Laws.{word_numbers}
use Rattle.word.specs.Strings.{word_string_laws}
use Rattle.word.proofs.laws.words_are_numbers.Goals as goal

-- four digits are read as the word of their number
read_value : (digits : List ℕ) → length digits ≡ 4 → AllBelowBase 256 digits → (word_read digits).value ≡ number_from_digits 256 digits
read_value [] long small = absurd (omega arith)
read_value (a ∷ []) long small = absurd (omega arith)
read_value (a ∷ b ∷ []) long small = absurd (omega arith)
read_value (a ∷ b ∷ c ∷ []) long small = absurd (omega arith)
read_value (a ∷ b ∷ c ∷ d ∷ e ∷ ns) long small = absurd (omega arith)
read_value (a ∷ b ∷ c ∷ d ∷ []) long (sa, (sb, (sc, (sd, _)))) = omega arith

-- the digits that are written are those of the word's number, since they are read as the word
written_value : (x : Word) → number_from_digits 256 (word_write x) ≡ x.value
written_value x = sym (read_value (word_write x) refl (word_string_laws.small x)) ∙ ap value_of (word_string_laws.back x)

pub returns : goal.returns
returns c = record {
  sum = xor_value 32 value_of word word_numbers;
  kept = λ x. refl;
  wiped_out = λ x. refl;
  mark = refl;
  four_digits = λ x. refl;
  below_base = word_string_laws.small;
  written = written_value;
  read = read_value;
}
