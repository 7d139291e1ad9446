-- The laws of word arithmetic: of bits by cases, of words by those of exclusive or. Assumes nothing.
use Rattle.std.specs.Prelude.{◌≡◌, ℕ, ◌^◌, ◌<◌, refl}
use Rattle.std.proofs.Common.{sym, ◌∙◌, ap, mod-eq_of_lt, arith, rules}
use mathlib.Core.HLevel.{is_prop→PathP}
use Rattle.std.proofs.Math.Bridge.{le_prop}
use Rattle.arithmetic.specs.Laws.{SumLaws, ProductLaws, ScaleLaws, ArithmeticLaws}
use Rattle.arithmetic.specs.Xor.{Numbered}
use Rattle.arithmetic.proofs.XorLaws.{element_is, xor_laws}
use Rattle.word.specs.declared.bit.Bit.{Bit}
use Rattle.word.specs.declared.bit.Bit.TheVariants.{Off, On}
use Rattle.word.specs.declared.element.Word.{Word}
use Rattle.word.specs.Bits.{bit_sums, bit_products, bit_plus, bit_times}
use Rattle.word.specs.Words.{word, value_of, word_sums}
use Rattle.word.specs.Arithmetic.{word_scale, word_operations}

pub bit_sum_laws : SumLaws bit_sums
bit_sum_laws = search rules

pub bit_product_laws : ProductLaws bit_sums bit_products
bit_product_laws = search rules

same_word : (a b : Word) → a.value ≡ b.value → a ≡ b
same_word a b e =
    λ i. record { value = e i; ok = is_prop→PathP (λ j. e j < 2 ^ 32) (λ j. le_prop) a.ok b.ok i }

pub word_numbers : Numbered 32 value_of word
word_numbers = record { small = λ x. x.ok; held = λ n h. mod-eq_of_lt h; same = same_word }

pub is_word : (x : Word) (n : ℕ) → x.value ≡ n → x ≡ word n
is_word = element_is 32 value_of word word_numbers

pub word_sum_laws : SumLaws word_sums
word_sum_laws = xor_laws 32 value_of word word_numbers

over_words : (c : Bit) (x y : Word) → word_scale c (word_sums.plus x y) ≡ word_sums.plus (word_scale c x) (word_scale c y)
over_words Off x y = refl
over_words On x y = refl

over_bits : (a b : Bit) (x : Word) → word_scale (bit_plus a b) x ≡ word_sums.plus (word_scale a x) (word_scale b x)
over_bits Off Off x = refl
over_bits Off On x = sym (word_sum_laws.zero_plus x)
over_bits On Off x = sym (word_sum_laws.comm x (word 0) ∙ word_sum_laws.zero_plus x)
over_bits On On x = sym (word_sum_laws.negative_plus x)

by_product : (a b : Bit) (x : Word) → word_scale (bit_times a b) x ≡ word_scale a (word_scale b x)
by_product Off b x = refl
by_product On b x = refl

mark_not_zero : word 1 ≡ word 0 → ⊥
mark_not_zero e = let z : ◌≡◌ {A = ℕ} 1 0 = ap value_of e in omega arith

scale_laws : ScaleLaws word_operations
scale_laws = record {
  over_symbols = over_words;
  over_coefficients = over_bits;
  by_product = by_product;
  by_one = λ x. refl;
  mark_not_zero = mark_not_zero;
}

pub word_laws : ArithmeticLaws word_operations
word_laws = record { coefficients = bit_sum_laws; products = bit_product_laws; symbols = word_sum_laws; scaling = scale_laws }
