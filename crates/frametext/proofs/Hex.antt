-- A word as eight hexadecimal digits: those of its bytes, two by two. Assumes nothing.
use Rattle.std.proofs.Common.{◌≡◌, ℕ, zero, suc, ◌+◌, ◌-◌, ◌/◌, ◌%◌, ◌^◌, ◌<◌, false, List, [], ◌∷◌, ◌++◌, length, replicate, refl, sym, ap, ◌∙◌, inl, inr, append-nil, arith}
use Rattle.std.specs.List.{flat_map}
use Rattle.std.specs.Fmt.{digits, digits_onto, format_spec, padded_integral, char_count}
use Rattle.std.proofs.lemmas.Bool.{cases_eq, ne_eqb}
use Rattle.std.proofs.Math.Nat.{pow-suc}
use Rattle.hextext.specs.Digits.{digit, byte_text}
use Rattle.layout.specs.Words.{word_bytes}

-- the last j digits of n, and these behind them
abbrev last_digits : ℕ → ℕ → List ℕ → List ℕ
last_digits zero n more = more
last_digits (suc j) n more = last_digits j (n / 16) (digit (n % 16) ∷ more)

zero_before : (j : ℕ) (more : List ℕ) → replicate j 48 ++ 48 ∷ more ≡ replicate (suc j) 48 ++ more
zero_before zero more = refl
zero_before (suc j) more = ap (λ (l : List ℕ). 48 ∷ l) (zero_before j more)

-- those of zero are zeros
zeros : (j : ℕ) (more : List ℕ) → last_digits j 0 more ≡ replicate j 48 ++ more
zeros zero more = refl
zeros (suc j) more = zeros j (48 ∷ more) ∙ zero_before j more

-- zeros, and the digits that are printed of a number below 16 ^ (j + 1)
filled : (j k n : ℕ) (more : List ℕ) → n < 16 ^ suc j → j < k
    → (z : ℕ) × ((z + length (digits_onto k 16 false n more) ≡ suc j + length more) × (last_digits (suc j) n more ≡ replicate z 48 ++ digits_onto k 16 false n more))
filled j zero n more small less = absurd (omega arith)
filled zero (suc k) n more small less = let none : n / 16 ≡ 0 = omega arith in rw none (0, (omega arith, refl))
filled (suc j) (suc k) n more small less = elim (cases_eq (n / 16) 0) [
  | inl none ↦ rw none (suc j, (omega arith, zeros (suc j) (digit (n % 16) ∷ more)))
  | inr some ↦
      let rest = filled j k (n / 16) (digit (n % 16) ∷ more) (omega (arith, pow-suc 16 (suc j))) (omega arith) in
      rw (ne_eqb (n / 16) 0 some) (rest.0, (omega (arith, rest.1.0), rest.1.1))
]

-- a numeral of at most eight digits is filled up with zeros
eight_wide : (z : ℕ) (numeral : List ℕ) → z + length numeral ≡ 8 → padded_integral (format_spec 32 0 4 8 (2 ^ 64 - 1)) false [] numeral ≡ replicate z 48 ++ numeral
unfolding padded_integral char_count
eight_wide z numeral all =
    let n : 8 - length numeral - 0 - 0 ≡ z = omega arith in
    ap (λ m. replicate m 48 ++ (numeral ++ [])) n ∙ ap (λ (l : List ℕ). replicate z 48 ++ l) (append-nil numeral)

-- the last eight digits of a word are those of its bytes
of_bytes : (w : ℕ) → last_digits 8 w [] ≡ flat_map byte_text (word_bytes w)
of_bytes w =
    let a : w / 16 / 16 / 16 / 16 / 16 / 16 / 16 % 16 ≡ w / 16777216 % 256 / 16 = omega arith in
    let b : w / 16 / 16 / 16 / 16 / 16 / 16 % 16 ≡ w / 16777216 % 256 % 16 = omega arith in
    let c : w / 16 / 16 / 16 / 16 / 16 % 16 ≡ w / 65536 % 256 / 16 = omega arith in
    let d : w / 16 / 16 / 16 / 16 % 16 ≡ w / 65536 % 256 % 16 = omega arith in
    let e : w / 16 / 16 / 16 % 16 ≡ w / 256 % 256 / 16 = omega arith in
    let f : w / 16 / 16 % 16 ≡ w / 256 % 256 % 16 = omega arith in
    let g : w / 16 % 16 ≡ w % 256 / 16 = omega arith in
    let h : w % 16 ≡ w % 256 % 16 = omega arith in
    rw (a, b, c, d, e, f, g, h) refl

numeral_is : (w : ℕ) → digits 16 false w ≡ digits_onto 64 16 false w []
unfolding digits
numeral_is w = refl

-- what is printed of a word
pub hex_word : (w : ℕ) → w < 4294967296 → padded_integral (format_spec 32 0 4 8 (2 ^ 64 - 1)) false [] (digits 16 false w) ≡ flat_map byte_text (word_bytes w)
hex_word w small =
    let full = filled 7 64 w [] small (omega arith) in
    let numeral = digits_onto 64 16 false w [] in
    ap (padded_integral (format_spec 32 0 4 8 (2 ^ 64 - 1)) false []) (numeral_is w) ∙ eight_wide full.0 numeral full.1.0 ∙ sym full.1.1 ∙ of_bytes w
