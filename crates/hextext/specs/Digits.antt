-- Bytes as text: two digits each, lower-case hexadecimal, the high one first. Assumes nothing.
use Rattle.std.specs.Prelude.{ℕ, ◌+◌, ◌/◌, ◌%◌, Bool, true, cond, ◌&&◌, ◌||◌, List, [], ◌∷◌, length, ◌==◌, nat_le, nat_lt}

-- the digit of a number below 16: 0 to 9, a to f
abbrev pub digit : ℕ → ℕ
digit n = cond (nat_lt n 10) (48 + n) (87 + n)

abbrev pub byte_text : ℕ → List ℕ
byte_text n = digit (n / 16) ∷ digit (n % 16) ∷ []

abbrev pub is_hex_digit : ℕ → Bool
is_hex_digit c = (nat_le 48 c && nat_le c 57) || (nat_le 97 c && nat_le c 102)

abbrev pub all_digits : List ℕ → Bool
all_digits [] = true
all_digits (c ∷ cs) = is_hex_digit c && all_digits cs

-- two digits to a byte, and digits only
abbrev pub all_hex_digits : List ℕ → Bool
all_hex_digits cs = length cs % 2 == 0 && all_digits cs
