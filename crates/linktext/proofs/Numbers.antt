-- Decimal numbers, digit by digit. Assumes nothing.
use Rattle.std.proofs.Common.{◌≡◌, ℕ, ◌+◌, ◌-◌, ◌*◌, ◌<◌, min, Bool, true, false, ◌&&◌, List, length, get_or, drop, sym, ap, ◌∙◌, arith}
use Rattle.std.proofs.lemmas.List.{drop_more}
use Rattle.std.proofs.lemmas.Bool.Decides.{nat_tests}
use Rattle.std.specs.Char.{digit_value}
use Rattle.linktext.specs.Fields.{is_decimal, all_decimal, read_on}

-- what a character's value below ten tells, and that it has none
pub has_value : (c d : ℕ) → digit_value c < 10 → d ≡ digit_value c → (is_decimal c ≡ true) × (d ≡ c - 48)
has_value c d small is = grind (arith, nat_tests)

pub no_digit : (c : ℕ) → (digit_value c < 10 → ⊥) → is_decimal c ≡ false
no_digit c h = grind (arith, nat_tests)

-- digits so far, and n is what they write
pub record ReadTo (cs : List ℕ) (i n : ℕ) : Type 0 where
  pub digits : all_decimal cs ≡ all_decimal (drop i cs)
  pub value : read_on 0 cs ≡ read_on n (drop i cs)

pub read_more : (cs : List ℕ) (i n m : ℕ) → i < length cs → is_decimal (get_or cs i 0) ≡ true
    → m ≡ min (n * 10 + (get_or cs i 0 - 48)) 4294967295 → ReadTo cs i n → ReadTo cs (i + 1) m
read_more cs i n m within good is p =
    let here = drop_more cs i 0 within in
    let c = get_or cs i 0 in
    record {
      digits = p.digits ∙ ap all_decimal here ∙ digit_first (all_decimal (drop (i + 1) cs));
      value = p.value ∙ ap (read_on n) here ∙ ap (λ k. read_on k (drop (i + 1) cs)) (sym is);
    }
  where
    digit_first : (b : Bool) → (is_decimal (get_or cs i 0) && b) ≡ b
    digit_first b = ap (λ (t : Bool). t && b) good

-- a character that is no digit
pub read_broken : (cs : List ℕ) (i n : ℕ) → i < length cs → is_decimal (get_or cs i 0) ≡ false → ReadTo cs i n → all_decimal cs ≡ false
read_broken cs i n within wrong p =
    p.digits ∙ ap all_decimal (drop_more cs i 0 within) ∙ bad (all_decimal (drop (i + 1) cs))
  where
    bad : (b : Bool) → (is_decimal (get_or cs i 0) && b) ≡ false
    bad b = ap (λ (t : Bool). t && b) wrong
