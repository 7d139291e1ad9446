-- What the check for digits says. Assumes nothing.
use Rattle.std.proofs.Common.{◌≡◌, ℕ, ◌%◌, ◌<◌, Bool, true, false, ◌&&◌, List, [], ◌∷◌, ◌++◌, length, get_or, sym, refl, ap, ◌∙◌}
use Rattle.std.specs.List.{list_all, fold}
use Rattle.std.proofs.ByRecursion.{All-get_or, Decides-by_and}
use Rattle.std.proofs.lemmas.List.Folds.{list_all-append}
use Rattle.std.proofs.lemmas.Bool.{and_parts, eq-eqb}
use Rattle.hextext.specs.Digits.{is_hex_digit, all_digits, all_hex_digits}

-- the test of every digit, in the library's words
all_digits_is : (cs : List ℕ) → list_all is_hex_digit cs ≡ all_digits cs
all_digits_is [] = refl
all_digits_is (c ∷ cs) = ap (λ (t : Bool). is_hex_digit c && t) (all_digits_is cs)

-- each of them looked at, from a start on
pub all_folded : (cs : List ℕ) (so_far : Bool) → fold (λ (t : Bool) (c : ℕ). t && is_hex_digit c) so_far cs ≡ (so_far && all_digits cs)
all_folded [] true = refl
all_folded [] false = refl
all_folded (c ∷ cs) true = all_folded cs (is_hex_digit c)
all_folded (c ∷ cs) false = all_folded cs false

-- a text in two parts
pub digits_joined : (front rest : List ℕ) → all_digits (front ++ rest) ≡ (all_digits front && all_digits rest)
digits_joined front rest =
    rw (all_digits_is (front ++ rest), all_digits_is front, all_digits_is rest) at (list_all-append is_hex_digit front rest)

-- where the digits are in pairs, they decide
pub hex_is : (cs : List ℕ) → length cs % 2 ≡ 0 → all_digits cs ≡ all_hex_digits cs
hex_is cs even = ap (λ (t : Bool). t && all_digits cs) (sym (eq-eqb (length cs % 2) 0 even))

-- what is cut off a text of digits is one, and so is what is left
pub digits_apart : (front rest : List ℕ) → all_digits (front ++ rest) ≡ true → (all_digits front ≡ true) × (all_digits rest ≡ true)
digits_apart front rest h =
    and_parts (all_digits front) (all_digits rest)
    (rw (all_digits_is (front ++ rest), all_digits_is front, all_digits_is rest) at (sym (list_all-append is_hex_digit front rest)) ∙ h)

pub digit_at : (cs : List ℕ) (i : ℕ) → all_digits cs ≡ true → i < length cs → is_hex_digit (get_or cs i 0) ≡ true
digit_at cs i all within =
    let each = (Decides-by_and is_hex_digit (λ c. is_hex_digit c ≡ true) all_digits (λ c. (λ e. e, λ e. e)) refl (λ _ _. refl) cs).0 all in
    All-get_or (λ c. is_hex_digit c ≡ true) cs i 0 within each
