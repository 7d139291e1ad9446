-- Words and strings of four bytes correspond one to one. Assumes nothing.
use Rattle.std.specs.Prelude.{◌≡◌, ℕ, ◌+◌, ◌*◌, ◌/◌, ◌%◌, ◌^◌, ◌<◌, List, [], ◌∷◌, length, refl}
use Rattle.std.proofs.Common.{sym, inr, mod-lt, mod-eq_of_lt, arith, lit<}
use Rattle.std.proofs.lemmas.Nat.{div-add-mod', shr_below, shr-shr}
use Rattle.std.specs.List.{AllByRecursion}
use Rattle.arithmetic.specs.Laws.{ByteLaws}
use Rattle.word.specs.declared.element.Word.{Word}
use Rattle.word.specs.Arithmetic.{word_strings, word_write, word_read}
use Rattle.word.specs.Laws.{is_word}

-- four digits of base 256
four_digits : (n q r s a b c : ℕ) → q * 256 + a ≡ n → r * 256 + b ≡ q → s * 256 + c ≡ r → n ≡ s * 16777216 + c * 65536 + b * 256 + a
four_digits n q r s a b c x y z = omega arith

back : (x : Word) → word_read (word_write x) ≡ x
back x =
    let n = x.value in
    let third = rw (shr-shr n 8 8) at (div-add-mod' (n / 256) 256) in
    let second = rw (shr-shr n 16 8) at (div-add-mod' (n / 65536) 256) in
    let top : n / 16777216 % 256 ≡ n / 16777216 = mod-eq_of_lt (shr_below n 8 24 x.ok) in
    let all = four_digits n (n / 256) (n / 65536) (n / 16777216) (n % 256) (n / 256 % 256) (n / 65536 % 256) (div-add-mod' n 256) third second in
    sym (is_word x (n / 16777216 % 256 * 16777216 + n / 65536 % 256 * 65536 + n / 256 % 256 * 256 + n % 256) (rw top all))

forth : (ns : List ℕ) → length ns ≡ 4 → AllByRecursion (λ n. n < 256) ns → word_write (word_read ns) ≡ ns
forth [] long small = absurd (omega arith)
forth (a ∷ []) long small = absurd (omega arith)
forth (a ∷ b ∷ []) long small = absurd (omega arith)
forth (a ∷ b ∷ c ∷ []) long small = absurd (omega arith)
forth (a ∷ b ∷ c ∷ d ∷ e ∷ ns) long small = absurd (omega arith)
forth (a ∷ b ∷ c ∷ d ∷ []) long (sa, (sb, (sc, (sd, _)))) =
    let n = (a * 16777216 + b * 65536 + c * 256 + d) % 2 ^ 32 in
    let first : n / 16777216 % 256 ≡ a = omega arith in
    let second : n / 65536 % 256 ≡ b = omega arith in
    let third : n / 256 % 256 ≡ c = omega arith in
    let fourth : n % 256 ≡ d = omega arith in
    rw (first, second, third, fourth) refl

bytes_small : (x : Word) → AllByRecursion (λ n. n < 256) (word_write x)
bytes_small x = (mod-lt _ (lit< tt), (mod-lt _ (lit< tt), (mod-lt _ (lit< tt), (mod-lt _ (lit< tt), tt))))

pub word_string_laws : ByteLaws word_strings
word_string_laws = record { widths = inr refl; long = λ x. refl; small = bytes_small; back = back; forth = forth }
