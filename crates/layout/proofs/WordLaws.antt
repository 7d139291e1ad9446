-- Words and their bytes. Assumes nothing.
use Rattle.std.proofs.Common.{◌≡◌, ℕ, ◌+◌, ◌-◌, ◌*◌, ◌/◌, ◌%◌, ◌^◌, ◌<◌, ◌≤◌, List, [], ◌∷◌, length, get_or, take, drop, sym, refl, ap, ◌∙◌, add-mul, arith}
use Rattle.std.proofs.lemmas.Nat.{pow-add, pow_pos, shr_high}
use Rattle.std.proofs.lemmas.List.{drop_more}
use Rattle.layout.specs.Words.{word_in, word_bytes}

-- all ones, shifted so that k are left
ones_left : (j k : ℕ) → k + j ≡ 32 → 4294967295 / 2 ^ j ≡ 2 ^ k - 1
ones_left j k all =
    let q = 2 ^ k - 1 in
    let whole : 4294967296 ≡ 2 ^ k * 2 ^ j = ap (λ n. 2 ^ n) (sym all) ∙ pow-add 2 k j in
    let some : 2 ^ k ≡ q + 1 = omega (arith, pow_pos k) in
    let cut : 4294967296 ≡ q * 2 ^ j + 1 * 2 ^ j = whole ∙ ap (λ n. n * 2 ^ j) some ∙ add-mul q 1 (2 ^ j) in
    let split : 4294967295 ≡ q * 2 ^ j + (2 ^ j - 1) = omega (arith, pow_pos j) in
    ap (λ n. n / 2 ^ j) split ∙ shr_high q j (2 ^ j - 1) (omega (arith, pow_pos j))

pub mask_is : (high low : ℕ) → low ≤ high → high < 32 → 4294967295 / 2 ^ (31 - (high - low)) ≡ 2 ^ (high + 1 - low) - 1
mask_is high low order within = ones_left (31 - (high - low)) (high + 1 - low) (omega arith)

-- the bytes of a word that was put together from four
pub word_of_bytes : (a b c d : ℕ) → a < 256 → b < 256 → c < 256 → d < 256
    → word_bytes (a * 16777216 + b * 65536 + c * 256 + d) ≡ a ∷ b ∷ c ∷ d ∷ []
word_of_bytes a b c d sa sb sc sd =
    let n = a * 16777216 + b * 65536 + c * 256 + d in
    let first : n / 16777216 % 256 ≡ a = omega arith in
    let second : n / 65536 % 256 ≡ b = omega arith in
    let third : n / 256 % 256 ≡ c = omega arith in
    let fourth : n % 256 ≡ d = omega arith in
    rw (first, second, third, fourth) refl

-- four bytes of a string
four_at : (bs : List ℕ) (n : ℕ) → n + 4 ≤ length bs
    → take 4 (drop n bs) ≡ get_or bs n 0 ∷ get_or bs (n + 1) 0 ∷ get_or bs (n + 2) 0 ∷ get_or bs (n + 3) 0 ∷ []
four_at bs n within =
    let a = drop_more bs n 0 (omega arith) in
    let b = drop_more bs (n + 1) 0 (omega arith) in
    let c = drop_more bs (n + 2) 0 (omega arith) in
    let d = drop_more bs (n + 3) 0 (omega arith) in
    let p : n + 1 + 1 ≡ n + 2 = omega arith in
    let q : n + 2 + 1 ≡ n + 3 = omega arith in
    ap (take 4) a ∙ ap (λ (l : List ℕ). get_or bs n 0 ∷ take 3 l) (b ∙ ap (λ m. get_or bs (n + 1) 0 ∷ drop m bs) p)
    ∙ ap (λ (l : List ℕ). get_or bs n 0 ∷ get_or bs (n + 1) 0 ∷ take 2 l) (c ∙ ap (λ m. get_or bs (n + 2) 0 ∷ drop m bs) q)
    ∙ ap (λ (l : List ℕ). get_or bs n 0 ∷ get_or bs (n + 1) 0 ∷ get_or bs (n + 2) 0 ∷ take 1 l) d

pub bytes_at : (bs : List ℕ) (i : ℕ) → 4 * i + 4 ≤ length bs → ((n : ℕ) → get_or bs n 0 < 256) → word_bytes (word_in bs i) ≡ take 4 (drop (4 * i) bs)
bytes_at bs i within small =
    word_of_bytes (get_or bs (4 * i) 0) (get_or bs (4 * i + 1) 0) (get_or bs (4 * i + 2) 0) (get_or bs (4 * i + 3) 0) (small _) (small _) (small _) (small _)
    ∙ sym (four_at bs (4 * i) within)
