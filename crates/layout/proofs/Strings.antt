-- Strings of words, as bytes. Assumes nothing.
use Rattle.std.proofs.Common.{◌≡◌, ℕ, zero, suc, ◌+◌, ◌*◌, ◌/◌, ◌%◌, ◌<◌, ◌≤◌, List, [], ◌++◌, map, length, get_or, take, drop, sym, refl, ap, ◌∙◌, arith, take-add}
use Rattle.std.specs.List.{range_with_len, flat_map, AllByRecursion}
use Rattle.std.proofs.lemmas.List.FromFn.{map-range_with_len_more}
use Rattle.std.proofs.ByRecursion.{All-get_or}
use Rattle.std.proofs.lemmas.List.{get_or_append_left, get_or_default, flat_map_more}
use Rattle.layout.specs.Words.{word_in, word_bytes}
use Rattle.layout.proofs.Pieces.{length_joined, get_d_joined}
use Rattle.layout.proofs.WordLaws.{bytes_at}

-- a word has four bytes
pub length_words : (ws : List ℕ) → length (flat_map word_bytes ws) ≡ 4 * length ws
length_words ws = omega (arith, length_joined word_bytes 4 (λ w. refl) ws)

-- byte j of word i of a string of words
pub byte_of_joined : (ws rest : List ℕ) (i j : ℕ) → i < length ws → j < 4
    → get_or (flat_map word_bytes ws ++ rest) (4 * i + j) 0 ≡ get_or (word_bytes (get_or ws i 0)) j 0
byte_of_joined ws rest i j within four =
    let e : 4 * i + j ≡ i * 4 + j = omega arith in
    get_or_append_left (flat_map word_bytes ws) rest 0 (4 * i + j) (omega (arith, length_words ws)) ∙ ap (λ n. get_or (flat_map word_bytes ws) n 0) e
    ∙ get_d_joined word_bytes 4 (λ w. refl) ws i j (get_or ws i 0) 0 within four (get_or_default ws i 0 (get_or ws i 0) within)

-- a word is put together from its bytes again
whole : (w : ℕ) → w < 4294967296 → w / 16777216 % 256 * 16777216 + w / 65536 % 256 * 65536 + w / 256 % 256 * 256 + w % 256 ≡ w
whole w fits =
    let two : w / 65536 ≡ w / 256 / 256 = omega arith in
    let three : w / 16777216 ≡ w / 65536 / 256 = omega arith in
    let top : w / 16777216 % 256 ≡ w / 16777216 = omega arith in
    omega arith

-- word i of a string of words
pub word_at_joined : (ws rest : List ℕ) (i : ℕ) → AllByRecursion (λ w. w < 4294967296) ws → i < length ws
    → word_in (flat_map word_bytes ws ++ rest) i ≡ get_or ws i 0
word_at_joined ws rest i small within =
    let bs = flat_map word_bytes ws ++ rest in
    let e : 4 * i ≡ 4 * i + 0 = omega arith in
    let a = ap (λ n. get_or bs n 0) e ∙ byte_of_joined ws rest i 0 within (omega arith) in
    let b = byte_of_joined ws rest i 1 within (omega arith) in
    let c = byte_of_joined ws rest i 2 within (omega arith) in
    let d = byte_of_joined ws rest i 3 within (omega arith) in
    rw (a, b, c, d) (whole (get_or ws i 0) (All-get_or (λ w. w < 4294967296) ws i 0 within small))

-- bytes are the words that they make up
pub words_of_string : (bs : List ℕ) (m : ℕ) → 4 * m ≤ length bs → ((n : ℕ) → get_or bs n 0 < 256)
    → take (4 * m) bs ≡ flat_map word_bytes (map (word_in bs) (range_with_len 0 m))
words_of_string bs zero within small = refl
words_of_string bs (suc m) within small =
    let e : 4 * suc m ≡ 4 * m + 4 = omega arith in
    let on : m + 1 ≡ suc m = omega arith in
    let ws = map (word_in bs) (range_with_len 0 m) in
    ap (λ n. take n bs) e ∙ take-add (4 * m) 4 bs
    ∙ ap (λ (l : List ℕ). l ++ take 4 (drop (4 * m) bs)) (words_of_string bs m (omega arith) small)
    ∙ ap (λ (l : List ℕ). flat_map word_bytes ws ++ l) (sym (bytes_at bs m (omega arith) small))
    ∙ flat_map_more word_bytes [] ws (word_in bs m)
    ∙ ap (flat_map word_bytes) (sym (map-range_with_len_more (word_in bs) 0 m m (omega arith)))
    ∙ ap (λ n. flat_map word_bytes (map (word_in bs) (range_with_len 0 n))) on
