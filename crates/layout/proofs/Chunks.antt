-- A string of bytes cut into words of four. Assumes nothing.
use Rattle.std.proofs.Common.{◌≡◌, ℕ, zero, suc, ◌+◌, ◌*◌, ◌<◌, List, [], get_or, drop, refl, ap, ◌∙◌, arith}
use Rattle.std.specs.Simd.{first_chunks}
use Rattle.std.proofs.lemmas.List.{get_or-take, get_or-drop}
use Rattle.layout.specs.Words.{word_in}

-- byte j of the i-th four
byte_of_chunk : (bs : List ℕ) (m i j : ℕ) → i < m → j < 4 → get_or (get_or (first_chunks 4 m bs) i []) j 0 ≡ get_or bs (4 * i + j) 0
byte_of_chunk bs zero i j within four = absurd (omega arith)
byte_of_chunk bs (suc m) zero j within four = let e : j ≡ 4 * 0 + j = omega arith in get_or-take 4 bs j 0 four ∙ ap (λ n. get_or bs n 0) e
byte_of_chunk bs (suc m) (suc i) j within four =
    let e : 4 + (4 * i + j) ≡ 4 * suc i + j = omega arith in
    byte_of_chunk (drop 4 bs) m i j (omega arith) four ∙ get_or-drop 4 bs (4 * i + j) 0 ∙ ap (λ n. get_or bs n 0) e

-- the i-th four are word i
pub word_of_chunk : (bs : List ℕ) (m i : ℕ) → i < m
    → word_in (get_or (first_chunks 4 m bs) i []) 0 ≡ word_in bs i
word_of_chunk bs m i within =
    let e : 4 * i + 0 ≡ 4 * i = omega arith in
    let a = byte_of_chunk bs m i 0 within (omega arith) ∙ ap (λ n. get_or bs n 0) e in
    rw (a, byte_of_chunk bs m i 1 within (omega arith), byte_of_chunk bs m i 2 within (omega arith), byte_of_chunk bs m i 3 within (omega arith)) refl
