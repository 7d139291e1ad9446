-- Words laid one behind the other over a string of bytes. Assumes nothing.
use Rattle.std.proofs.Common.{◌≡◌, ℕ, ◌+◌, ◌*◌, ◌<◌, ◌≤◌, List, [], ◌∷◌, ◌++◌, length, get_or, take, drop, sym, refl, ap, ◌∙◌, append_assoc, arith, length-append}
use Rattle.std.specs.List.{flat_map}
use Rattle.std.proofs.lemmas.List.{flat_map_more, take_all, take_at, take_more, length-take-le}
use Rattle.std.proofs.lemmas.Slice.{drop-append-drop}
use Rattle.layout.specs.Words.{word_bytes}
use Rattle.layout.proofs.Strings.{length_words}

-- these words lie over the first bytes of the old string, and the rest is as it was
abbrev pub Laid : List ℕ → List ℕ → List ℕ → Type 0
Laid ws old out = out ≡ flat_map word_bytes ws ++ drop (4 * length ws) old

-- the next of the words
pub laid_more : (ws old out new : List ℕ) (i : ℕ) → i < length ws → Laid (take i ws) old out
    → new ≡ take (4 * i) out ++ (word_bytes (get_or ws i 0) ++ drop (4 * i + 4) out) → Laid (take (i + 1) ws) old new
laid_more ws old out new i within laid put =
    let w = get_or ws i 0 in
    let front = flat_map word_bytes (take i ws) in
    let long : length (take i ws) ≡ i = length-take-le i ws (omega arith) in
    let size : length front ≡ 4 * i = omega (arith, length_words (take i ws)) in
    let was : out ≡ front ++ drop (4 * i) old = laid ∙ rw long refl in
    let kept : take (4 * i) out ≡ front = ap (take (4 * i)) was ∙ take_at front (drop (4 * i) old) (4 * i) size in
    let rest : drop (4 * i + 4) out ≡ drop (4 * i + 4) old =
    ap (drop (4 * i + 4)) was ∙ drop-append-drop (4 * i) old front (4 * i + 4) (omega arith) size in
    let all : front ++ word_bytes w ≡ flat_map word_bytes (take i ws ++ w ∷ []) = flat_map_more word_bytes [] (take i ws) w in
    let end : 4 * i + 4 ≡ 4 * length (take i ws ++ w ∷ []) = omega (arith, length-append (take i ws) (w ∷ [])) in
    rw (take_more ws i 0 within) (put ∙ rw (kept, rest) (sym (append_assoc front (word_bytes w) (drop (4 * i + 4) old)) ∙ rw (all, end) refl))

-- all of them, by the bytes
pub laid_all : (ws old out : List ℕ) (i : ℕ) → length ws ≤ i → Laid (take i ws) old out → out ≡ flat_map word_bytes ws ++ drop (length (flat_map word_bytes ws)) old
laid_all ws old out i all laid = rw (take_all i ws all) at laid ∙ rw (length_words ws) refl
