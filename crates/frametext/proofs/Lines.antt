-- The lines of a frame, and the words of a string of words. Assumes nothing.
use Rattle.std.proofs.Common.{◌≡◌, ℕ, suc, ◌+◌, List, [], ◌∷◌, ◌++◌, map, length, sym, refl, ap, ◌∙◌, append_assoc, arith}
use Rattle.std.specs.List.{range_with_len}
use Rattle.std.proofs.lemmas.List.FromFn.{length-map-range_with_len, map-range_with_len_more}
use Rattle.layout.specs.Words.{word_in}
use Rattle.frametext.specs.FrameText.{lines_from, text_of_frame}
use Rattle.frametext.specs.WordText.{text_of_word}

-- one word more
lines_more : (i : ℕ) (ws : List ℕ) (w : ℕ) → lines_from i (ws ++ (w ∷ [])) ≡ lines_from i ws ++ (text_of_word (i + length ws) w ++ (10 ∷ []))
lines_more i [] w = let e : i ≡ i + 0 = omega arith in ap (λ n. text_of_word n w ++ (10 ∷ [])) e
lines_more i (v ∷ ws) w =
    let line = text_of_word i v in
    let more = lines_from (suc i) ws in
    let e : suc i + length ws ≡ i + suc (length ws) = omega arith in
    ap (λ (l : List ℕ). line ++ (10 ∷ l)) (lines_more (suc i) ws w ∙ ap (λ n. more ++ (text_of_word n w ++ (10 ∷ []))) e)
    ∙ sym (append_assoc line (10 ∷ more) (text_of_word (i + suc (length ws)) w ++ (10 ∷ [])))

-- no word has no line
pub frame_none : [] ≡ text_of_frame []
unfolding text_of_frame
frame_none = refl

-- a loop's turn: behind the lines of the first i words comes that of the next one
pub frame_more : (bs was now : List ℕ) (i w : ℕ) → w ≡ word_in bs i → was ≡ text_of_frame (map (word_in bs) (range_with_len 0 i))
    → now ≡ was ++ (text_of_word i w ++ (10 ∷ [])) → now ≡ text_of_frame (map (word_in bs) (range_with_len 0 (i + 1)))
unfolding text_of_frame
frame_more bs was now i w is old new =
    let ws = map (word_in bs) (range_with_len 0 i) in
    let n : 0 + length ws ≡ i = omega (arith, length-map-range_with_len (word_in bs) 0 i) in
    new ∙ ap (λ (l : List ℕ). l ++ (text_of_word i w ++ (10 ∷ []))) old
    ∙ ap (λ v. text_of_frame ws ++ (text_of_word i v ++ (10 ∷ []))) is
    ∙ ap (λ m. text_of_frame ws ++ (text_of_word m (word_in bs i) ++ (10 ∷ []))) (sym n)
    ∙ sym (lines_more 0 ws (word_in bs i))
    ∙ ap text_of_frame (sym (map-range_with_len_more (word_in bs) 0 i i (omega arith)))
