-- What is printed of a frame. Assumes nothing.
use Rattle.std.specs.Prelude.{ℕ, suc, ◌/◌, Bool, cond, List, [], ◌∷◌, ◌++◌, map, length, codes, decimal}
use Rattle.std.specs.List.{range_with_len}
use Rattle.layout.specs.Words.{word_in}
use Rattle.frametext.specs.WordText.{text_of_word}

-- the lines of words that are counted from i
abbrev pub lines_from : ℕ → List ℕ → List ℕ
lines_from i [] = []
lines_from i (w ∷ ws) = text_of_word i w ++ (10 ∷ lines_from (suc i) ws)

-- a line for each word of a frame, in their order
unfoldable pub text_of_frame : List ℕ → List ℕ
text_of_frame ws = lines_from 0 ws

-- the whole words that these bytes make up
abbrev pub words_in : List ℕ → List ℕ
words_in bs = map (word_in bs) (range_with_len 0 (length bs / 4))

-- whether a block that was read is the one that was sent
abbrev pub which_text : Bool → List ℕ
which_text same = cond same (codes "the same") (codes "another")

-- how many words were read back, and what they gave
abbrev pub text_of_read_back : ℕ → Bool → List ℕ
text_of_read_back n same = codes "read back " ++ (decimal n ++ (codes " words: " ++ (which_text same ++ codes " block")))
