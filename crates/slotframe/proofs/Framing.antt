-- What is shown of a frame, and what is read back from it. Assumes nothing.
use Rattle.std.proofs.Common.{◌≡◌, ℕ, ◌*◌, ◌/◌, ◌<◌, List, [], map, length, get_or, sym, ap, ◌∙◌, append-nil, arith, subst}
use Rattle.std.specs.List.{range_with_len, flat_map}
use Rattle.std.proofs.lemmas.List.FromFn.{fill_by_all}
use Rattle.arithmetic.specs.Laws.{ByteLaws}
use Rattle.arithmetic.specs.Operations.{Bytes}
use Rattle.layout.specs.declared.head.BlockShape.{BlockShape}
use Rattle.layout.specs.declared.head.Head.{Head}
use Rattle.layout.specs.Faults.{word_count}
use Rattle.layout.specs.Layout.{Lawful, frame, frame_words}
use Rattle.layout.specs.Words.{word_in}
use Rattle.layout.proofs.Right.{length_frame, length_frame_words, word_is}
use Rattle.layout.specs.Frames.{BeginsWith, Within, frame_of, head_for, words_of}
use Rattle.layout.proofs.Blocks.{lawful_block}
use Rattle.frametext.specs.FrameText.{words_in}

-- the words that a frame's bytes make up are the frame's
words_of_frame : (h : Head) (ns : List ℕ) → Lawful h ns → words_in (frame h ns) ≡ frame_words h ns
words_of_frame h ns lawful =
    let bs = frame h ns in
    let n : length bs / 4 ≡ word_count h = omega (arith, length_frame h ns lawful) in
    let each : (k : ℕ) → k < word_count h → get_or (frame_words h ns) k 0 ≡ word_in bs k =
    λ k lt. sym (ap (λ (l : List ℕ). word_in l k) (sym (append-nil bs)) ∙ word_is h ns lawful [] k lt) in
    ap (λ m. map (word_in bs) (range_with_len 0 m)) n
    ∙ sym (fill_by_all (word_in bs) (frame_words h ns) (word_count h) 0 (length_frame_words h ns lawful) each)

-- those of a block's frame, and how many bytes it has
module _ {S : Type 0} (b : Bytes S) (laws : ByteLaws b) (slot : ℕ) (x : BlockShape) (block : List S) (within : Within slot x block) where
  pub words_of_block : words_in (frame_of b slot x block) ≡ frame_words (head_for b slot x) (flat_map b.write block)
  words_of_block = words_of_frame (head_for b slot x) (flat_map b.write block) (lawful_block b laws slot x block within)

  pub length_of_block : length (frame_of b slot x block) ≡ 4 * words_of b slot x
  length_of_block = length_frame (head_for b slot x) (flat_map b.write block) (lawful_block b laws slot x block within)

-- the frame of a block with the same slot, shape and symbols is its frame
pub same_frame : {S : Type 0} (b : Bytes S) (bs : List ℕ) (slot other : ℕ) (x y : BlockShape) (block blocks : List S)
    → other ≡ slot → y ≡ x → blocks ≡ block → BeginsWith b bs other y blocks → BeginsWith b bs slot x block
same_frame {S} b bs slot other x y block blocks slots shapes symbols begins =
    subst (λ (l : List S). BeginsWith b bs slot x l) symbols
    (subst (λ (z : BlockShape). BeginsWith b bs slot z blocks) shapes (subst (λ n. BeginsWith b bs n y blocks) slots begins))
