-- The words of a block's frame, place by place. Assumes nothing.
use Rattle.std.proofs.Common.{◌≡◌, ℕ, suc, ◌+◌, ◌-◌, ◌<◌, ◌≤◌, List, length, get_or, sym, ap, ◌∙◌, arith}
use Rattle.std.specs.List.{flat_map}
use Rattle.arithmetic.specs.Laws.{ByteLaws}
use Rattle.arithmetic.specs.Operations.{Bytes}
use Rattle.layout.specs.declared.head.BlockShape.{BlockShape}
use Rattle.layout.specs.Frames.{Within, head_for, words_of}
use Rattle.layout.specs.Layout.{Lawful, count_of_data, word_of_count, word_of_data}
use Rattle.layout.proofs.Blocks.{lawful_block}
use Rattle.layout.proofs.Right.{count_at, data_at, length_frame_words}
use Rattle.frame_writer.specs.Writing.{word_list}

module _ {S : Type 0} (b : Bytes S) (laws : ByteLaws b) (slot : ℕ) (x : BlockShape) (block : List S) (within : Within slot x block) where
  lawful : Lawful (head_for b slot x) (flat_map b.write block)
  lawful = lawful_block b laws slot x block within

  -- as many as the shape says, counted from the block too
  pub length_list : length (word_list b slot x block) ≡ words_of b slot x
  length_list = length_frame_words (head_for b slot x) (flat_map b.write block) lawful

  pub counted : 3 + count_of_data (length (flat_map b.write block)) ≡ words_of b slot x
  counted = ap (λ n. 3 + count_of_data n) lawful.long

  -- from the third on, those of the data
  pub data_listed : (i : ℕ) → 2 ≤ i → i - 2 < count_of_data (length (flat_map b.write block))
      → word_of_data (flat_map b.write block) (i - 2) ≡ get_or (word_list b slot x block) i 0
  data_listed i behind some =
      let e : suc (suc (i - 2)) ≡ i = omega arith in
      sym (data_at (head_for b slot x) (flat_map b.write block) lawful (i - 2) some) ∙ ap (λ n. get_or (word_list b slot x block) n 0) e

  -- and the last is the count
  pub count_listed : (i : ℕ) → 2 ≤ i → i < words_of b slot x → count_of_data (length (flat_map b.write block)) ≤ i - 2
      → word_of_count i ≡ get_or (word_list b slot x block) i 0
  count_listed i behind there past =
      let e : suc (suc (i - 2)) ≡ i = omega arith in
      let last : count_of_data (length (flat_map b.write block)) ≡ i - 2 = omega (arith, counted) in
      omega (
        arith,
        count_at (head_for b slot x) (flat_map b.write block) lawful (i - 2) last,
        ap (λ n. get_or (word_list b slot x block) n 0) e,
      )
