-- What writing a frame answers. Assumes nothing.
use Rattle.std.specs.Prelude.{◌≡◌, ℕ, ◌*◌, not, List, Option, ◌==◌, nat_lt}
use Rattle.std.specs.List.{flat_map}
use Rattle.refusal.specs.Order.{refused, accepted}
use Rattle.arithmetic.specs.Operations.{Bytes}
use Rattle.layout.specs.declared.head.BlockShape.{BlockShape}
use Rattle.layout.specs.Layout.{frame_words, symbol_count}
use Rattle.layout.specs.Frames.{frame_of, head_for, outside, words_of, Within}

-- the words of a block's frame
abbrev pub word_list : {S : Type 0} → Bytes S → ℕ → BlockShape → List S → List ℕ
word_list b slot x block = frame_words (head_for b slot x) (flat_map b.write block)

-- the number that a call is refused with, for a block of n symbols and an output of m bytes
abbrev pub write_refusal : {S : Type 0} → Bytes S → ℕ → BlockShape → ℕ → ℕ → Option ℕ
write_refusal b slot x n m =
    refused (outside slot x) 1
    (refused (not (n == symbol_count x)) 4
    (refused (nat_lt m (4 * words_of b slot x)) 5 accepted))

-- no other block has this frame, the slot and the shape counted with the block
abbrev pub NoOther : {S : Type 0} → Bytes S → ℕ → BlockShape → List S → Type 0
NoOther {S} b slot x block =
    (slot2 : ℕ) (x2 : BlockShape) (block2 : List S) → Within slot2 x2 block2
    → frame_of b slot2 x2 block2 ≡ frame_of b slot x block
    → (slot2 ≡ slot) × ((x2 ≡ x) × (block2 ≡ block))
