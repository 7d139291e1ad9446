-- What is printed of a slot, but for the end of its last line. Assumes nothing.
use Rattle.std.specs.Prelude.{ℕ, true, List, ◌∷◌, ◌++◌}
use Rattle.std.specs.List.{flat_map}
use Rattle.arithmetic.specs.Operations.{Bytes}
use Rattle.layout.specs.declared.head.BlockShape.{BlockShape}
use Rattle.layout.specs.Layout.{frame_words}
use Rattle.layout.specs.Frames.{head_for, words_of}
use Rattle.frametext.specs.FrameText.{text_of_frame, text_of_read_back}
use Rattle.linktext.specs.Lines.{text_of_slot}

-- the words of a block's frame, and that the same block was read back from it
unfoldable pub framed_text : {S : Type 0} → Bytes S → ℕ → BlockShape → List S → List ℕ
framed_text b slot x block =
    text_of_frame (frame_words (head_for b slot x) (flat_map b.write block)) ++ text_of_read_back (words_of b slot x) true

-- the packet with its parities, and then the frame of both
unfoldable pub slot_shown : {S : Type 0} → Bytes S → ℕ → BlockShape → List S → List S → List ℕ
slot_shown b slot x packet parities = text_of_slot b slot packet parities ++ (10 ∷ framed_text b slot x (packet ++ parities))
