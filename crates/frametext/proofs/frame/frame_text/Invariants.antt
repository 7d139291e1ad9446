use Rattle.std.proofs.Common.{◌≡◌, map, string_bytes}
use Rattle.std.specs.List.{range_with_len}
use Rattle.layout.specs.Words.{word_in}
use Rattle.frametext.specs.FrameText.{text_of_frame}
use Rattle.frametext.proofs.frame.frame_text.Given as goal

abbrev pub invariant-loop-i : goal.invariant-loop-i
invariant-loop-i l = string_bytes l.text ≡ text_of_frame (map (word_in l.bytes) (range_with_len 0 l.i))
