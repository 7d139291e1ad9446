-- Frames and their faults. Assumes nothing.
use Rattle.std.proofs.Common.{refl}
use Rattle.examples.specs.Frames.{FrameExamples}

pub frames : FrameExamples
frames = record {
  narrow_words = refl;
  narrow_frame = refl;
  wide_words = refl;
  wide_frame = refl;
  narrow_right = refl;
  wide_right = refl;
  ends_early = refl;
  other_kind = refl;
  wrong_bits = refl;
  first_decides = refl;
}
