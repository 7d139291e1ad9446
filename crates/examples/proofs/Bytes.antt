-- Symbols as bytes. Assumes nothing.
use Rattle.std.proofs.Common.{refl}
use Rattle.examples.specs.Bytes.{ByteExamples}

pub bytes : ByteExamples
bytes = record {
  word_written = refl;
  word_read = refl;
  high_word_written = refl;
  high_word_read = refl;
  byte_written = refl;
  byte_read = refl;
}
