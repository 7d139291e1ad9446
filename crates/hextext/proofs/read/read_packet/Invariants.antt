use Rattle.std.proofs.Common.{◌≡◌, ◌%◌, true, ◌++◌, length, vec_items}
use Rattle.std.specs.Slice.Iter.{chunks_exact_rest, chunks_exact_size}
use Rattle.hextext.specs.Digits.{all_digits}
use Rattle.hextext.specs.Packet.{packet_text}
use Rattle.hextext.proofs.read.read_packet.Given as goal

abbrev pub invariant-loop-symbol : goal.invariant-loop-symbol
invariant-loop-symbol g l = record {
  size : chunks_exact_size l.symbol-iterator ≡ l.digits;
  whole : length (chunks_exact_rest l.symbol-iterator) % l.digits ≡ 0;
  hex : all_digits (chunks_exact_rest l.symbol-iterator) ≡ true;
  so_far : packet_text g.A.Arithmetic.bytes (vec_items l.symbols) ++ chunks_exact_rest l.symbol-iterator ≡ l.text;
}
