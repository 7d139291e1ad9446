use Rattle.std.proofs.Common.{◌≡◌, ◌*◌, map, take}
use Rattle.std.specs.List.{range_with_len}
use Rattle.layout.specs.Bytes.{byte_at}
use Rattle.frame_reader.proofs.read.symbol_at.Given as goal

abbrev pub invariant-loop-j : goal.invariant-loop-j
invariant-loop-j g l = take l.j l.byte-items ≡ map (byte_at l.bytes) (range_with_len (l.i * l.width) l.j)
