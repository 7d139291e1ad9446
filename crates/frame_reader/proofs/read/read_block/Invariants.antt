use Rattle.std.proofs.Common.{◌≡◌, ◌++◌, drop}
use Rattle.frame_reader.specs.Reading.{block_in}
use Rattle.frame_reader.proofs.read.read_block.Given as goal

abbrev pub invariant-loop-i : goal.invariant-loop-i
invariant-loop-i g l = l.block ≡ block_in g.A.Arithmetic.bytes l.bytes l.i ++ drop l.i l.initial.block
