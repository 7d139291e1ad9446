use Rattle.std.proofs.Common.{◌+◌, take}
use Rattle.frame_writer.specs.Writing.{word_list}
use Rattle.frame_writer.proofs.Puts.{Laid}
use Rattle.frame_writer.proofs.frame.Frame.write.Given as goal

abbrev pub invariant-loop-j : goal.invariant-loop-j
invariant-loop-j g l = Laid (take (2 + l.j) (word_list g.A.Arithmetic.bytes l.self.slot l.self.shape l.self.block.now)) l.fn.out l.out
