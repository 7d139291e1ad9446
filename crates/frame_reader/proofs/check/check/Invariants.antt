use Rattle.frame_reader.proofs.Waiting.{Reached}
use Rattle.frame_reader.proofs.check.check.Given as goal

abbrev pub invariant-loop-i : goal.invariant-loop-i
invariant-loop-i l = Reached l.bytes l.i l.expected
