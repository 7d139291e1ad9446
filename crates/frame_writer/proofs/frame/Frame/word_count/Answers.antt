use Rattle.std.proofs.Common.{arith}
use Rattle.frame_writer.proofs.Listed.{counted}
use Rattle.frame_writer.proofs.frame.Frame.word_count.Goals as goal

pub returns-clause-value : goal.returns-clause-value
returns-clause-value g c =
    let f = c.args.self.now in
    omega (arith, c.data_count.ensures.value, counted g.A.Arithmetic.bytes g.met.A.Arithmetic.strings f.slot f.shape f.block.now f.within)
