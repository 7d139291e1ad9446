use Rattle.std.proofs.Common.{arith}
use Rattle.frame_writer.proofs.Listed.{count_listed, data_listed}
use Rattle.frame_writer.proofs.frame.Frame.word.Goals as goal

pub returns-in_default : goal.returns-in_default
returns-in_default g c =
    let f = c.args.self.now in
    rw c.data_word.ensures
    (data_listed g.A.Arithmetic.bytes g.met.A.Arithmetic.strings f.slot f.shape f.block.now f.within c.args.i (omega arith) (omega arith))

pub returns-in_default-2 : goal.returns-in_default-2
returns-in_default-2 g c =
    let f = c.args.self.now in
    rw c.word_of-in_default-2.ensures
    (count_listed g.A.Arithmetic.bytes g.met.A.Arithmetic.strings f.slot f.shape f.block.now f.within c.args.i (omega arith) c.requires (omega arith))
