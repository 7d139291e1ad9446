use Rattle.std.proofs.Common.{rules}
use Rattle.frame_writer.proofs.Only.{no_other}
use Rattle.frame_writer.proofs.write.write.Goals as goal

pub returns-clause-only : goal.returns-clause-only
returns-clause-only g c =
    no_other g.A.Arithmetic.bytes g.met.A.Arithmetic.strings c.args.slot c.args.shape c.args.block.now
    (record { limits = search rules; long = search rules })
