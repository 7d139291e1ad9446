use Rattle.std.proofs.Common.{sym}
use Rattle.layout.proofs.Pieces.{length_joined}
use Rattle.frame_writer.proofs.frame.Frame.byte_count.Goals as goal

pub returns-clause-value : goal.returns-clause-value
returns-clause-value g c =
    let b = g.A.Arithmetic.bytes in
    rw c.symbol_width.ensures (sym (length_joined b.write b.width g.met.A.Arithmetic.strings.long c.args.self.now.block.now))
