use Rattle.std.proofs.Common.{sym}
use Rattle.std.proofs.lemmas.Bool.{ltb-false}
use Rattle.layout.proofs.Blocks.{byte_within, byte_past}
use Rattle.frame_writer.proofs.frame.Frame.byte.Goals as goal

pub returns-in-Some : goal.returns-in-Some
returns-in-Some g c =
    let found = c.in-Some.ensures.lookup in
    let width = c.symbol_width-width.ensures in
    rw width
    (byte_within g.A.Arithmetic.bytes g.met.A.Arithmetic.strings c.args.self.now.block.now c.args.n c.in-Some.symbol.now c.to_bytes.result
    (rw width at found.3.0) (rw width at found.1) c.to_bytes.ensures)

pub returns-in-None : goal.returns-in-None
returns-in-None g c =
    byte_past g.A.Arithmetic.bytes g.met.A.Arithmetic.strings c.args.self.now.block.now c.args.n
    (rw c.symbol_width-width.ensures at (ltb-false _ _ (sym c.in-None.ensures.lookup.0)))
