use Rattle.std.proofs.Common.{◌≡◌, ◌/◌, length, string_bytes, ◌∙◌, arith}
use Rattle.layout.specs.Words.{word_in}
use Rattle.layout.proofs.Chunks.{word_of_chunk}
use Rattle.frametext.proofs.Lines.{frame_more, frame_none}
use Rattle.frametext.proofs.frame.frame_text.Goals as goal

pub loop-i-init : goal.loop-i-init
loop-i-init c = c.new-text.ensures.bytes ∙ frame_none

pub loop-i-preserved : goal.loop-i-preserved
loop-i-preserved c =
    let bs = c.args.bytes.now in
    let word : c.from_be_bytes.result ≡ word_in bs c.loop-i.i =
    rw (← word_of_chunk bs (length bs / 4) c.loop-i.i (omega arith)) (rw c.as_chunks.ensures.front at c.from_be_bytes.ensures) in
    frame_more bs (string_bytes c.loop-i.text) (string_bytes c.writeln.new.self) c.loop-i.i c.from_be_bytes.result word c.loop-i.invariant
    (rw c.in_ok-line.ensures at c.in_ok-writeln.ensures.bytes)
