use Rattle.std.proofs.Common.{◌≡◌, ℕ, List, [], ◌*◌, ◌++◌, string_bytes, sym, ap, ◌∙◌, ap₂, append-nil}
use Rattle.std.proofs.lemmas.Result.{IfOk-weaker}
use Rattle.fills.proofs.Fill.{over_all}
use Rattle.layout.specs.Frames.{frame_of}
use Rattle.frametext.specs.FrameText.{text_of_frame, text_of_read_back, words_in}
use Rattle.slotframe.specs.Shown.{framed_text}
use Rattle.slotframe.proofs.Framing.{length_of_block, words_of_block}
use Rattle.slotframe.proofs.framed.show_frame.Goals as goal

pub returns : goal.returns
unfolding framed_text
returns g c =
    let b = g.A.Arithmetic.bytes in
    let laws = g.met.A.Arithmetic.strings in
    let sent = c.args.frame.now in
    let frame = frame_of b sent.slot sent.shape sent.block.now in
    let bytes = c.in_ok-bytes.bytes in
    let long = length_of_block b laws sent.slot sent.shape sent.block.now sent.within ∙ sym (c.in_ok-bytes.ensures.len ∙ ap (λ n. 4 * n) c.word_count.ensures.value) in
    let held = over_all frame c.deref_mut.result.now c.write.new.out bytes.items bytes.len long c.deref_mut.ensures.len (rw c.unwrap.ensures at c.write.ensures.written) in
    let words = ap words_in (c.deref.ensures.value ∙ held) ∙ words_of_block b laws sent.slot sent.shape sent.block.now sent.within in
    let same = c.in_ok-back.ensures.same.1 (sent.within, ([], c.deref-2.ensures.value ∙ held ∙ sym (append-nil frame))) in
    let got = c.in_ok-got.ensures ∙ ap₂ text_of_read_back (c.in_ok-back.ensures.words same) same in
    IfOk-weaker c.format.result _ (λ s. string_bytes s ≡ framed_text b sent.slot sent.shape sent.block.now)
    (λ s e.
    let printed : string_bytes s ≡ string_bytes c.in_ok-shown.shown ++ string_bytes c.in_ok-got.got = e in
    printed ∙ ap₂ (λ (t u : List ℕ). t ++ u) (c.in_ok-shown.ensures ∙ ap text_of_frame words) got)
    c.format.ensures.ok
