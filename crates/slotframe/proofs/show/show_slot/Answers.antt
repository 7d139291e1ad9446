use Rattle.std.proofs.Common.{◌≡◌, ℕ, List, ◌*◌, ◌∷◌, ◌++◌, take, drop, string_bytes, sym, ap, ◌∙◌, ap₂}
use Rattle.std.proofs.lemmas.List.{take-append-drop}
use Rattle.std.proofs.lemmas.Result.{IfOk-weaker}
use Rattle.linktext.specs.Lines.{text_of_slot}
use Rattle.slotframe.specs.Shown.{framed_text, slot_shown}
use Rattle.slotframe.proofs.show.show_slot.Goals as goal

pub returns : goal.returns
unfolding slot_shown
returns g c =
    let S = g.row.A-Sym.Denot in
    let b = g.A.Arithmetic.bytes in
    let sent = c.args.frame.now in
    let size = sent.shape.sources * sent.shape.symbols in
    let packet = take size sent.block.now in
    let parities = drop size sent.block.now in
    let front : string_bytes c.in_ok-slot.slot ≡ text_of_slot b sent.slot packet parities =
    c.in_ok-slot.ensures ∙ ap₂ (λ (p q : List S). text_of_slot b sent.slot p q) c.split_at.ensures.front c.split_at.ensures.back in
    let framed : string_bytes c.in_ok-framed.framed ≡ framed_text b sent.slot sent.shape (packet ++ parities) =
    c.in_ok-framed.ensures ∙ ap (framed_text b sent.slot sent.shape) (sym (take-append-drop size sent.block.now)) in
    IfOk-weaker c.format.result _ (λ s. string_bytes s ≡ slot_shown b sent.slot sent.shape packet parities)
    (λ s e.
    let printed : string_bytes s ≡ string_bytes c.in_ok-slot.slot ++ (10 ∷ string_bytes c.in_ok-framed.framed) = e in
    printed ∙ ap₂ (λ (t u : List ℕ). t ++ (10 ∷ u)) front framed)
    c.format.ensures.ok
