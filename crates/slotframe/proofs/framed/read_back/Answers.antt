use Rattle.std.proofs.Common.{◌≡◌, length, sym, ap, ◌∙◌, arith}
use Rattle.std.proofs.lemmas.List.{length-replicate}
use Rattle.fills.proofs.Fill.{over_all}
use Rattle.frame_reader.specs.declared.read.Found.{Found}
use Rattle.frame_reader.specs.Reading.{found_as}
use Rattle.layout.specs.Layout.{symbol_count}
use Rattle.slotframe.proofs.Framing.{same_frame}
use Rattle.slotframe.proofs.framed.read_back.Goals as goal

pub returns-in_default-clause-same : goal.returns-in_default-clause-same
returns-in_default-clause-same g c =
    let sent = c.args.frame.now in
    let room = ap length (c.deref_mut.ensures.value ∙ c.in_ok-block.ensures) ∙ length-replicate (length sent.block.now) g.A.Arithmetic.operations.symbols.zero in (
      λ no. absurd (cc),
      λ begins. absurd (c.in_default.not-Ok _ (c.read.ensures.exactly sent.slot sent.shape sent.block.now begins (omega (arith, room))).0),
    )

pub returns-clause-same : goal.returns-clause-same
returns-clause-same g c =
    let b = g.A.Arithmetic.bytes in
    let sent = c.args.frame.now in
    let room = ap length (c.deref_mut.ensures.value ∙ c.in_ok-block.ensures) ∙ length-replicate (length sent.block.now) g.A.Arithmetic.operations.symbols.zero in (
      λ yes.
          let is = c.is_same-same.ensures.0 yes in
          let read = c.in-Ok.ensures.block in
          let many = ap symbol_count is.1.0 in
          let there = c.deref.ensures.value ∙ over_all read.block c.deref_mut.result.now c.read.new.out c.in_ok-block.block.items c.in_ok-block.block.len
          (read.begins.0.long ∙ many ∙ sym sent.within.long ∙ sym room ∙ c.deref_mut.ensures.len) c.deref_mut.ensures.len read.laid in
          same_frame b c.args.bytes.now sent.slot c.in-Ok.found.slot sent.shape c.in-Ok.found.shape sent.block.now read.block is.0 is.1.0 (sym there ∙ is.1.1) read.begins,
      λ begins.
          let read = c.read.ensures.exactly sent.slot sent.shape sent.block.now begins (omega (arith, room)) in
          let is : c.in-Ok.found ≡ found_as b sent.slot sent.shape = cc (read.0, c.in-Ok.is) in
          let there = c.deref.ensures.value ∙ over_all sent.block.now c.deref_mut.result.now c.read.new.out c.in_ok-block.block.items c.in_ok-block.block.len
          (sym room ∙ c.deref_mut.ensures.len) c.deref_mut.ensures.len read.1 in
          c.is_same-same.ensures.1 (ap (λ (f : Found). f.slot) is, (ap (λ (f : Found). f.shape) is, there)),
    )
