use Rattle.std.proofs.Common.{◌≤◌, sym, ap, rules, tests, ◌∙◌, subst}
use Rattle.codes.specs.Shape.{block_size, last_slot}
use Rattle.codes.specs.Link.{link_of}
use Rattle.layout.specs.Layout.{symbol_count}
use Rattle.hextext.specs.Packet.{packet_text}
use Rattle.sender.specs.Sending.{FollowsStreams}
use Rattle.transcript.proofs.link.Link.answer_line.Goals as goal

pub new-frame-requires : goal.new-frame-requires
new-frame-requires g c =
    let right = c.in_ok-packet.ensures.0 in
    let there : c.next_slot-slot.result ≤ last_slot = search (rules, tests, right) in record {
      limits = search (rules, tests, c.block_shape-shape.ensures.limits);
      long =
          c.deref.ensures.len ∙ c.send.new.self.room
          ∙ ap (λ s. block_size (g.C.Code.shape s.code) s.symbols) c.send.ensures.sender
          ∙ sym (ap symbol_count c.block_shape-shape.ensures.value);
    }

pub returns-clause-answers : goal.returns-clause-answers
returns-clause-answers g c =
    let self = c.args.self.now in
    let link = link_of g.A.Arithmetic.operations g.C.Code.shape g.C.Code.coefficients self.sender.code self.sender.symbols in
    let packet = c.send.ensures.packet ∙ c.as_slice.ensures.value in
    record {
      block = c.send.new.self.block.items;
      right = rw (c.packet_size-size.ensures.value, c.next_slot-slot.ensures.value) at c.in_ok-packet.ensures.0;
      text = ap (packet_text g.A.Arithmetic.bytes) packet ∙ c.in_ok-packet.ensures.1;
      streams =
          subst (λ p. FollowsStreams link self.sender.next p self.history.items c.send.new.self.block.items c.send.new.self.history.items)
          (sym c.send.ensures.packet) c.send.ensures.streams;
      all_shown =
          rw (
            c.new-frame.ensures.slot,
            c.new-frame.ensures.shape,
            c.new-frame.ensures.block,
            c.block_shape-shape.ensures.value,
            c.deref.ensures.value,
            c.next_slot-slot.ensures.value,
          ) at c.in_ok-show_slot.ensures;
    }
