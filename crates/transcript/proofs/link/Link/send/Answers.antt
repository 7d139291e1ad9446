use Rattle.std.proofs.Common.{◌≡◌, ℕ, List, ◌++◌, length, take, drop, sym, ap, ◌∙◌, subst, append_assoc, arith}
use Rattle.std.proofs.lemmas.List.{take_all, take_at}
use Rattle.codes.specs.Shape.{packet_size, block_size}
use Rattle.codes.specs.Link.{link_of}
use Rattle.sender.specs.Sending.{FollowsStreams}
use Rattle.transcript.proofs.link.Link.send.Goals as goal

-- the packet, where a block of it lies over the front of an output
front : {X : Type 0} (packet parities behind : List X) (n : ℕ) → length packet ≡ n → take n ((packet ++ parities) ++ behind) ≡ packet
front packet parities behind n long = rw append_assoc (take_at packet (parities ++ behind) n long)

pub returns-clause-packet : goal.returns-clause-packet
returns-clause-packet g c =
    let self = c.args.self.now in
    let size = packet_size (g.C.Code.shape self.sender.code) self.sender.symbols in
    let out = c.send.new.out in
    let long : length out ≡ self.block.len = omega (arith, c.send.auto.out, c.as_mut_slice-block.ensures.len) in
    ap (take size) (take_at out (drop (length out) self.block.items) self.block.len long)
    ∙ ap (take size) (rw c.unwrap.ensures at c.send.ensures.block)
    ∙ front c.args.packet.now _ _ size c.requires.whole

pub returns-clause-streams : goal.returns-clause-streams
returns-clause-streams g c =
    let self = c.args.self.now in
    let link = link_of g.A.Arithmetic.operations g.C.Code.shape g.C.Code.coefficients self.sender.code self.sender.symbols in
    let slot = self.sender.next in
    let packet = c.args.packet.now in
    let out = c.send.new.out in
    let after = c.send.new.history in
    let was = self.history.items in
    let long : length out ≡ self.block.len = omega (arith, c.send.auto.out, c.as_mut_slice-block.ensures.len) in
    let kept : length after ≡ self.history.len = omega (arith, c.send.auto.history, c.as_mut_slice-history.ensures.len) in
    let size = block_size link.shape link.symbols in
    let whole : take size out ≡ out = take_all size out (omega (arith, c.requires.room)) in
    let follows = rw (c.unwrap.ensures, c.as_mut_slice-history.ensures.value, c.next_slot-slot.ensures.value) at c.send.ensures.streams in
    let now = take self.history.len (after ++ drop (length after) was) in
    subst (λ b. FollowsStreams link slot packet was b now) (sym (take_at out (drop (length out) self.block.items) self.block.len long))
    (subst (λ h. FollowsStreams link slot packet was out h) (sym (take_at after (drop (length after) was) self.history.len kept))
    (subst (λ b. FollowsStreams link slot packet was b after) whole follows))
