-- What any sends, one after the other, keep true. Assumes nothing.
use Rattle.std.proofs.Common.{◌≡◌, ℕ, ◌+◌, ◌*◌, sym, ap, ◌∙◌, subst, refl, append-nil, arith, rules}
use Rattle.std.specs.Prelude.{List, [], ◌∷◌, length, None, Ok, get_or}
use Rattle.std.proofs.lemmas.List.{get_or-take}
use Rattle.codes.specs.Shape.{Shape}
use Rattle.codes.specs.Link.{Link}
use Rattle.streams.specs.Streams.{Stream, symbol_at, HasPacket, HasHistory, SamePackets}
use Rattle.streams.proofs.Putting.{put, put_there, put_front}
use Rattle.sender.specs.State.{SenderState}
use Rattle.sender.specs.Block.{history_size, zero_history}
use Rattle.sender.proofs.Places.{in_history}
use Rattle.sender.specs.Limits.{send_refusal}
use Rattle.sender.specs.Sending.{lent, block_in, FollowsStreams, SendSays}
use Rattle.sender.specs.Runs.{Run, Sent, SameHistory, AreItsPackets, AreItsBlocks, SentByStream}
use Rattle.sender.specs.Runs.Run.{made, then_sent, then_refused}

-- a send that is carried out is of the next slot
accepted_slot : (x : Shape) (l next slot history packet out : ℕ) → None ≡ send_refusal x l next slot history packet out → slot ≡ next
accepted_slot x l next slot history packet out e = search rules

-- streams with the same packets in the slots that were sent
packets_front : {F S : Type 0} (link : Link F S) (one other : Stream S) (sends : List (Sent S))
    → SamePackets link (length sends) one other → AreItsPackets link one sends → AreItsPackets link other sends
packets_front link one other [] same packets = tt
packets_front link one other (s ∷ sends) same (before, last) = (
  packets_front link one other sends (λ t l. same t (omega arith)) before,
  λ k i lk li. last k i lk li ∙ same (length sends) (omega arith) k i lk li,
)

-- what begins with a stream's history is one
same_history : {F S : Type 0} (link : Link F S) (stream : Stream S) (n : ℕ) (one other : List S)
    → SameHistory link one other → HasHistory link stream n other → HasHistory link stream n one
same_history link stream n one other same has v k i lv lk li =
    let all = history_size link.shape link.symbols in
    let zero = link.operations.symbols.zero in
    let p = (v * link.shape.sources + k) * link.symbols + i in
    let place = in_history link.shape.memory link.shape.sources link.symbols v k i lv lk li in
    sym (get_or-take all one p zero place) ∙ ap (λ l. get_or l p zero) same ∙ get_or-take all other p zero place
    ∙ has v k i lv lk li

-- the sender is as it was made, but for its slot; what was sent is a stream's; and the history is that of each stream with these packets
record Held {F S C : Type 0} (link : C → ℕ → Link F S) (code : C) (l : ℕ) (sends : List (Sent S)) (sender : SenderState C) (history : List S) : Type 0 where
  state : sender ≡ record { code = code; symbols = l; next = length sends }
  some : (stream : Stream S) × AreItsPackets (link code l) stream sends
  blocks : (stream : Stream S) → AreItsPackets (link code l) stream sends → AreItsBlocks (link code l) stream sends
  kept : (stream : Stream S) → AreItsPackets (link code l) stream sends → HasHistory (link code l) stream (length sends) history

module _ {F S C : Type 0} (link : C → ℕ → Link F S) (code : C) (l : ℕ) where
  held : {sends : List (Sent S)} {sender : SenderState C} {history : List S} → Run link code l sends sender history → Held link code l sends sender history
  held (made sender history says zeros) = record {
    state = says.made;
    some = ((λ t k i. (link code l).operations.symbols.zero), tt);
    blocks = λ stream _. tt;
    kept = λ stream _.
        same_history (link code l) stream 0 history (zero_history (link code l)) zeros
        (subst (HasHistory (link code l) stream 0) (append-nil (zero_history (link code l))) (says.starts stream []));
  }
  held (then_refused slot packet other out why run says) =
      let h = held run in
      record { state = ap (λ x. x.sender) says.unchanged ∙ h.state; some = h.some; blocks = h.blocks; kept = h.kept }
  held (then_sent {sends = sends} {history = history} {new = new} slot packet own out run same says) =
      let h = held run in
      let n = length sends in
      let mine = link code l in
      let says_now = subst (λ old. SendSays (link old.code old.symbols) slot packet (lent old own out) new (Ok (tt {0}))) h.state says in
      let this = accepted_slot mine.shape mine.symbols n slot (length own) (length packet) (length out) says_now.refusal in
      let follows = subst (λ t. FollowsStreams mine t packet own (block_in mine new.out) new.history) this says_now.streams in
      let sent = λ (stream : Stream S) (packets : AreItsPackets mine stream sends) (last : HasPacket mine stream n packet).
      follows stream (same_history mine stream n own history same (h.kept stream packets)) last in
      let its : ℕ → ℕ → S = λ k i. symbol_at mine packet k i in
      record {
        state = says_now.next ∙ ap (λ m. record { code = code; symbols = l; next = m }) (omega arith);
        some = (
          put n its h.some.0,
          (
            packets_front mine h.some.0 (put n its h.some.0) sends (put_front mine n its h.some.0) h.some.1,
            λ k i lk li. sym (put_there n its h.some.0 n k i refl),
          ),
        );
        blocks = λ stream packets. (h.blocks stream packets.0, (sent stream packets.0 packets.1).0);
        kept = λ stream packets. subst (λ m. HasHistory mine stream m new.history) (omega arith) ((sent stream packets.0 packets.1).1);
      }

  pub sent_by_stream : (sends : List (Sent S)) (sender : SenderState C) (history : List S) → Run link code l sends sender history
      → SentByStream (link code l) sends sender.next
  sent_by_stream sends sender history run =
      let h = held run in
      record { some = h.some; blocks = h.blocks; slots = ap (λ s. s.next) h.state }
