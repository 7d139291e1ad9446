-- Sends one after the other, and what was sent in all. Assumes nothing.
use Rattle.std.specs.Prelude.{◌≡◌, ℕ, List, [], ◌∷◌, length, take, Ok, Err}
use Rattle.refusal.specs.declared.Refusal.{Refusal}
use Rattle.codes.specs.Link.{Link}
use Rattle.streams.specs.Streams.{Stream, HasPacket, Sends}
use Rattle.sender.specs.State.{SenderState}
use Rattle.sender.specs.Block.{history_size, zero_history}
use Rattle.sender.specs.Sending.{Lent, lent, block_in, MakeSays, SendSays}

-- a packet that was handed in and accepted, and the block that was written for it
pub record Sent (S : Type 0) : Type 0 where
  pub packet : List S
  pub block : List S

-- both begin with the same history; what lies behind may differ
abbrev pub SameHistory : {F S : Type 0} → Link F S → List S → List S → Type 0
SameHistory link one other =
    let all = history_size link.shape link.symbols in
    take all one ≡ take all other

-- any sends since the making, one after the other, each with the sender that those before left. One that is accepted was lent the
-- history that those before left, at first zeros, with whatever behind; one that is refused, for want of a history too, may have
-- been lent any. What was sent in all, and the sender and the history that are left
pub data Run {F S C : Type 0} (link : C → ℕ → Link F S) (code : C) (l : ℕ)
    : List (Sent S) → SenderState C → List S → Type 0 where
  made : (sender : SenderState C) (history : List S)
      → MakeSays link code l (Ok sender)
      → SameHistory (link code l) history (zero_history (link code l))
      → Run link code l [] sender history
  then_sent : {sends : List (Sent S)} {old : SenderState C} {history : List S} {new : Lent C S}
      (slot : ℕ) (packet own out : List S)
      → Run link code l sends old history
      → SameHistory (link code l) own history
      → SendSays (link old.code old.symbols) slot packet (lent old own out) new (Ok (tt {0}))
      → Run link code l (record { packet = packet; block = block_in (link code l) new.out } ∷ sends) new.sender new.history
  then_refused : {sends : List (Sent S)} {old : SenderState C} {history : List S} {new : Lent C S}
      (slot : ℕ) (packet other out : List S) (why : Refusal)
      → Run link code l sends old history
      → SendSays {X = Unit {0}} (link old.code old.symbols) slot packet (lent old other out) new (Err why)
      → Run link code l sends new.sender history

-- each packet is the stream's, in the slots from 0 on
abbrev pub AreItsPackets : {F S : Type 0} → Link F S → Stream S → List (Sent S) → Type 0
AreItsPackets link stream [] = Unit {0}
AreItsPackets link stream (s ∷ sends) = AreItsPackets link stream sends × HasPacket link stream (length sends) s.packet

-- each block is what the stream would have sent, in the slots from 0 on
abbrev pub AreItsBlocks : {F S : Type 0} → Link F S → Stream S → List (Sent S) → Type 0
AreItsBlocks link stream [] = Unit {0}
AreItsBlocks link stream (s ∷ sends) = AreItsBlocks link stream sends × Sends link stream (length sends) s.block

-- of what was sent in a run: there is a stream with these packets, the blocks are those of each such stream, slot by slot,
-- and the slot behind the last one comes next
pub record SentByStream {F S : Type 0} (link : Link F S) (sends : List (Sent S)) (next : ℕ) : Type 0 where
  pub some : (stream : Stream S) × AreItsPackets link stream sends
  pub blocks : (stream : Stream S) → AreItsPackets link stream sends → AreItsBlocks link stream sends
  pub slots : next ≡ length sends
