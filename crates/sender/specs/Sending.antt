-- What a send does. Assumes nothing.
use Rattle.std.specs.Prelude.{◌≡◌, ℕ, ◌+◌, ◌*◌, ◌<◌, ◌≤◌, List, ◌++◌, length, take, slice_index_or, IfOk, OnErr, OnOk, Result}
use Rattle.fills.specs.Over.{written_over}
use Rattle.refusal.specs.declared.Refusal.{Refusal}
use Rattle.refusal.specs.Order.{refused_with}
use Rattle.codes.specs.Shape.{block_size}
use Rattle.codes.specs.Link.{Link}
use Rattle.streams.specs.Streams.{Stream, symbol_at, IsBlock, HasPacket, HasHistory, Sends}
use Rattle.sender.specs.State.{SenderState, fresh}
use Rattle.sender.specs.Block.{history_size, recent, block_of, history_after, zero_history}
use Rattle.sender.specs.Limits.{making_refusal, send_refusal}

-- a sender, and the memory that a send is lent: a history, and an output for the block
pub record Lent (C S : Type 0) : Type 0 where
  pub sender : SenderState C
  pub history : List S
  pub out : List S

abbrev pub lent : {C S : Type 0} → SenderState C → List S → List S → Lent C S
lent sender history out = record { sender = sender; history = history; out = out }

-- the block that an output begins with
abbrev pub block_in : {F S : Type 0} → Link F S → List S → List S
block_in link out = take (block_size link.shape link.symbols) out

-- making a sender of a code and L; a history of zeros is then every stream's, since packets before slot 0 are zero
pub record MakeSays {F S C : Type 0} (link : C → ℕ → Link F S) (code : C) (l : ℕ)
    (result : Result (SenderState C) Refusal) : Type 0 where
  pub refusal : refused_with result ≡ making_refusal (link code l).shape l
  pub made : IfOk result (λ sender. sender ≡ fresh code l)
  pub starts : (stream : Stream S) (behind : List S)
      → HasHistory (link code l) stream 0 (zero_history (link code l) ++ behind)

-- whichever stream the history and the packet are of, that stream sends the block, and the history goes on as the stream
-- does
abbrev pub FollowsStreams : {F S : Type 0} → Link F S → ℕ → List S → List S → List S → List S → Type 0
FollowsStreams {F} {S} link slot packet history block after =
    (stream : Stream S) → HasHistory link stream slot history → HasPacket link stream slot packet
    → Sends link stream slot block × HasHistory link stream (slot + 1) after

-- a history takes a packet in: it comes last, those before it are the former ones without the oldest, in their order, and what
-- lies behind the history is as before. Sub-symbol k of packet v is its sub-symbol v * K + k
pub record TakesIn {F S : Type 0} (link : Link F S) (packet old new : List S) : Type 0 where
  pub last : (v k i : ℕ) → v + 1 ≡ link.shape.memory → k < link.shape.sources → i < link.symbols
      → symbol_at link new (v * link.shape.sources + k) i ≡ symbol_at link packet k i
  pub others : (v k i : ℕ) → v + 1 < link.shape.memory → k < link.shape.sources → i < link.symbols
      → symbol_at link new (v * link.shape.sources + k) i
      ≡ symbol_at link old ((v + 1) * link.shape.sources + k) i
  pub behind : (n : ℕ) (x : S) → history_size link.shape link.symbols ≤ n
      → slice_index_or new n x ≡ slice_index_or old n x
  pub as_long : length new ≡ length old

-- sending this packet in this slot: a refused send changes nothing; else the block is written over the output's front, the
-- history takes the packet in, and the slot after it comes next. What is written is said as a whole, by places for every
-- content of the history, and of streams
pub record SendSays {F S C X : Type 0} (link : Link F S) (slot : ℕ) (packet : List S)
    (old new : Lent C S) (result : Result X Refusal) : Type 0 where
  pub refusal : refused_with result
      ≡ send_refusal link.shape link.symbols old.sender.next slot (length old.history) (length packet) (length old.out)
  pub unchanged : OnErr result (new ≡ old)
  pub next : OnOk result (new.sender ≡ record old.sender { next = old.sender.next + 1 })
  pub block : OnOk result (new.out ≡ written_over (block_of link old.history packet) old.out)
  pub history : OnOk result (new.history ≡ history_after link old.history packet)
  pub places : OnOk result (IsBlock link (recent link old.history packet) (block_in link new.out))
  pub moves : OnOk result (TakesIn link packet old.history new.history)
  pub streams : OnOk result (FollowsStreams link slot packet old.history (block_in link new.out) new.history)
