-- One line of a link's packets after the other. Assumes nothing.
use Rattle.std.specs.Prelude.{◌≡◌, ℕ, ◌≤◌, false, List, [], ◌∷◌, ◌++◌, Some, None, Ok, Err, Result}
use Rattle.refusal.specs.Number.{number_of}
use Rattle.arithmetic.specs.Operations.{Bytes}
use Rattle.codes.specs.Shape.{Shape, packet_size, block_size, unfit, last_slot}
use Rattle.codes.specs.Link.{Link}
use Rattle.streams.specs.Streams.{Stream, SamePackets, HasHistory}
use Rattle.hextext.specs.declared.error.ReadError.{ReadError}
use Rattle.hextext.specs.declared.error.ReadError.TheVariants.{Refused, NoMemory}
use Rattle.hextext.specs.Packet.{packet_text}
use Rattle.linktext.specs.Lines.{text_of_refusal}
use Rattle.sender.specs.Block.{history_size}
use Rattle.sender.specs.Sending.{FollowsStreams}
use Rattle.transcript.specs.Lines.{line_refusal, packet_in}
use Rattle.transcript.specs.Printed.{text_of_block, Prints}

-- all that a send asks for is there
pub record Ready (x : Shape) (l next history packet block : ℕ) : Type 0 where
  pub fit : unfit x ≡ false
  pub there : next ≤ last_slot
  pub reaches : history ≡ history_size x l
  pub whole : packet ≡ packet_size x l
  pub room : block ≡ block_size x l

-- the packet that the line hands in was sent and shown, and the history took it in
pub record Stepped {F S : Type 0} (link : Link F S) (b : Bytes S) (slot : ℕ) (line : List ℕ)
    (was now : List S) (shown : List ℕ) : Type 0 where
  pub block : List S
  pub right : line_refusal b.width (packet_size link.shape link.symbols) slot line ≡ None
  pub text : packet_text b (packet_in link block) ≡ line
  pub streams : FollowsStreams link slot (packet_in link block) was block now
  pub all_shown : shown ≡ text_of_block link b slot block

-- what a line answers, where `read` has the text of what is shown; where memory runs out, nothing is said of it
abbrev pub Answers : {F S X : Type 0} → (X → List ℕ) → Link F S → Bytes S → ℕ → List ℕ → List S → List S
    → Result X ReadError → Type 0
Answers read link b slot line was now (Ok s) = Stepped link b slot line was now (read s)
Answers read link b slot line was now (Err (Refused why)) =
    line_refusal b.width (packet_size link.shape link.symbols) slot line ≡ Some (number_of why)
Answers read link b slot line was now (Err NoMemory) = Unit {0}

-- said of a line that was refused
abbrev pub IfLineRefused : {X : Type 0} → Result X ReadError → Type 0 → Type 0
IfLineRefused (Ok s) P = Unit {0}
IfLineRefused (Err (Refused why)) P = P
IfLineRefused (Err NoMemory) P = Unit {0}

-- how a run ends that a line broke off: with the refusal, or for want of memory without a text
abbrev pub Ends : ReadError → ℕ → List ℕ → List ℕ → Type 0
Ends (Refused why) number before after = after ≡ before ++ (text_of_refusal why number ++ (10 ∷ []))
Ends NoMemory number before after = ⊥

-- the stream that was `past` so far goes on with the packets of these lines, and this is printed of what it sends
abbrev pub GoesOn : {F S : Type 0} → Link F S → Bytes S → Stream S → ℕ → List (List ℕ) → List ℕ → Type 0
GoesOn {F} {S} link b past slot lines out =
    (stream : Stream S) × (SamePackets link slot past stream × Prints link b stream slot lines out)

-- so does each stream whose history this is
abbrev pub PrintedFrom : {F S : Type 0} → Link F S → Bytes S → List S → ℕ → List (List ℕ) → List ℕ → Type 0
PrintedFrom {F} {S} link b history slot lines out =
    (past : Stream S) → HasHistory link past slot history → GoesOn link b past slot lines out
