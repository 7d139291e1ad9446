-- What is printed of what is sent. Assumes nothing.
use Rattle.std.specs.Prelude.{◌≡◌, ℕ, ◌+◌, List, [], ◌∷◌, ◌++◌, drop, Some, None, Option}
use Rattle.refusal.specs.declared.Refusal.{Refusal}
use Rattle.arithmetic.specs.Operations.{Bytes}
use Rattle.codes.specs.Shape.{packet_size}
use Rattle.codes.specs.Link.{Link}
use Rattle.streams.specs.Streams.{Stream, SendsFrom}
use Rattle.sender.specs.Block.{block_shape}
use Rattle.linktext.specs.Lines.{text_of_refusal}
use Rattle.slotframe.specs.Shown.{slot_shown}
use Rattle.transcript.specs.Lines.{HandedIn, packet_in}

-- a slot's block: its packet, its parities, and its frame
abbrev pub text_of_block : {F S : Type 0} → Link F S → Bytes S → ℕ → List S → List ℕ
text_of_block link b slot block =
    let parities = drop (packet_size link.shape link.symbols) block in
    slot_shown b slot (block_shape link.shape link.symbols) (packet_in link block) parities

-- the blocks from this slot on, and the refusal that ended them; the packet of slot t stands in line t + 2
abbrev pub text_of_sending : {F S : Type 0} → Link F S → Bytes S → ℕ → List (List S) → Option Refusal → List ℕ
text_of_sending link b slot [] None = []
text_of_sending link b slot [] (Some why) = text_of_refusal why (slot + 2) ++ (10 ∷ [])
text_of_sending link b slot (block ∷ blocks) stop =
    text_of_block link b slot block ++ (10 ∷ text_of_sending link b (slot + 1) blocks stop)

-- the lines from this slot on hand in the packets of a stream, and this is printed of the blocks that it sends there
pub record Prints {F S : Type 0} (link : Link F S) (b : Bytes S) (stream : Stream S) (slot : ℕ)
    (lines : List (List ℕ)) (out : List ℕ) : Type 0 where
  pub blocks : List (List S)
  pub stop : Option Refusal
  pub sent : SendsFrom link stream slot blocks
  pub packets : HandedIn link b slot lines blocks stop
  pub text : out ≡ text_of_sending link b slot blocks stop

-- the packets of a whole link, from slot 0 on
abbrev pub Printed : {F S : Type 0} → Link F S → Bytes S → List (List ℕ) → List ℕ → Type 0
Printed {F} {S} link b lines out = (stream : Stream S) × Prints link b stream 0 lines out
