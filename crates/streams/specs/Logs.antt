-- What was heard of a link, slot by slot, and which streams agree with it. Assumes nothing.
use Rattle.std.specs.Prelude.{ℕ, ◌+◌, ◌<◌, ◌≢◌, Bool, false, ◌||◌, ◌==◌, List}
use Rattle.codes.specs.Link.{Link}
use Rattle.streams.specs.Streams.{Stream, Sends, HasPacket, SamePacket}

-- of each settled slot, the latest first, the block that was heard, or that it was lost
pub data Log (S : Type 0) : Type 0 where
  none : Log S
  lost : Log S → Log S
  heard : Log S → List S → Log S

-- how many slots are settled, which is the slot that comes next
abbrev pub settled : {S : Type 0} → Log S → ℕ
settled none = 0
settled (lost log) = settled log + 1
settled (heard log block) = settled log + 1

-- whether slot t was lost
abbrev pub was_lost : {S : Type 0} → Log S → ℕ → Bool
was_lost none t = false
was_lost (lost log) t = t == settled log || was_lost log t
was_lost (heard log block) t = was_lost log t

-- the stream would have sent every block that was heard
abbrev pub Agrees : {F S : Type 0} → Link F S → Log S → Stream S → Type 0
Agrees link none stream = Unit {0}
Agrees link (lost log) stream = Agrees link log stream
Agrees link (heard log block) stream = Agrees link log stream × Sends link stream (settled log) block

-- all streams that agree have this packet in slot t
abbrev pub IsKnown : {F S : Type 0} → Link F S → Log S → ℕ → List S → Type 0
IsKnown {F} {S} link log t packet = (stream : Stream S) → Agrees link log stream → HasPacket link stream t packet

-- all streams that agree have the same packet in slot t
abbrev pub AllShare : {F S : Type 0} → Link F S → Log S → ℕ → Type 0
AllShare {F} {S} link log t =
    (one other : Stream S) → Agrees link log one → Agrees link log other
    → SamePacket link t one other

-- two streams that agree have different packets in slot t
pub record TwoDiffer {F S : Type 0} (link : Link F S) (log : Log S) (t : ℕ) : Type 0 where
  pub one : Stream S
  pub other : Stream S
  pub one_agrees : Agrees link log one
  pub other_agrees : Agrees link log other
  pub sub : ℕ
  pub place : ℕ
  pub sub_within : sub < link.shape.sources
  pub place_within : place < link.symbols
  pub differ : one t sub place ≢ other t sub place
