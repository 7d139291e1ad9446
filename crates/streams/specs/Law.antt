-- A block in each slot, and what agreeing streams share. Assumes nothing.
use Rattle.std.specs.Prelude.{◌≡◌, ℕ, ◌+◌, ◌↔◌, List}
use Rattle.codes.specs.Link.{Link}
use Rattle.streams.specs.Streams.{Stream, Sends, SamePackets}
use Rattle.streams.specs.Logs.{Log, Agrees, IsKnown, AllShare, TwoDiffer}

-- a stream would have sent just one block in each slot, which no packet behind that slot decides
pub record StreamLaw {F S : Type 0} (link : Link F S) : Type 0 where
  pub some : (stream : Stream S) (t : ℕ) → (block : List S) × Sends link stream t block
  pub one : (stream : Stream S) (t : ℕ) (block other : List S) → Sends link stream t block → Sends link stream t other → block ≡ other
  pub front : (stream other : Stream S) (t : ℕ) (block : List S) → SamePackets link (t + 1) stream other
      → Sends link stream t block → Sends link other t block

-- where some stream agrees, all that agree share the packet of a slot just if it is known; and where
-- all share it, no two differ
pub record ShareLaw {F S : Type 0} (link : Link F S) : Type 0 where
  pub known : (log : Log S) (t : ℕ) (stream : Stream S) → Agrees link log stream
      → AllShare link log t ↔ ((packet : List S) × IsKnown link log t packet)
  pub alike : (log : Log S) (t : ℕ) → AllShare link log t → TwoDiffer link log t → ⊥
