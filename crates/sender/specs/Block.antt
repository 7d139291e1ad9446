-- What a sender writes. Lists hold symbols; a packet has K sub-symbols of L symbols each. Assumes nothing.
use Rattle.std.specs.Prelude.{◌≡◌, ℕ, ◌+◌, ◌-◌, ◌*◌, ◌/◌, ◌%◌, ◌≤◌, List, ◌++◌, map, take, drop, replicate, if◌then◌else◌, ◌==◌}
use Rattle.std.specs.List.{range_with_len}
use Rattle.codes.specs.Shape.{Shape, packet_size}
use Rattle.codes.specs.Link.{Link}
use Rattle.codes.specs.Parity.{parity}
use Rattle.streams.specs.Streams.{symbol_at}
use Rattle.layout.specs.declared.head.BlockShape.{BlockShape}

-- the symbols of a history: as many packets as the code's memory says
abbrev pub history_size : Shape → ℕ → ℕ
history_size x l = x.memory * packet_size x l

-- a history of zeros
abbrev pub zero_history : {F S : Type 0} → Link F S → List S
zero_history link = replicate (history_size link.shape link.symbols) link.operations.symbols.zero

-- symbol i of sub-symbol k of the packet a slots ago: of the packet itself, or of the history, oldest packet first
abbrev pub recent : {F S : Type 0} → Link F S → List S → List S → ℕ → ℕ → ℕ → S
recent link history packet a k i =
    if a == 0 then symbol_at link packet k i
    else symbol_at link history ((link.shape.memory - a) * link.shape.sources + k) i

-- symbol n of the slot's parities, which come one after the other, L symbols each
abbrev pub symbol_of_parity : {F S : Type 0} → Link F S → List S → List S → ℕ → S
symbol_of_parity link history packet n = parity link (recent link history packet) (n / link.symbols) (n % link.symbols)

-- all of them, as the block has them behind its packet
abbrev pub parities_of : {F S : Type 0} → Link F S → List S → List S → List S
parities_of link history packet =
    map (symbol_of_parity link history packet) (range_with_len 0 (link.shape.parities * link.symbols))

-- the packet followed by its parities
abbrev pub block_of : {F S : Type 0} → Link F S → List S → List S → List S
block_of link history packet = packet ++ parities_of link history packet

-- how it is made up, with l symbols to a sub-symbol
abbrev pub block_shape : Shape → ℕ → BlockShape
block_shape x l = record { sources = x.sources; parities = x.parities; symbols = l }

-- the oldest packet goes, the new one comes; what lies behind the history stays
abbrev pub history_after : {F S : Type 0} → Link F S → List S → List S → List S
history_after link history packet =
    let all = history_size link.shape link.symbols in
    drop (packet_size link.shape link.symbols) (take all history ++ packet) ++ drop all history

-- the limits that the sender's inner calls rely on: they are tested once, before the first of them
pub record Fits (x : Shape) (l history packet : ℕ) : Type 0 where
  pub narrow : x.sources ≤ 8
  pub short : l ≤ 32
  pub reaches : history_size x l ≤ history
  pub whole : packet ≡ packet_size x l
