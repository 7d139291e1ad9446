-- Source streams, and the blocks that they send. Assumes nothing.
use Rattle.std.specs.Prelude.{◌≡◌, ℕ, ◌+◌, ◌-◌, ◌*◌, ◌<◌, List, [], ◌∷◌, length, if◌then◌else◌, nat_le, slice_index_or}
use Rattle.codes.specs.Shape.{block_size}
use Rattle.codes.specs.Link.{Link}
use Rattle.codes.specs.Parity.{parity}

-- a packet in each slot from 0 on: stream t k i is symbol i of sub-symbol k of the packet of slot t
abbrev pub Stream : Type 0 → Type 0
Stream S = ℕ → ℕ → ℕ → S

-- symbol i of sub-symbol n, of sub-symbols that lie one after the other
abbrev pub symbol_at : {F S : Type 0} → Link F S → List S → ℕ → ℕ → S
symbol_at link symbols n i = slice_index_or symbols (n * link.symbols + i) link.operations.symbols.zero

-- the packet a slots before slot t; packets before slot 0 are zero
abbrev pub past : {F S : Type 0} → Link F S → Stream S → ℕ → ℕ → ℕ → ℕ → S
past link stream t a k i = if nat_le a t then stream (t - a) k i else link.operations.symbols.zero

-- the block of a slot from which the packets a slots ago are these, for each age a: its own packet, of age 0, followed by its
-- parities, each of which adds up, over all ages a and sub-symbols k, coefficient times sub-symbol k of the packet a slots ago
pub record IsBlock {F S : Type 0} (link : Link F S) (ago : ℕ → ℕ → ℕ → S) (block : List S) : Type 0 where
  pub whole : length block ≡ block_size link.shape link.symbols
  pub packet : (k i : ℕ) → k < link.shape.sources → i < link.symbols → symbol_at link block k i ≡ ago 0 k i
  pub parities : (j i : ℕ) → j < link.shape.parities → i < link.symbols
      → symbol_at link block (link.shape.sources + j) i ≡ parity link ago j i

-- the stream would have sent this block in slot t
abbrev pub Sends : {F S : Type 0} → Link F S → Stream S → ℕ → List S → Type 0
Sends link stream t block = IsBlock link (past link stream t) block

-- it would have sent these, one a slot, from slot t on
abbrev pub SendsFrom : {F S : Type 0} → Link F S → Stream S → ℕ → List (List S) → Type 0
SendsFrom link stream t [] = Unit {0}
SendsFrom link stream t (block ∷ blocks) = Sends link stream t block × SendsFrom link stream (t + 1) blocks

-- these symbols begin with the stream's packet of slot t
abbrev pub HasPacket : {F S : Type 0} → Link F S → Stream S → ℕ → List S → Type 0
HasPacket link stream t symbols =
    (k i : ℕ) → k < link.shape.sources → i < link.symbols → symbol_at link symbols k i ≡ stream t k i

-- both streams have the same packet in slot t
abbrev pub SamePacket : {F S : Type 0} → Link F S → ℕ → Stream S → Stream S → Type 0
SamePacket link t one other =
    (k i : ℕ) → k < link.shape.sources → i < link.symbols → one t k i ≡ other t k i

-- and in the slots before n
abbrev pub SamePackets : {F S : Type 0} → Link F S → ℕ → Stream S → Stream S → Type 0
SamePackets link n one other = (t : ℕ) → t < n → SamePacket link t one other

-- of the last w packets before slot n, number v from the oldest; zeros below slot 0
abbrev pub last_packet : {F S : Type 0} → Link F S → ℕ → Stream S → ℕ → ℕ → ℕ → ℕ → S
last_packet link w stream n v k i = if nat_le w (n + v) then stream (n + v - w) k i else link.operations.symbols.zero

-- x is those w packets, with sub-symbol k of number v at v * K + k
abbrev pub Shows : {F S : Type 0} → Link F S → ℕ → Stream S → ℕ → (ℕ → ℕ → S) → Type 0
Shows link w stream n x =
    (v k i : ℕ) → v < w → k < link.shape.sources → i < link.symbols
    → x (v * link.shape.sources + k) i ≡ last_packet link w stream n v k i

-- a history at slot n begins with the last M packets
abbrev pub HasHistory : {F S : Type 0} → Link F S → Stream S → ℕ → List S → Type 0
HasHistory link stream n history = Shows link link.shape.memory stream n (symbol_at link history)
