-- What a code means besides its coefficients.
use Rattle.std.specs.Prelude.{ℕ, ◌+◌, ◌*◌, ◌<◌, ◌≤◌, min, Bool, ◌||◌, ◌⊎◌, nat_lt}

-- K sub-symbols to a packet, P parities to a block, and how many slots back the parities reach
pub record Shape : Type 0 where
  pub sources : ℕ
  pub parities : ℕ
  pub memory : ℕ

-- no such parity, no such sub-symbol, or further back than the memory
abbrev pub Outside : Shape → ℕ → ℕ → ℕ → Type 0
Outside s j a k = (s.parities ≤ j) ⊎ (s.sources ≤ k) ⊎ (s.memory < a)

-- a memory is a 32-bit number: one that would be larger is the largest
abbrev pub capped : ℕ → ℕ
capped n = min n 4294967295

-- the number n is not one of low to high
abbrev pub out_of : ℕ → ℕ → ℕ → Bool
out_of low high n = nat_lt n low || nat_lt high n

-- a packet has 1 to 8 sub-symbols, a block 1 to 4 parities: what a link can carry
abbrev pub unfit : Shape → Bool
unfit x = out_of 1 8 x.sources || out_of 1 4 x.parities

-- the symbols of a packet and of a block, with l symbols to a sub-symbol
abbrev pub packet_size : Shape → ℕ → ℕ
packet_size x l = x.sources * l

abbrev pub block_size : Shape → ℕ → ℕ
block_size x l = (x.sources + x.parities) * l

-- the last slot of a link
abbrev pub last_slot : ℕ
last_slot = 268435455
