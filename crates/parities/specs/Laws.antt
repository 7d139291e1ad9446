-- What the parities of a stream are. Assumes nothing.
use Rattle.std.specs.Prelude.{◌≡◌, ℕ, ◌+◌, ◌-◌, ◌*◌, ◌^◌, ◌<◌, ◌≤◌, ◌≢◌, ◌⊎◌}
use Rattle.arithmetic.specs.Totals.{sum_below}
use Rattle.codes.specs.Shape.{Outside, last_slot}
use Rattle.codes.specs.Link.{Link}
use Rattle.streams.specs.Streams.{Stream, past}
use Rattle.parities.specs.Parities.{parity_of, added, lone, every}

-- no coefficient outside the code's shape
abbrev pub Bounded : {F S : Type 0} → Link F S → Type 0
Bounded link =
    (j a k : ℕ) → a < 2 ^ 32 → Outside link.shape j a k
    → link.coefficients j a k ≡ link.operations.coefficients.zero

-- the parities of a code
pub record ParityLaw {F S : Type 0} (link : Link F S) : Type 0 where
  -- no coefficient lies beyond the memory, nor at a parity or a sub-symbol that the code has not;
  pub bounded : Bounded link
  -- so each parity is the sum over ages 0 to n and all sub-symbols, for every n from the memory on that is an age
  pub ages : (stream : Stream S) (t j i n : ℕ) → link.shape.memory ≤ n → n < 2 ^ 32
      → parity_of link stream t j i
      ≡ sum_below link.operations.symbols (n + 1) (λ a.
      sum_below link.operations.symbols link.shape.sources (λ k.
      link.operations.scale (link.coefficients j a k) (past link stream t a k i)))
  -- a lone symbol comes into a parity of the slot a slots later scaled by the coefficient of its sub-symbol at age a,
  pub own : (t k i : ℕ) (x : S) (a j : ℕ) → k < link.shape.sources → a < 2 ^ 32
      → parity_of link (lone link t k i x) (t + a) j i
      ≡ link.operations.scale (link.coefficients j a k) x
  -- into no parity of a slot before its own, and at no other place
  pub others : (t k i : ℕ) (x : S) (s j n : ℕ) → (s < t) ⊎ (n ≢ i)
      → parity_of link (lone link t k i x) s j n ≡ link.operations.symbols.zero
  -- of streams that are added up, the parities add up
  pub sums : (one other : Stream S) (t j i : ℕ)
      → parity_of link (added link one other) t j i
      ≡ link.operations.symbols.plus (parity_of link one t j i) (parity_of link other t j i)

-- two codes on top of each other, the second delayed by d slots: a parity is the first code's plus the second's of d slots
-- earlier; where there is no such slot it is the first code's alone
pub record OverlayLaw {F S : Type 0} (whole first second : Link F S) (d : ℕ) : Type 0 where
  pub both : (stream : Stream S) (t j i : ℕ) → t ≤ last_slot → d ≤ t
      → parity_of whole stream t j i
      ≡ whole.operations.symbols.plus
      (parity_of first stream t j i) (parity_of second stream (t - d) j i)
  pub early : (stream : Stream S) (t j i : ℕ) → t ≤ last_slot → t < d
      → parity_of whole stream t j i ≡ parity_of first stream t j i

-- a code spread by g: of the slots with one remainder by g, the parities are those that the code itself has of the packets of
-- these slots alone
abbrev pub SpreadLaw : {F S : Type 0} → Link F S → Link F S → ℕ → Type 0
SpreadLaw {F} {S} whole inner g =
    (stream : Stream S) (t r j i : ℕ) → r < g → t * g + r ≤ last_slot
    → parity_of whole stream (t * g + r) j i ≡ parity_of inner (every g r stream) t j i
