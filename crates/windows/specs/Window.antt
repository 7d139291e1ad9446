-- The window: the last w packets of a stream, as the unknowns of a system of equations. Assumes nothing.
use Rattle.std.specs.Prelude.{◌≡◌, ℕ, ◌+◌, ◌-◌, ◌*◌, ◌<◌, List}
use Rattle.codes.specs.Link.{Link}
use Rattle.systems.specs.System.{Size}
use Rattle.streams.specs.Streams.{Stream, symbol_at, IsBlock, Shows}
use Rattle.streams.specs.Logs.{Log, Agrees, settled}

-- w packets of K sub-symbols each, of which sub-symbol k of number v is unknown v * K + k; a spare row for each parity
abbrev pub window_size : {F S : Type 0} → Link F S → ℕ → Size
window_size link w = record { unknowns = w * link.shape.sources; spare = link.shape.parities; symbols = link.symbols }

-- some stream that agrees with all that was heard has this window
abbrev pub Seen : {F S : Type 0} → Link F S → ℕ → Log S → (ℕ → ℕ → S) → Type 0
Seen {F} {S} link w log x = (stream : Stream S) × (Agrees link log stream × Shows link w stream (settled log) x)

-- the packet a slots before the window's youngest
abbrev pub window_ago : {F S : Type 0} → Link F S → ℕ → (ℕ → ℕ → S) → ℕ → ℕ → ℕ → S
window_ago link w x a k i = x ((w - 1 - a) * link.shape.sources + k) i

-- the window's youngest packet and its parities are those of the block
abbrev pub Carries : {F S : Type 0} → Link F S → ℕ → List S → (ℕ → ℕ → S) → Type 0
Carries link w block x = IsBlock link (window_ago link w x) block

-- these symbols begin with packet number v of the window
abbrev pub HasNumber : {F S : Type 0} → Link F S → ℕ → List S → (ℕ → ℕ → S) → Type 0
HasNumber link v packet x =
    (k i : ℕ) → k < link.shape.sources → i < link.symbols
    → symbol_at link packet k i ≡ x (v * link.shape.sources + k) i
