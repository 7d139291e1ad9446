-- The parities of streams, and streams made of others. Assumes nothing.
use Rattle.std.specs.Prelude.{ℕ, ◌+◌, ◌*◌, ◌&&◌, if◌then◌else◌, ◌==◌}
use Rattle.codes.specs.Link.{Link}
use Rattle.codes.specs.Parity.{parity}
use Rattle.streams.specs.Streams.{Stream, past}

-- symbol i of parity j of slot t
abbrev pub parity_of : {F S : Type 0} → Link F S → Stream S → ℕ → ℕ → ℕ → S
parity_of link stream t j i = parity link (past link stream t) j i

-- two streams added up, symbol by symbol
abbrev pub added : {F S : Type 0} → Link F S → Stream S → Stream S → Stream S
added link one other t k i = link.operations.symbols.plus (one t k i) (other t k i)

-- zero throughout, but for symbol i of sub-symbol k of the packet of slot t, which is x
abbrev pub lone : {F S : Type 0} → Link F S → ℕ → ℕ → ℕ → S → Stream S
lone link t k i x s l n = if s == t && (l == k && n == i) then x else link.operations.symbols.zero

-- the packets of the slots r, g + r, 2g + r and so on, as a stream of their own
abbrev pub every : {S : Type 0} → ℕ → ℕ → Stream S → Stream S
every g r stream t = stream (t * g + r)
