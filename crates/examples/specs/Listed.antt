-- Symbols and streams in byte arithmetic, by their numbers.
use Rattle.std.specs.Prelude.{ℕ, ◌+◌, ◌*◌, List, map, slice_index}
use Rattle.byte.specs.declared.symbol.ByteSymbol.{ByteSymbol}
use Rattle.byte.specs.Symbols.{symbol}
use Rattle.streams.specs.Streams.{Stream}

-- each symbol by its number
abbrev pub symbols : List ℕ → List ByteSymbol
symbols numbers = map symbol numbers

-- packets of two sub-symbols of l symbols each, one packet behind the other, and zeros behind the last
abbrev pub packets : ℕ → List ℕ → Stream ByteSymbol
packets l numbers t k i = symbol (slice_index numbers ((t * 2 + k) * l + i))

-- packets of one sub-symbol of one symbol, and zeros behind the last
abbrev pub singles : List ℕ → Stream ByteSymbol
singles numbers t k i = symbol (slice_index numbers t)
