-- Worked examples: a table of eight coefficients, K=2, P=2, M=1. With x₀ and x₁ for the two sub-symbols of a packet,
-- parity 0 of slot t is 2·x₀[t] + 3·x₁[t] + 142·x₀[t-1] + 29·x₁[t-1],
-- parity 1 of slot t is 128·x₀[t] + 7·x₁[t] + 76·x₀[t-1] + 255·x₁[t-1].
use Rattle.std.specs.Prelude.{◌≡◌, ℕ, List, [], ◌∷◌, Some}
use Rattle.refusal.specs.Order.{accepted}
use Rattle.byte.specs.declared.element.Byte.{Byte}
use Rattle.byte.specs.declared.symbol.ByteSymbol.{ByteSymbol}
use Rattle.byte.specs.Arithmetic.{byte_operations}
use Rattle.codes.specs.Shape.{Shape}
use Rattle.codes.specs.Link.{Link}
use Rattle.table.specs.Table.{table_shape, place, table_coefficients, table_refusal}
use Rattle.streams.specs.Streams.{Stream, Sends}
use Rattle.examples.specs.Listed.{symbols, packets}

-- its bytes: parity by parity, in it age by age, in it sub-symbol by sub-symbol
abbrev pub table : List ℕ
table = 2 ∷ 3 ∷ 142 ∷ 29 ∷ 128 ∷ 7 ∷ 76 ∷ 255 ∷ []

abbrev pub shape : Shape
shape = table_shape 2 2 1

-- c(j, a, k) as the table has it
abbrev pub coefficient : ℕ → ℕ → ℕ → Byte
coefficient j a k = table_coefficients shape table j a k

-- the link that is run by the table, with l symbols to a sub-symbol
abbrev pub link : ℕ → Link Byte ByteSymbol
link l = record {
  operations = byte_operations;
  shape = shape;
  coefficients = coefficient;
  symbols = l;
}

-- a stream of packets of two symbols, and one of packets of four
abbrev pub narrow : Stream ByteSymbol
narrow = packets 1 (142 ∷ 200 ∷ 3 ∷ 128 ∷ 255 ∷ 1 ∷ [])

abbrev pub wide : Stream ByteSymbol
wide = packets 2 (142 ∷ 1 ∷ 200 ∷ 2 ∷ 3 ∷ 4 ∷ 128 ∷ 64 ∷ 255 ∷ 16 ∷ 1 ∷ 170 ∷ [])

pub record TableExamples : Type 0 where
  -- where a coefficient stands, by parity, age and sub-symbol
  pub place_0_1_0 : place shape 0 1 0 ≡ 2
  pub place_1_0_1 : place shape 1 0 1 ≡ 5
  -- and what stands there
  pub at_0_0_1 : (coefficient 0 0 1).value ≡ 3
  pub at_0_1_0 : (coefficient 0 1 0).value ≡ 142
  pub at_1_0_1 : (coefficient 1 0 1).value ≡ 7
  pub at_1_1_0 : (coefficient 1 1 0).value ≡ 76
  -- zero outside the shape, also where the place that is worked out lies in the table
  pub no_parity : (coefficient 2 0 0).value ≡ 0
  pub no_age : (coefficient 0 2 0).value ≡ 0
  pub no_sub : (coefficient 0 0 2).value ≡ 0
  -- the blocks of slots 0 to 2 with one symbol to a sub-symbol: the packet's two, and one of each parity
  pub narrow_0 : Sends (link 1) narrow 0 (symbols (142 ∷ 200 ∷ 68 ∷ 2 ∷ []))
  pub narrow_1 : Sends (link 1) narrow 1 (symbols (3 ∷ 128 ∷ 1 ∷ 228 ∷ []))
  pub narrow_2 : Sends (link 1) narrow 2 (symbols (255 ∷ 1 ∷ 73 ∷ 211 ∷ []))
  -- and with two: the packet's four, and two of each parity
  pub wide_0 : Sends (link 2) wide 0 (symbols (142 ∷ 1 ∷ 200 ∷ 2 ∷ 68 ∷ 4 ∷ 2 ∷ 142 ∷ []))
  pub wide_1 : Sends (link 2) wide 1 (symbols (3 ∷ 4 ∷ 128 ∷ 64 ∷ 1 ∷ 124 ∷ 228 ∷ 72 ∷ []))
  pub wide_2 : Sends (link 2) wide 2 (symbols (255 ∷ 16 ∷ 1 ∷ 170 ∷ 73 ∷ 210 ∷ 211 ∷ 133 ∷ []))
  -- a table of another length is refused, and K, P or M outside its limits before that
  pub right : table_refusal shape 8 ≡ accepted
  pub largest : table_refusal (table_shape 8 4 63) 2048 ≡ accepted
  pub smallest : table_refusal (table_shape 1 1 0) 1 ≡ accepted
  pub shorter : table_refusal shape 7 ≡ Some 4
  pub longer : table_refusal shape 9 ≡ Some 4
  pub no_sources : table_refusal (table_shape 0 2 1) 0 ≡ Some 1
  pub no_parities : table_refusal (table_shape 2 0 1) 0 ≡ Some 1
  pub many_parities : table_refusal (table_shape 2 5 1) 20 ≡ Some 1
  pub long_memory : table_refusal (table_shape 2 2 64) 260 ≡ Some 1
  pub long_memory_and_shorter : table_refusal (table_shape 2 2 64) 8 ≡ Some 1
  pub many_sources : table_refusal (table_shape 9 2 1) 36 ≡ Some 1
  pub many_sources_and_shorter : table_refusal (table_shape 9 2 1) 8 ≡ Some 1
