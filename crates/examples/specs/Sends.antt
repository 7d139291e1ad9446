-- Worked examples: sends over the plan of the streams' examples, one after the other.
use Rattle.std.specs.Prelude.{◌≡◌, ℕ, List, [], ◌∷◌, map, replicate}
use Rattle.byte.specs.declared.element.Byte.{Byte}
use Rattle.byte.specs.declared.symbol.ByteSymbol.{ByteSymbol}
use Rattle.byte.specs.Arithmetic.{byte_operations}
use Rattle.byte.specs.Symbols.{symbol, value_of_symbol}
use Rattle.fills.specs.Over.{written_over}
use Rattle.codes.specs.Link.{Link}
use Rattle.plan.specs.Numbers.{PlanNumbers}
use Rattle.plan.specs.Codes.{plan_link}
use Rattle.sender.specs.Block.{zero_history, block_of, history_after}
use Rattle.sender.specs.Sending.{block_in}
use Rattle.sender.specs.Runs.{Run}
use Rattle.examples.specs.Streams.{plan, link}
use Rattle.examples.specs.Listed.{symbols}

-- the link of a plan, which stands for its code, and L
abbrev pub link_by : PlanNumbers → ℕ → Link Byte ByteSymbol
link_by p l = plan_link byte_operations (record p { symbols = l })

abbrev pub first_packet : List ByteSymbol
first_packet = symbols (1 ∷ 2 ∷ [])

abbrev pub second_packet : List ByteSymbol
second_packet = symbols (3 ∷ 4 ∷ [])

-- the history before both, between them, and after both
abbrev pub before : List ByteSymbol
before = zero_history link

abbrev pub between : List ByteSymbol
between = history_after link before first_packet

abbrev pub after : List ByteSymbol
after = history_after link between second_packet

-- an output of so many bytes, before and after a send
abbrev pub unwritten : ℕ → List ByteSymbol
unwritten long = replicate long (symbol 255)

abbrev pub written : ℕ → List ByteSymbol → List ByteSymbol → List ByteSymbol
written long history packet = written_over (block_of link history packet) (unwritten long)

abbrev pub first_out : List ByteSymbol
first_out = written 3 before first_packet

abbrev pub second_out : List ByteSymbol
second_out = written 5 between second_packet

-- a sender is made; the first packet is sent; a send that is lent no history is refused; the second packet is sent, into a
-- longer output
abbrev pub SomeRun : Type 0
SomeRun =
    Run link_by plan 1
    (record { packet = second_packet; block = block_in link second_out }
    ∷ record { packet = first_packet; block = block_in link first_out } ∷ [])
    (record { code = plan; symbols = 1; next = 2 })
    after

-- it is a run; and the values of the symbols that it leaves
pub record RunExamples : Type 0 where
  pub run : SomeRun
  pub first_left : map value_of_symbol first_out ≡ 1 ∷ 2 ∷ 0 ∷ []
  pub second_left : map value_of_symbol second_out ≡ 3 ∷ 4 ∷ 2 ∷ 255 ∷ 255 ∷ []
  pub history_between : map value_of_symbol between ≡ 0 ∷ 0 ∷ 0 ∷ 0 ∷ 0 ∷ 0 ∷ 0 ∷ 0 ∷ 1 ∷ 2 ∷ []
  pub history_after_both : map value_of_symbol after ≡ 0 ∷ 0 ∷ 0 ∷ 0 ∷ 0 ∷ 0 ∷ 1 ∷ 2 ∷ 3 ∷ 4 ∷ []
