-- Worked examples: the plan B=1, m=2, α=2, L=1 in byte arithmetic, and the stream (1,2) (3,4) (5,6) and so on. Its parity of
-- slot t is x₀[t-2] + x₁[t-1] + x₀[t-4] + x₁[t-5].
use Rattle.std.specs.Prelude.{◌≡◌, ℕ, ◌+◌, ◌*◌, List, [], ◌∷◌}
use Rattle.byte.specs.declared.element.Byte.{Byte}
use Rattle.byte.specs.declared.symbol.ByteSymbol.{ByteSymbol}
use Rattle.byte.specs.Arithmetic.{byte_operations}
use Rattle.byte.specs.Symbols.{symbol}
use Rattle.word.specs.declared.bit.Bit.{Bit}
use Rattle.word.specs.declared.element.Word.{Word}
use Rattle.word.specs.Arithmetic.{word_operations}
use Rattle.word.specs.Words.{word}
use Rattle.codes.specs.Link.{Link}
use Rattle.plan.specs.Numbers.{PlanNumbers}
use Rattle.plan.specs.Codes.{plan_link}
use Rattle.plan.specs.declared.card.ArithmeticName.TheVariants
use Rattle.streams.specs.Streams.{Stream, Sends, HasHistory}
use Rattle.streams.specs.Logs.{Agrees}
use Rattle.streams.specs.Logs.Log.{none, lost, heard}

-- the plan, and what both ends agree on
abbrev pub plan : PlanNumbers
plan = record { burst = 1; width = 2; stretch = 2; symbols = 1; arithmetic = TheVariants.Byte }

abbrev pub link : Link Byte ByteSymbol
link = plan_link byte_operations plan

-- the stream of the examples
abbrev pub counting : Stream ByteSymbol
counting t k i = symbol (2 * t + k + 1)

-- a packet of two bytes, with its parity
abbrev pub block : ℕ → ℕ → ℕ → List ByteSymbol
block a b p = symbol a ∷ symbol b ∷ symbol p ∷ []

-- the plan B=1, m=1, α=1, L=1 in word arithmetic: its parity of slot t is x₀[t-1]
abbrev pub word_plan : PlanNumbers
word_plan = record { burst = 1; width = 1; stretch = 1; symbols = 1; arithmetic = TheVariants.Word }

abbrev pub word_link : Link Bit Word
word_link = plan_link word_operations word_plan

-- the words 01020304, 05060708 and so on
abbrev pub words : Stream Word
words t k i = word (0x01020304 + 0x04040404 * t)

-- the history of five packets at slot 2: below slot 0 all is zero
abbrev pub history : List ByteSymbol
history =
    symbol 0 ∷ symbol 0 ∷ symbol 0 ∷ symbol 0 ∷ symbol 0 ∷ symbol 0
    ∷ symbol 1 ∷ symbol 2 ∷ symbol 3 ∷ symbol 4 ∷ []

pub record StreamExamples : Type 0 where
  -- the blocks of slots 0 to 5
  pub slot_0 : Sends link counting 0 (block 1 2 0)
  pub slot_1 : Sends link counting 1 (block 3 4 2)
  pub slot_2 : Sends link counting 2 (block 5 6 5)
  pub slot_3 : Sends link counting 3 (block 7 8 5)
  pub slot_4 : Sends link counting 4 (block 9 10 12)
  pub slot_5 : Sends link counting 5 (block 11 12 12)
  -- and no other block in slot 1
  pub only : (other : List ByteSymbol) → Sends link counting 1 other → other ≡ block 3 4 2
  -- the stream agrees with the log of its own blocks, whichever were lost
  pub both : Agrees link (heard (heard none (block 1 2 0)) (block 3 4 2)) counting
  pub second : Agrees link (heard (lost none) (block 3 4 2)) counting
  -- where slot 0 was heard, no stream agrees with the other parity in slot 1; where it was lost, some stream does
  pub against : (stream : Stream ByteSymbol)
      → Agrees link (heard (heard none (block 1 2 0)) (block 3 4 3)) stream → ⊥
  pub for_some : (stream : Stream ByteSymbol) × Agrees link (heard (lost none) (block 3 4 3)) stream
  -- before slot 2 it has this history
  pub before_slot_2 : HasHistory link counting 2 history
  -- in word arithmetic: the blocks of slots 0 and 1
  pub word_slot_0 : Sends word_link words 0 (word 0x01020304 ∷ word 0 ∷ [])
  pub word_slot_1 : Sends word_link words 1 (word 0x05060708 ∷ word 0x01020304 ∷ [])
