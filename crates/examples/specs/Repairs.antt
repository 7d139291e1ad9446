-- Worked examples: losses that a plan allows, and others that it does not; packets that are known
-- in time; and packets that are not known: a slot before they are due, and, on links whose delay
-- is another, when they are due, or ever.
use Rattle.std.specs.Prelude.{◌≡◌, ℕ, zero, suc, ◌+◌, ◌<◌, List, [], ◌∷◌}
use Rattle.byte.specs.declared.element.Byte.{Byte}
use Rattle.byte.specs.declared.symbol.ByteSymbol.{ByteSymbol}
use Rattle.byte.specs.Arithmetic.{byte_operations}
use Rattle.byte.specs.Field.{byte_sums, byte_products}
use Rattle.byte.specs.Symbols.{symbol}
use Rattle.codes.specs.Link.{Link}
use Rattle.codes.specs.Coefficients.{main_shape, main_coefficients, back_shape, back_coefficients}
use Rattle.codes.specs.Coefficients.{overlay_shape, overlay, spread_shape, spread}
use Rattle.plan.specs.Numbers.{PlanNumbers, IsPlan}
use Rattle.plan.specs.Codes.{plan_link}
use Rattle.streams.specs.Streams.{Stream}
use Rattle.streams.specs.Logs.{Log, settled, was_lost, Agrees, AllShare, TwoDiffer}
use Rattle.streams.specs.Logs.Log.{none, lost, heard}
use Rattle.repair.specs.Losses.{LossRun, Short, Long, short_deadline, deadline, AllowsLog}
use Rattle.examples.specs.Listed.{packets, singles}
use Rattle.examples.specs.Streams.{plan, link, counting, block}

-- what was heard of a link in byte arithmetic
abbrev pub ByteLog : Type 0
ByteLog = Log ByteSymbol

-- so many slots more were lost
abbrev pub more_lost : ℕ → ByteLog → ByteLog
more_lost zero log = log
more_lost (suc n) log = lost (more_lost n log)

-- in so many slots more this block was heard
abbrev pub more_heard : ℕ → List ByteSymbol → ByteLog → ByteLog
more_heard zero same log = log
more_heard (suc n) same log = heard (more_heard n same log) same

-- the stream of zeros
abbrev pub zeros : Stream ByteSymbol
zeros t k i = symbol 0

-- the plan B, m, α of these numbers, L=1 in byte arithmetic
abbrev pub byte_plan : ℕ → ℕ → ℕ → PlanNumbers
byte_plan b m α = record plan { burst = b; width = m; stretch = α }

-- the coefficients of a main diagonal of width m, and of a back diagonal of width m and step g
abbrev pub main : ℕ → ℕ → ℕ → ℕ → Byte
main m j a k = main_coefficients byte_sums byte_products m j a k

abbrev pub back : ℕ → ℕ → ℕ → ℕ → ℕ → Byte
back m g j a k = back_coefficients byte_sums byte_products m g j a k

-- of the plan of the streams' examples T is 2 and D is 5. Of the stream that counts slot 0 was
-- lost, and slot 1 was heard
abbrev pub up_to_1 : ByteLog
up_to_1 = heard (lost none) (block 3 4 2)

-- then slot 2 was heard
abbrev pub up_to_2 : ByteLog
up_to_2 = heard up_to_1 (block 5 6 5)

-- then slots 3 and 4 were lost
abbrev pub up_to_4 : ByteLog
up_to_4 = more_lost 2 up_to_2

-- then slots 5 and 6 were heard
abbrev pub up_to_6 : ByteLog
up_to_6 = heard (heard up_to_4 (block 11 12 12)) (block 13 14 4)

-- then slots 7 and 8 were heard
abbrev pub up_to_8 : ByteLog
up_to_8 = heard (heard up_to_6 (block 15 16 4)) (block 17 18 28)

-- then slot 9 was heard, and slot 10 was lost
abbrev pub up_to_10 : ByteLog
up_to_10 = lost (heard up_to_8 (block 19 20 28))

-- a slot before T, on the same link: slot 0 was lost, and slot 1 was heard as zeros
abbrev pub before_2 : ByteLog
before_2 = heard (lost none) (block 0 0 0)

-- besides the stream of zeros that of the packet (1,0), and then zeros, agrees
abbrev pub first_one : Stream ByteSymbol
first_one = packets 1 (1 ∷ 0 ∷ [])

-- the plan B=1, m=1, α=2, of which T is 1 and D is 3. Its parity of slot t is x₀[t-1] + x₀[t-3]
abbrev pub single_plan : PlanNumbers
single_plan = byte_plan 1 1 2

abbrev pub single_link : Link Byte ByteSymbol
single_link = plan_link byte_operations single_plan

-- a packet of one byte, with its parity
abbrev pub single : ℕ → ℕ → List ByteSymbol
single a p = symbol a ∷ symbol p ∷ []

-- a slot before D: slots 0 and 1 were lost, and slot 2 was heard as zeros
abbrev pub before_3 : ByteLog
before_3 = heard (more_lost 2 none) (single 0 0)

-- besides the stream of zeros that with 1 in slot 0 agrees
abbrev pub single_one : Stream ByteSymbol
single_one = singles (1 ∷ [])

-- the plan B=1, m=1, α=3, of which T is 1 and D is 4
abbrev pub longer_plan : PlanNumbers
longer_plan = byte_plan 1 1 3

-- its link, but with the back diagonal delayed by m slots in place of m + 1: the parity of slot t
-- is x₀[t-1] + x₀[t-3]
abbrev pub early_link : Link Byte ByteSymbol
early_link = record {
  operations = byte_operations;
  shape = spread_shape (overlay_shape (main_shape 1) (back_shape 1 2) 1) 1;
  coefficients = spread byte_sums (overlay byte_sums (main 1) (back 1 2) 1) 1;
  symbols = 1;
}

-- slots 0 to 2 were lost, and slots 3 and 4 were heard as zeros
abbrev pub past_4 : ByteLog
past_4 = more_heard 2 (single 0 0) (more_lost 3 none)

-- besides the stream of zeros that with 1 in slots 0 and 2 agrees
abbrev pub two_ones : Stream ByteSymbol
two_ones = singles (1 ∷ 0 ∷ 1 ∷ [])

-- the plan B=2, m=2, α=2, of which T is 4 and D is 10
abbrev pub wider_plan : PlanNumbers
wider_plan = byte_plan 2 2 2

-- its link, but with each diagonal spread by B before one is delayed by m + 1, so that the delay is
-- not spread: the parity of slot t is x₀[t-4] + x₁[t-2] + x₀[t-5] + x₁[t-7]
abbrev pub unspread_link : Link Byte ByteSymbol
unspread_link = record {
  operations = byte_operations;
  shape = overlay_shape (spread_shape (main_shape 2) 2) (spread_shape (back_shape 2 1) 2) 3;
  coefficients = overlay byte_sums (spread byte_sums (main 2) 2) (spread byte_sums (back 2 1) 2) 3;
  symbols = 1;
}

-- slots 0 to 3 were lost, and in so many slots from slot 4 on zeros were heard
abbrev pub from_4 : ℕ → ByteLog
from_4 count = more_heard count (block 0 0 0) (more_lost 4 none)

-- besides the stream of zeros that of the packets (0,1) (0,1) (0,0) (1,0), and then zeros, agrees
abbrev pub three_ones : Stream ByteSymbol
three_ones = packets 1 (0 ∷ 1 ∷ 0 ∷ 1 ∷ 0 ∷ 0 ∷ 1 ∷ 0 ∷ [])

-- of the plan B=2, m=2, α=2: slots 0 and 1 were lost, 2 to 5 heard as zeros, and 6 to 9 lost
abbrev pub drawn_to_9 : ByteLog
drawn_to_9 = more_lost 4 (more_heard 4 (block 0 0 0) (more_lost 2 none))

-- then 10 to 19 were heard as zeros, and slot 20 was lost, as docs/CODES.md draws it
abbrev pub drawn : ByteLog
drawn = lost (more_heard 10 (block 0 0 0) drawn_to_9)

pub record RepairExamples : Type 0 where
  -- the plans of the examples are plans
  pub is_plan : IsPlan plan
  pub is_single : IsPlan single_plan
  pub is_longer : IsPlan longer_plan
  pub is_wider : IsPlan wider_plan
  -- slots 0 to 0 are a run
  pub run_0 : LossRun (was_lost up_to_10) 0 0
  -- it is short
  pub short_0 : Short plan 0 0
  -- slots 3 to 4 are a run
  pub run_3 : LossRun (was_lost up_to_10) 3 4
  -- it is long
  pub long_3 : Long plan 3 4
  -- just T arrivals come between slots 0 and 3, just D between slots 4 and 10: they are enough
  pub enough : AllowsLog plan up_to_10
  -- the stream agrees
  pub agrees : Agrees link up_to_10 counting
  -- so packet 0 is known as soon as slot T is settled, and packet 3 as soon as slot 3 + D is
  pub packet_0 : AllShare link up_to_2 0
  pub packet_3 : AllShare link up_to_8 3
  -- one arrival less behind the short run, where slot 2 is lost, is not enough
  pub few_behind_short : AllowsLog plan (lost up_to_1) → ⊥
  -- nor is one less behind the long run, where slot 9 is lost
  pub few_behind_long : AllowsLog plan (lost up_to_8) → ⊥
  -- a run of three, where slot 5 is lost too, is too long
  pub three_lost : AllowsLog plan (lost up_to_4) → ⊥
  -- a run of one is not long
  pub one_is_short : Long plan 0 0 → ⊥
  -- where B is 2, a run of two is short, and one of four is long
  pub drawn_allowed : AllowsLog wider_plan drawn
  -- the plan allows the loss of slot 0 alone
  pub short_allowed : AllowsLog plan before_2
  -- the slot T after slot 0 comes next
  pub short_next : settled before_2 ≡ 0 + short_deadline plan
  -- and packet 0, of a short run, is not known yet: T is tight
  pub short_unknown : TwoDiffer link before_2 0
  -- the plan allows the losses of slots 0 and 1
  pub long_allowed : AllowsLog single_plan before_3
  -- the slot D after slot 0 comes next
  pub long_next : settled before_3 ≡ 0 + deadline single_plan
  -- and packet 0 is not known yet: D is tight
  pub long_unknown : TwoDiffer single_link before_3 0
  -- the plan allows the losses of slots 0 to 2
  pub early_allowed : AllowsLog longer_plan past_4
  -- the slot D after slot 0 is settled
  pub early_settled : 0 + deadline longer_plan < settled past_4
  -- and packet 0 is not known where the delay is m in place of m + 1
  pub early_unknown : TwoDiffer early_link past_4 0
  -- the plan allows the losses of slots 0 to 3
  pub unspread_allowed : (count : ℕ) → AllowsLog wider_plan (from_4 count)
  -- and packet 0 is never known where the delay is not spread, however many slots are settled
  pub unspread_unknown : (count : ℕ) → TwoDiffer unspread_link (from_4 count) 0
