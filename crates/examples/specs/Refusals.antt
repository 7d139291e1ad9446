-- Worked examples: the number of each refusal, and the numbers that some calls are refused with.
use Rattle.std.specs.Prelude.{◌≡◌, ℕ, List, ◌++◌, Some, Option, codes, replicate}
use Rattle.refusal.specs.declared.Refusal.TheVariants.{OutsideLimits, UnfitShape, ShortMemory, OtherLength, ShortOutput, OtherShape, BrokenLine, SlotBelow, SlotAbove, PacketBelow, PacketAbove, UnkeptMemory, Contradiction}
use Rattle.refusal.specs.Number.{number_of}
use Rattle.refusal.specs.Order.{accepted}
use Rattle.codes.specs.Shape.{Shape}
use Rattle.layout.specs.declared.fault.FrameFault.TheVariants.{EndsEarly, OtherKind, WrongBits}
use Rattle.layout.specs.FaultNumber.{fault_of}
use Rattle.sender.specs.Limits.{making_refusal, send_refusal}
use Rattle.linktext.specs.PlanLine.{plan_line_refusal}
use Rattle.transcript.specs.Lines.{line_refusal}

-- each case has its number
pub record NumberExamples : Type 0 where
  pub outside_limits : number_of OutsideLimits ≡ 1
  pub unfit_shape : number_of UnfitShape ≡ 2
  pub short_memory : number_of ShortMemory ≡ 3
  pub other_length : number_of OtherLength ≡ 4
  pub short_output : number_of ShortOutput ≡ 5
  pub ends_early : (word : ℕ) → fault_of (EndsEarly word) ≡ record { number = 6; word = word }
  pub other_kind : (word : ℕ) → fault_of (OtherKind word) ≡ record { number = 7; word = word }
  pub wrong_bits : (word : ℕ) → fault_of (WrongBits word) ≡ record { number = 8; word = word }
  pub other_shape : number_of OtherShape ≡ 9
  pub broken_line : number_of BrokenLine ≡ 10
  pub slot_below : number_of SlotBelow ≡ 11
  pub slot_above : number_of SlotAbove ≡ 12
  pub packet_below : number_of PacketBelow ≡ 13
  pub packet_above : number_of PacketAbove ≡ 14
  pub unkept_memory : number_of UnkeptMemory ≡ 15
  pub contradiction : number_of Contradiction ≡ 16

-- a code by its K, P and M
abbrev pub shape : ℕ → ℕ → ℕ → Shape
shape k p m = record { sources = k; parities = p; memory = m }

pub record MakingExamples : Type 0 where
  pub largest : making_refusal (shape 8 4 5) 32 ≡ accepted
  pub no_symbols : making_refusal (shape 2 1 5) 0 ≡ Some 1
  pub many_symbols : making_refusal (shape 2 1 5) 33 ≡ Some 1
  pub no_sources : making_refusal (shape 0 1 5) 1 ≡ Some 2
  pub many_sources : making_refusal (shape 9 1 5) 1 ≡ Some 2
  pub no_parities : making_refusal (shape 2 0 5) 1 ≡ Some 2
  pub many_parities : making_refusal (shape 2 5 5) 1 ≡ Some 2
  -- of two faults the one with the lower number
  pub symbols_and_sources : making_refusal (shape 9 1 5) 33 ≡ Some 1

-- a sender of K=2, P=1, M=5, L=1 whose next slot is 4, by the slot and the lengths of history, packet and output: a history is
-- 10 symbols long, a packet 2, a block 3
abbrev pub sending : ℕ → ℕ → ℕ → ℕ → Option ℕ
sending slot history packet out = send_refusal (shape 2 1 5) 1 4 slot history packet out

pub record SendExamples : Type 0 where
  pub right : sending 4 10 2 3 ≡ accepted
  pub longer_memory : sending 4 11 2 9 ≡ accepted
  pub past_the_last_slot : sending 268435456 10 2 3 ≡ Some 1
  pub many_sources : send_refusal (shape 9 1 5) 1 4 4 45 9 10 ≡ Some 2
  pub short_history : sending 4 9 2 3 ≡ Some 3
  pub short_packet : sending 4 10 1 3 ≡ Some 4
  pub long_packet : sending 4 10 3 3 ≡ Some 4
  pub short_output : sending 4 10 2 2 ≡ Some 5
  pub below : sending 3 10 2 3 ≡ Some 11
  pub above : sending 5 10 2 3 ≡ Some 12
  -- of two faults or more the one with the lowest number
  pub past_the_last_slot_and_wide : send_refusal (shape 9 1 5) 1 4 268435456 45 9 10 ≡ Some 1
  pub short_history_and_packet : sending 4 9 1 3 ≡ Some 3
  pub short_packet_and_output : sending 4 10 1 2 ≡ Some 4
  pub short_output_and_below : sending 3 10 2 2 ≡ Some 5
  pub all_but_the_slot : sending 5 0 0 0 ≡ Some 3
  -- the last slot is sent, and what comes after it is below the next one
  pub last_slot : send_refusal (shape 2 1 5) 1 268435455 268435455 10 2 3 ≡ accepted
  pub last_slot_again : send_refusal (shape 2 1 5) 1 268435456 268435455 10 2 3 ≡ Some 11
  -- and what lies behind it is outside the limits, whatever else is wrong
  pub behind : send_refusal (shape 2 1 5) 1 268435456 268435456 10 2 3 ≡ Some 1
  pub behind_with_all_wrong : send_refusal (shape 2 1 5) 1 268435456 268435456 9 1 2 ≡ Some 1

-- so many digits 1
abbrev pub ones : ℕ → List ℕ
ones count = replicate count 49

pub record PlanLineExamples : Type 0 where
  pub right : plan_line_refusal (codes "1 2 2 1 F") ≡ accepted
  pub largest : plan_line_refusal (codes "63 8 8 32 W") ≡ accepted
  pub no_letter : plan_line_refusal (codes "1 2 2 1") ≡ Some 10
  pub leading_zero : plan_line_refusal (codes "01 2 2 1 F") ≡ Some 10
  pub blank_behind : plan_line_refusal (codes "1 2 2 1 F ") ≡ Some 10
  pub no_losses : plan_line_refusal (codes "0 2 2 1 F") ≡ Some 1
  pub many_losses : plan_line_refusal (codes "64 2 2 1 F") ≡ Some 1
  pub many_symbols : plan_line_refusal (codes "1 2 2 33 F") ≡ Some 1
  -- 2^32 + 1
  pub far_too_many : plan_line_refusal (codes "4294967297 2 2 1 F") ≡ Some 1
  -- the form comes first
  pub no_losses_and_other_letter : plan_line_refusal (codes "0 2 2 1 X") ≡ Some 10
  -- a line of 2,050 characters is read, and its number is too large; with one more its form is broken
  pub longest : plan_line_refusal (ones 2042 ++ codes " 2 2 1 F") ≡ Some 1
  pub longer : plan_line_refusal (ones 2043 ++ codes " 2 2 1 F") ≡ Some 10

-- packets of two symbols of a byte, by their slots
pub record PacketLineExamples : Type 0 where
  pub right : line_refusal 1 2 2 (codes "05ff") ≡ accepted
  pub odd : line_refusal 1 2 2 (codes "050") ≡ Some 10
  pub upper_case : line_refusal 1 2 2 (codes "05FF") ≡ Some 10
  pub shorter : line_refusal 1 2 2 (codes "05") ≡ Some 4
  pub longer : line_refusal 1 2 2 (codes "050607") ≡ Some 4
  pub empty : line_refusal 1 2 2 (codes "") ≡ Some 4
  pub last_slot : line_refusal 1 2 268435455 (codes "05ff") ≡ accepted
  -- behind the last slot the form comes first, and the length is not looked at
  pub behind_odd : line_refusal 1 2 268435456 (codes "050") ≡ Some 10
  pub behind_shorter : line_refusal 1 2 268435456 (codes "05") ≡ Some 1
  pub behind_right : line_refusal 1 2 268435456 (codes "05ff") ≡ Some 1
  -- a word has eight digits
  pub word : line_refusal 4 1 2 (codes "01020304") ≡ accepted
  pub half_a_word : line_refusal 4 1 2 (codes "0102") ≡ Some 4

pub record RefusalExamples : Type 0 where
  pub numbers : NumberExamples
  pub making : MakingExamples
  pub sends : SendExamples
  pub plan_lines : PlanLineExamples
  pub packet_lines : PacketLineExamples
