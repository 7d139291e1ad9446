-- The number of each refusal, case by case.
use Rattle.std.specs.Prelude.{ℕ}
use Rattle.refusal.specs.declared.Refusal.{Refusal}
use Rattle.refusal.specs.declared.Refusal.TheVariants.{OutsideLimits, UnfitShape, ShortMemory, OtherLength, ShortOutput, OtherShape, BrokenLine, SlotBelow, SlotAbove, PacketBelow, PacketAbove, UnkeptMemory, Contradiction}

abbrev pub number_of : Refusal → ℕ
number_of OutsideLimits = 1
number_of UnfitShape = 2
number_of ShortMemory = 3
number_of OtherLength = 4
number_of ShortOutput = 5
number_of OtherShape = 9
number_of BrokenLine = 10
number_of SlotBelow = 11
number_of SlotAbove = 12
number_of PacketBelow = 13
number_of PacketAbove = 14
number_of UnkeptMemory = 15
number_of Contradiction = 16
