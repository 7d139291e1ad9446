-- What is wrong with a frame, by the number that it is refused with and the word at fault.
use Rattle.std.specs.Prelude.{ℕ, Some, None, Ok, Err, Option, Result}
use Rattle.layout.specs.declared.fault.FrameFault.{FrameFault}
use Rattle.layout.specs.declared.fault.FrameFault.TheVariants.{EndsEarly, OtherKind, WrongBits}

-- a fault of a frame: the refusal's number, which is 6, 7 or 8, and the word at fault, counted from 0
pub record Fault : Type 0 where
  pub number : ℕ
  pub word : ℕ

-- the number and the word of each case
abbrev pub fault_of : FrameFault → Fault
fault_of (EndsEarly i) = record { number = 6; word = i }
fault_of (OtherKind i) = record { number = 7; word = i }
fault_of (WrongBits i) = record { number = 8; word = i }

-- the fault that a call found, if it found one
abbrev pub faulted_with : {X : Type 0} → Result X FrameFault → Option Fault
faulted_with (Ok _) = None
faulted_with (Err fault) = Some (fault_of fault)
