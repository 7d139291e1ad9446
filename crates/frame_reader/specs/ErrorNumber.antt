-- Why a frame was not read, by the number that it is refused with and the word at fault.
use Rattle.std.specs.Prelude.{ℕ, Some, None, Ok, Err, Option, Result}
use Rattle.refusal.specs.Number.{number_of}
use Rattle.layout.specs.FaultNumber.{Fault, fault_of}
use Rattle.frame_reader.specs.declared.error.ReadError.{ReadError}
use Rattle.frame_reader.specs.declared.error.ReadError.TheVariants.{Frame, Refused}

-- why a frame was not read: the refusal's number, and the word at fault, counted from 0. There is a word just where the frame
-- itself is at fault, and none where the frame is in order and this call cannot take it
pub record Failure : Type 0 where
  pub number : ℕ
  pub word : Option ℕ

-- the frame is at fault
abbrev pub of_frame : Fault → Failure
of_frame fault = record { number = fault.number; word = Some fault.word }

-- the call is refused with this number
abbrev pub of_call : ℕ → Failure
of_call number = record { number = number; word = None }

-- the number of each case, and the word of a fault
abbrev pub failure_of : ReadError → Failure
failure_of (Frame fault) = of_frame (fault_of fault)
failure_of (Refused refusal) = of_call (number_of refusal)

-- why a call did not read a frame, if it did not
abbrev pub failed_with : {X : Type 0} → Result X ReadError → Option Failure
failed_with (Ok _) = None
failed_with (Err error) = Some (failure_of error)
