-- Checks run in a fixed order, and the first that fails decides with which number a call is refused.
use Rattle.std.specs.Prelude.{ℕ, Bool, true, false, Some, None, Ok, Err, Option, Result}
use Rattle.refusal.specs.declared.Refusal.{Refusal}
use Rattle.refusal.specs.Number.{number_of}

-- refused with this number where the test says so, else whatever the later checks say
abbrev pub refused : Bool → ℕ → Option ℕ → Option ℕ
refused true number later = Some number
refused false number later = later

-- no check is left: the call is carried out
abbrev pub accepted : Option ℕ
accepted = None

-- the number that a call was refused with, if it was refused
abbrev pub refused_with : {X : Type 0} → Result X Refusal → Option ℕ
refused_with (Ok _) = None
refused_with (Err why) = Some (number_of why)
