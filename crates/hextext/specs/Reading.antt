-- What reading a packet answers. Assumes nothing.
use Rattle.std.specs.Prelude.{◌≡◌, ℕ, List, Some, None, Ok, Err, vec_items, Result}
use Rattle.std.specs.Global.{Vec}
use Rattle.refusal.specs.Number.{number_of}
use Rattle.arithmetic.specs.Operations.{Bytes}
use Rattle.hextext.specs.declared.error.ReadError.{ReadError}
use Rattle.hextext.specs.declared.error.ReadError.TheVariants.{Refused, NoMemory}
use Rattle.hextext.specs.Packet.{packet_text, packet_refusal}

-- symbols with this text, or the first fault that the text has, or no memory for the symbols of a text without one
abbrev pub Reads : {S : Type 0} → Bytes S → List ℕ → Result (Vec S) ReadError → Type 0
Reads b text (Ok xs) = (packet_refusal b text ≡ None) × (packet_text b (vec_items xs) ≡ text)
Reads b text (Err (Refused why)) = packet_refusal b text ≡ Some (number_of why)
Reads b text (Err NoMemory) = packet_refusal b text ≡ None
