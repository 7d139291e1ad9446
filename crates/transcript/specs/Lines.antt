-- The packets of a link, a line each. Assumes nothing.
use Rattle.std.specs.Prelude.{◌≡◌, ℕ, ◌+◌, ◌*◌, not, ◌||◌, List, [], ◌∷◌, length, take, Some, None, Ok, Err, vec_items, vec_len, Option, Result, ◌==◌, nat_lt}
use Rattle.std.specs.Global.{Vec}
use Rattle.refusal.specs.declared.Refusal.{Refusal}
use Rattle.refusal.specs.Number.{number_of}
use Rattle.refusal.specs.Order.{refused, accepted}
use Rattle.arithmetic.specs.Operations.{Bytes}
use Rattle.codes.specs.Shape.{packet_size, last_slot}
use Rattle.codes.specs.Link.{Link}
use Rattle.hextext.specs.declared.error.ReadError.{ReadError}
use Rattle.hextext.specs.declared.error.ReadError.TheVariants.{Refused, NoMemory}
use Rattle.hextext.specs.Digits.{all_hex_digits}
use Rattle.hextext.specs.Packet.{packet_text}
use Rattle.linktext.specs.PlanLine.{longest}

-- a line that is no packet of so many symbols for this slot: its form first, then the slot's limit, then its length
abbrev pub line_refusal : ℕ → ℕ → ℕ → List ℕ → Option ℕ
line_refusal width size slot line =
    refused (nat_lt longest (length line) || not (all_hex_digits line)) 10
    (refused (nat_lt last_slot slot) 1
    (refused (not (length line == 2 * width * size)) 4 accepted))

-- what reading such a line answers; where memory runs out, nothing is said of the line
abbrev pub LineReads : {S : Type 0} → Bytes S → ℕ → ℕ → List ℕ → Result (Vec S) ReadError → Type 0
LineReads b size slot line (Ok xs) =
    (line_refusal b.width size slot line ≡ None) × (packet_text b (vec_items xs) ≡ line) × (vec_len xs ≡ size)
LineReads b size slot line (Err (Refused why)) = line_refusal b.width size slot line ≡ Some (number_of why)
LineReads b size slot line (Err NoMemory) = Unit {0}

-- the packet that a block begins with
abbrev pub packet_in : {F S : Type 0} → Link F S → List S → List S
packet_in link block = take (packet_size link.shape link.symbols) block

-- each line from this slot on is the text of the packet that a block begins with; the first line that is refused ends them
pub data HandedIn {F S : Type 0} (link : Link F S) (b : Bytes S)
    : ℕ → List (List ℕ) → List (List S) → Option Refusal → Type 0 where
  ended : {slot : ℕ} → HandedIn link b slot [] [] None
  stopped : {slot : ℕ} {line : List ℕ} {lines : List (List ℕ)} (why : Refusal)
      → line_refusal b.width (packet_size link.shape link.symbols) slot line ≡ Some (number_of why)
      → HandedIn link b slot (line ∷ lines) [] (Some why)
  taken : {slot : ℕ} {line : List ℕ} {lines : List (List ℕ)} {blocks : List (List S)} {stop : Option Refusal}
      (block : List S)
      → line_refusal b.width (packet_size link.shape link.symbols) slot line ≡ None
      → packet_text b (packet_in link block) ≡ line
      → HandedIn link b (slot + 1) lines blocks stop
      → HandedIn link b slot (line ∷ lines) (block ∷ blocks) stop
