-- How long the text of a packet is, and so which lines are refused for their length. Assumes nothing.
use Rattle.std.proofs.Common.{◌≡◌, ℕ, ◌*◌, ◌<◌, ◌≤◌, List, [], ◌∷◌, length, Some, None, sym, refl, ap, ◌∙◌, mul-zero, mul-suc, arith, rules, tests, length-append}
use Rattle.std.proofs.Math.Nat.{eq_of_mul-eq-mul_left}
use Rattle.linktext.specs.PlanLine.{longest}
use Rattle.codes.specs.Shape.{last_slot}
use Rattle.transcript.specs.Lines.{line_refusal}
use Rattle.std.specs.List.{flat_map}
use Rattle.arithmetic.specs.Laws.{ByteLaws}
use Rattle.arithmetic.specs.Operations.{Bytes}
use Rattle.hextext.specs.Digits.{byte_text}
use Rattle.hextext.specs.Packet.{symbol_text, packet_text, packet_refusal}

length_bytes : (ns : List ℕ) → length (flat_map byte_text ns) ≡ 2 * length ns
length_bytes [] = refl
length_bytes (n ∷ ns) = let more = length_bytes ns in omega arith

pub length_packet : {S : Type 0} (b : Bytes S) → ByteLaws b → (xs : List S) → length (packet_text b xs) ≡ 2 * b.width * length xs
length_packet b laws [] = sym (mul-zero (2 * b.width))
length_packet b laws (x ∷ xs) =
    let one : length (symbol_text b x) ≡ 2 * b.width = length_bytes (b.write x) ∙ ap (λ m. 2 * m) (laws.long x) in
    let all = length-append (symbol_text b x) (packet_text b xs) in
    let more = length_packet b laws xs in
    omega (arith, mul-suc (2 * b.width) (length xs))

-- a line that is a packet's text, for a slot that there is: its length decides
module _ {S : Type 0} (b : Bytes S) (laws : ByteLaws b) (size slot : ℕ) (line : List ℕ) (xs : List S)
    (short : length line ≤ longest) (there : slot ≤ last_slot) (read : packet_refusal b line ≡ None) (text : packet_text b xs ≡ line) where
  long : length line ≡ 2 * b.width * length xs
  long = ap length (sym text) ∙ length_packet b laws xs

  pub line_other : (length xs ≡ size → ⊥) → line_refusal b.width size slot line ≡ Some 4
  line_other other =
      let some : 0 < 2 * b.width = omega (arith, laws.widths) in
      let differs : length line ≡ 2 * b.width * size → ⊥ = λ e. other (eq_of_mul-eq-mul_left (2 * b.width) some (length xs) size (sym long ∙ e)) in
      search (rules, tests)

  pub line_whole : length xs ≡ size → line_refusal b.width size slot line ≡ None
  line_whole same =
      let is : length line ≡ 2 * b.width * size = rw same at long in
      search (rules, tests)
