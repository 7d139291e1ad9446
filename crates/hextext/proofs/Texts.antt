-- Symbols grow piece by piece as their text is read. Assumes nothing.
use Rattle.std.proofs.Common.{◌≡◌, ℕ, zero, suc, refl, ◌+◌, ◌*◌, ◌<◌, ◌≤◌, true, List, [], ◌∷◌, ◌++◌, length, get_or, take, drop, set, sym, ap, ◌∙◌, arith}
use Rattle.std.specs.List.{flat_map}
use Rattle.std.specs.Simd.{first_chunks}
use Rattle.std.proofs.lemmas.List.{append_assoc, get_or-drop, get_or-take, flat_map_more, take_more, take_more_set}
use Rattle.arithmetic.specs.Operations.{Bytes}
use Rattle.hextext.specs.Digits.{all_digits, byte_text, is_hex_digit}
use Rattle.hextext.specs.Packet.{symbol_text, packet_text}
use Rattle.hextext.proofs.Checks.{digit_at}

-- two elements more
take_two : (xs : List ℕ) (i : ℕ) → i + 1 < length xs → take (i + 2) xs ≡ take i xs ++ get_or xs i 0 ∷ get_or xs (i + 1) 0 ∷ []
take_two xs i within =
    let e : i + 2 ≡ i + 1 + 1 = omega arith in
    rw e
    (take_more xs (i + 1) 0 within ∙ ap (λ (l : List ℕ). l ++ get_or xs (i + 1) 0 ∷ []) (take_more xs i 0 (omega arith))
    ∙ append_assoc (take i xs) (get_or xs i 0 ∷ []) (get_or xs (i + 1) 0 ∷ []))

-- digit j of pair i stands at p
pub pair_digit : (text : List ℕ) (k i j p : ℕ) → i < k → j < 2 → p ≡ 2 * i + j → get_or (get_or (first_chunks 2 k text) i []) j 0 ≡ get_or text p 0
pair_digit text zero i j p within two is = absurd (omega arith)
pair_digit text (suc k) zero j p within two is =
    let e : j ≡ p = omega arith in
    get_or-take 2 text j 0 two ∙ ap (λ n. get_or text n 0) e
pair_digit text (suc k) (suc i) j p within two is =
    let e : 2 + (2 * i + j) ≡ p = omega arith in
    pair_digit (drop 2 text) k i j (2 * i + j) (omega arith) two refl ∙ get_or-drop 2 text (2 * i + j) 0 ∙ ap (λ n. get_or text n 0) e

-- each digit of a pair is one, where all of the text are
pub pair_of_digits : (text : List ℕ) (k i j : ℕ) → all_digits text ≡ true → k * 2 ≤ length text → i < k → j < 2
    → is_hex_digit (get_or (get_or (first_chunks 2 k text) i []) j 0) ≡ true
pair_of_digits text k i j all fits within two =
    ap is_hex_digit (pair_digit text k i j (2 * i + j) within two refl) ∙ digit_at text (2 * i + j) all (omega arith)

-- a loop's turn: byte i is written into its place, and has the next two digits
pub read_more : (bytes text : List ℕ) (i byte : ℕ) → i < length bytes → 2 * i + 1 < length text
    → byte_text byte ≡ get_or text (2 * i) 0 ∷ get_or text (2 * i + 1) 0 ∷ []
    → flat_map byte_text (take i bytes) ≡ take (2 * i) text
    → flat_map byte_text (take (i + 1) (set bytes i byte)) ≡ take (2 * (i + 1)) text
read_more bytes text i byte room within is old =
    let e : 2 * (i + 1) ≡ 2 * i + 2 = omega arith in
    ap (flat_map byte_text) (take_more_set bytes i byte room) ∙ sym (flat_map_more byte_text [] (take i bytes) byte)
    ∙ ap (λ (l : List ℕ). l ++ byte_text byte) old ∙ ap (λ (l : List ℕ). take (2 * i) text ++ l) is
    ∙ sym (rw e (take_two text (2 * i) within))

module _ {S : Type 0} (b : Bytes S) where
  -- a loop's turn: the symbol that was read has the digits that come next
  pub packet_more : (text was front rest : List ℕ) (xs ys : List S) (x : S) → packet_text b xs ++ was ≡ text → was ≡ front ++ rest
      → symbol_text b x ≡ front → ys ≡ xs ++ x ∷ [] → packet_text b ys ++ rest ≡ text
  packet_more text was front rest xs ys x old apart is are =
      let more : packet_text b ys ≡ packet_text b xs ++ front =
      ap (packet_text b) are ∙ sym (flat_map_more (symbol_text b) [] xs x) ∙ ap (λ (l : List ℕ). packet_text b xs ++ l) is in
      ap (λ (l : List ℕ). l ++ rest) more ∙ append_assoc (packet_text b xs) front rest
      ∙ ap (λ (l : List ℕ). packet_text b xs ++ l) (sym apart) ∙ old
