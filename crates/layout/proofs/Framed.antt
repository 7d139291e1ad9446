-- Bytes with no fault begin with a frame. Assumes nothing.
use Rattle.std.proofs.Common.{◌≡◌, ℕ, zero, suc, ◌+◌, ◌*◌, ◌/◌, ◌%◌, ◌<◌, ◌≤◌, List, ◌++◌, length, get_or, take, drop, None, sym, ap, ◌∙◌, inl, inr, arith}
use Rattle.std.specs.List.{range_with_len, flat_map}
use Rattle.std.proofs.lemmas.List.FromFn.{fill_by_all, length-map-range_with_len, get_or-map-range_with_len}
use Rattle.std.proofs.ByRecursion.{All-map}
use Rattle.std.proofs.lemmas.List.{get_or_past, take-append-drop}
use Rattle.std.proofs.lemmas.Bool.{cases_lt, lt-ltb, le-ltb}
use Rattle.layout.specs.Bytes.{byte_at, data_of}
use Rattle.layout.specs.Faults.{Place, head_of, place_at, word_count, word_fault, frame_fault}
use Rattle.layout.specs.Layout.{Lawful, Begins, byte_count, carried, count_of_data, word_of_data, frame_words, frame}
use Rattle.layout.specs.Words.{word_in, word_bytes}
use Rattle.layout.proofs.First.{first_none_below}
use Rattle.layout.proofs.Places.{
  Faultless,
  no_fault_back,
  slot_back,
  shape_within,
  width_right,
  shape_back,
  data_back,
  count_back,
}
use Rattle.layout.proofs.Right.{all_of, length_frame_words, data_at, count_at}
use Rattle.layout.proofs.Strings.{words_of_string}

module _ (bs : List ℕ) (small : (n : ℕ) → get_or bs n 0 < 256) (none : frame_fault bs ≡ None) where
  -- four bytes make a word
  fits : (i : ℕ) → word_in bs i < 4294967296
  fits i = omega (arith, small (4 * i), small (4 * i + 1), small (4 * i + 2), small (4 * i + 3))

  -- each word is there, and has no fault
  there : (i : ℕ) → i < word_count (head_of bs) → (4 * i + 4 ≤ length bs) × Faultless (place_at (byte_count (head_of bs)) i) (word_in bs i)
  there i within = no_fault_back bs i (first_none_below (word_fault bs) (word_count (head_of bs)) i none within)

  -- the head and the block are lawful
  lawful : Lawful (head_of bs) (data_of bs)
  lawful =
      let n = byte_count (head_of bs) in
      let right = (there 1 (omega arith)).1 in
      let w = word_in bs 1 in
      record {
        slot = omega arith;
        shape = shape_within w right;
        width = width_right w right;
        long = length-map-range_with_len (byte_at bs) 0 n;
        small = All-map (λ b. b < 256) (byte_at bs) (range_with_len 0 n) (all_of (λ k. byte_at bs k < 256) (λ k. small _) (range_with_len 0 n));
      }

  -- byte k of the block, or zero behind its end
  byte_is : (k p : ℕ) → 4 * (2 + k / 3) + 1 + k % 3 ≡ p → (byte_count (head_of bs) ≤ k → get_or bs p 0 ≡ 0) → get_or (data_of bs) k 0 ≡ get_or bs p 0
  byte_is k p place past =
      let n = byte_count (head_of bs) in
      elim (cases_lt k n) [
        | inl lt ↦ get_or-map-range_with_len (byte_at bs) 0 n k k 0 lt (omega arith) ∙ ap (λ q. get_or bs q 0) place
        | inr ge ↦ get_or_past (data_of bs) k 0 (omega (arith, length-map-range_with_len (byte_at bs) 0 n)) ∙ sym (past ge)
      ]

  -- a data word is that of the bytes which it carries
  data_same : (j : ℕ) → 3 * j < byte_count (head_of bs) → Faultless (Place.data_place (carried (byte_count (head_of bs)) j)) (word_in bs (suc (suc j)))
      → word_in bs (suc (suc j)) ≡ word_of_data (data_of bs) j
  data_same j some right =
      let n = byte_count (head_of bs) in
      let i = suc (suc j) in
      let c = carried n j in
      let parts = data_back c (get_or bs (4 * i) 0) (get_or bs (4 * i + 1) 0) (get_or bs (4 * i + 2) 0) (get_or bs (4 * i + 3) 0) (small _) (small _) (small _) (small _) (omega arith) right in
      let x = byte_is (3 * j) (4 * i + 1) (omega arith) (λ past. absurd (omega arith)) in
      let y = byte_is (3 * j + 1) (4 * i + 2) (omega arith) (λ past. parts.1.0 (omega arith)) in
      let z = byte_is (3 * j + 2) (4 * i + 3) (omega arith) (λ past. parts.1.1 (omega arith)) in
      omega (arith, parts.0, length-map-range_with_len (byte_at bs) 0 n)

  -- each word is that of the frame
  word_same : (i : ℕ) → i < word_count (head_of bs) → word_in bs i ≡ get_or (frame_words (head_of bs) (data_of bs)) i 0
  word_same zero within = slot_back (word_in bs 0) (fits 0) (there 0 within).1
  word_same (suc zero) within = shape_back (word_in bs 1) (there 1 within).1 (fits 1)
  word_same (suc (suc j)) within =
      let n = byte_count (head_of bs) in
      let m = count_of_data n in
      let i = suc (suc j) in
      let long = length-map-range_with_len (byte_at bs) 0 n in
      let right = (there i within).1 in
      elim (cases_lt j m) [
        | inl lt ↦ data_same j (omega arith) (rw (lt-ltb j m lt) at right) ∙ sym (data_at (head_of bs) (data_of bs) lawful j (omega arith))
        | inr ge ↦ count_back (2 + j) (word_in bs i) (fits i) (rw (le-ltb j m ge) at right)
            ∙ sym (count_at (head_of bs) (data_of bs) lawful j (omega arith))
      ]

  -- so the bytes are the frame's, and what is left
  pub framed : Begins bs (head_of bs) (data_of bs)
  framed =
      let h = head_of bs in
      let ns = data_of bs in
      let m = word_count h in
      let words = fill_by_all (word_in bs) (frame_words h ns) m 0 (length_frame_words h ns lawful) (λ i within. sym (word_same i within)) in
      let last = (there (2 + count_of_data (byte_count h)) (omega arith)).0 in
      let front : take (4 * m) bs ≡ frame h ns = words_of_string bs m (omega arith) small ∙ ap (flat_map word_bytes) (sym words) in
      (lawful, (drop (4 * m) bs, sym (take-append-drop (4 * m) bs) ∙ ap (λ (l : List ℕ). l ++ drop (4 * m) bs) front))
