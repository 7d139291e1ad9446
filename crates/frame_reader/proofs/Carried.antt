-- The block that a frame's bytes carry. Assumes nothing.
use Rattle.std.proofs.Common.{◌≡◌, ℕ, zero, suc, ◌+◌, ◌*◌, ◌<◌, ltb, List, [], ◌∷◌, ◌++◌, map, length, get_or, take, set, None, sym, refl, ap, ◌∙◌, add-zero, suc-mul, zero-mul, arith}
use Rattle.std.specs.List.{range_with_len, flat_map}
use Rattle.std.proofs.lemmas.List.FromFn.{length-map-range_with_len, map-range_with_len_more, fill_by_all}
use Rattle.std.proofs.ByRecursion.{All-map}
use Rattle.std.proofs.lemmas.List.{take_at, take_more_set, flat_map_more}
use Rattle.std.proofs.lemmas.Bool.{le-ltb, or_from}
use Rattle.arithmetic.specs.Laws.{ByteLaws}
use Rattle.arithmetic.specs.Operations.{Bytes}
use Rattle.codes.specs.Shape.{last_slot}
use Rattle.layout.specs.declared.head.BlockShape.{BlockShape}
use Rattle.layout.specs.declared.head.Head.{Head}
use Rattle.layout.specs.Bytes.{byte_at, data_of}
use Rattle.layout.specs.Faults.{frame_fault, head_of}
use Rattle.layout.specs.Layout.{Begins, Lawful, frame, outside_shape, symbol_count}
use Rattle.layout.proofs.Right.{all_of, right, head_of_frame, data_of_frame, length_frame}
use Rattle.layout.specs.Frames.{BeginsWith, frame_of, head_for, words_of}
use Rattle.frame_reader.specs.Reading.{block_in, symbol_in}
use Rattle.layout.proofs.Blocks.{lawful_block, same_block}

-- a loop's turn: one byte more of a symbol
pub byte_more : (f : ℕ → ℕ) (four : List ℕ) (a j : ℕ) → j < length four → take j four ≡ map f (range_with_len a j)
    → take (j + 1) (set four j (f (a + j))) ≡ map f (range_with_len a (j + 1))
byte_more f four a j room old =
    take_more_set four j (f (a + j)) room ∙ ap (λ (l : List ℕ). l ++ f (a + j) ∷ []) old ∙ sym (map-range_with_len_more f a j (a + j) refl)

-- what is counted in two parts
count_on : (f : ℕ → ℕ) (a n m : ℕ) → map f (range_with_len a (n + m)) ≡ map f (range_with_len a n) ++ map f (range_with_len (a + n) m)
count_on f a zero m =
    let none : zero + m ≡ m = omega arith in
    ap (λ k. map f (range_with_len a k)) none ∙ ap (λ k. map f (range_with_len k m)) (sym (add-zero a))
count_on f a (suc n) m =
    let one : suc n + m ≡ suc (n + m) = omega arith in
    let on : a + 1 + n ≡ a + suc n = omega arith in
    ap (λ k. map f (range_with_len a k)) one ∙ ap (λ (l : List ℕ). f a ∷ l) (count_on f (a + 1) n m ∙ ap (λ k. map f (range_with_len (a + 1) n) ++ map f (range_with_len k m)) on)

-- the words of the frame that the bytes begin with
pub used : {S : Type 0} (b : Bytes S) → ByteLaws b → (bs : List ℕ) (slot : ℕ) (x : BlockShape) (block : List S) → BeginsWith b bs slot x block
    → (n : ℕ) → n ≡ words_of b slot x → frame_of b slot x block ≡ take (4 * n) bs
used b laws bs slot x block begins n is =
    let long = length_frame (head_for b slot x) (flat_map b.write block) (lawful_block b laws slot x block begins.0) in
    sym (ap (take (4 * n)) begins.1.1 ∙ take_at (frame_of b slot x block) begins.1.0 (4 * n) (long ∙ ap (λ m. 4 * m) (sym is)))

module _ {S : Type 0} (b : Bytes S) (laws : ByteLaws b) (bs : List ℕ) (small : (n : ℕ) → get_or bs n 0 < 256) where
  -- a symbol has the bytes that it is read from
  symbol_bytes : (i : ℕ) → b.write (symbol_in b bs i) ≡ map (byte_at bs) (range_with_len (i * b.width) b.width)
  symbol_bytes i =
      laws.forth (map (byte_at bs) (range_with_len (i * b.width) b.width)) (length-map-range_with_len (byte_at bs) (i * b.width) b.width)
      (All-map (λ k. k < 256) (byte_at bs) (range_with_len (i * b.width) b.width) (all_of (λ k. byte_at bs k < 256) (λ k. small _) (range_with_len (i * b.width) b.width)))

  -- and so has a block
  pub block_bytes : (n : ℕ) → flat_map b.write (block_in b bs n) ≡ map (byte_at bs) (range_with_len 0 (n * b.width))
  block_bytes zero = ap (λ k. map (byte_at bs) (range_with_len 0 k)) (sym (zero-mul b.width))
  block_bytes (suc n) =
      let w = b.width in
      let one : suc n ≡ n + 1 = omega arith in
      let whole : n * w + w ≡ suc n * w = sym (suc-mul n w) in
      let from : 0 + n * w ≡ n * w = omega arith in
      ap (λ k. flat_map b.write (block_in b bs k)) one
      ∙ ap (flat_map b.write) (map-range_with_len_more (symbol_in b bs) 0 n n (omega arith))
      ∙ sym (flat_map_more b.write [] (block_in b bs n) (symbol_in b bs n))
      ∙ ap (λ (l : List ℕ). l ++ b.write (symbol_in b bs n)) (block_bytes n)
      ∙ ap (λ (l : List ℕ). map (byte_at bs) (range_with_len 0 (n * w)) ++ l) (symbol_bytes n ∙ ap (λ k. map (byte_at bs) (range_with_len k w)) (sym from))
      ∙ sym (count_on (byte_at bs) 0 (n * w) w)
      ∙ ap (λ k. map (byte_at bs) (range_with_len 0 k)) whole

  -- a frame of symbols this wide is the frame of the block that it carries
  pub carries : Begins bs (head_of bs) (data_of bs) → (head_of bs).width ≡ b.width
      → BeginsWith b bs (head_of bs).slot (head_of bs).shape (block_in b bs (symbol_count (head_of bs).shape))
  carries begins wide =
      let h = head_of bs in
      let n = symbol_count h.shape in
      let head : head_for b h.slot h.shape ≡ h = ap (λ w. record { slot = h.slot; shape = h.shape; width = w }) (sym wide) in
      let bytes : flat_map b.write (block_in b bs n) ≡ data_of bs =
      block_bytes n ∙ ap (λ w. map (byte_at bs) (range_with_len 0 (n * w))) (sym wide) in
      let same : frame_of b h.slot h.shape (block_in b bs n) ≡ frame h (data_of bs) =
      ap (λ (k : Head). frame k (flat_map b.write (block_in b bs n))) head ∙ ap (frame h) bytes in (
        record { limits = or_from (ltb last_slot h.slot) (outside_shape h.shape) (le-ltb last_slot h.slot begins.0.slot) begins.0.shape; long = length-map-range_with_len (symbol_in b bs) 0 n },
        (begins.1.0, begins.1.1 ∙ ap (λ (l : List ℕ). l ++ begins.1.0) (sym same)),
      )

  -- whatever block's frame the bytes begin with
  module _ (slot : ℕ) (x : BlockShape) (block : List S) (begins : BeginsWith b bs slot x block) where
    law : Lawful (head_for b slot x) (flat_map b.write block)
    law = lawful_block b laws slot x block begins.0

    pub no_fault : frame_fault bs ≡ None
    no_fault = ap frame_fault begins.1.1 ∙ right (head_for b slot x) (flat_map b.write block) law begins.1.0

    pub its_head : head_of bs ≡ head_for b slot x
    its_head = ap head_of begins.1.1 ∙ head_of_frame (head_for b slot x) (flat_map b.write block) law begins.1.0

    pub its_block : block ≡ block_in b bs (symbol_count x)
    its_block =
        let ns = flat_map b.write block in
        let rest = begins.1.0 in
        let n = symbol_count x in
        let bytes : ns ≡ map (byte_at bs) (range_with_len 0 (n * b.width)) =
        fill_by_all (byte_at bs) ns (n * b.width) 0 law.long
        (λ k lt. sym (ap (λ (l : List ℕ). byte_at l k) begins.1.1 ∙ data_of_frame (head_for b slot x) ns law rest k (omega (arith, law.long)))) in
        same_block b laws block (block_in b bs n) (begins.0.long ∙ sym (length-map-range_with_len (symbol_in b bs) 0 n)) (bytes ∙ sym (block_bytes n))
