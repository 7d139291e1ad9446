-- A frame has no fault, and says what it was made of. Assumes nothing.
use Rattle.std.proofs.Common.{◌≡◌, ℕ, zero, suc, ◌+◌, ◌*◌, ◌/◌, ◌%◌, ◌<◌, ◌≤◌, List, [], ◌∷◌, ◌++◌, map, length, get_or, None, sym, refl, ap, ◌∙◌, subst, inl, inr, arith}
use Rattle.std.specs.List.{range_with_len, AllByRecursion}
use Rattle.std.proofs.lemmas.Nat.{mul-le}
use Rattle.std.proofs.lemmas.List.FromFn.{length-map-range_with_len, get_or-map-range_with_len}
use Rattle.std.proofs.ByRecursion.{All-map, All-push}
use Rattle.std.proofs.lemmas.List.{get_or_append_left, get_or_push, length-append, length_push}
use Rattle.std.proofs.lemmas.Bool.{cases_lt, lt-ltb, le-ltb}
use Rattle.layout.specs.declared.head.Head.{Head}
use Rattle.layout.specs.Bytes.{byte_at}
use Rattle.layout.specs.Faults.{head_in_words, head_of, place_at, word_count, word_fault, frame_fault}
use Rattle.layout.specs.Layout.{
  Lawful,
  byte_count,
  symbol_count,
  carried,
  count_of_data,
  word_of_data,
  word_of_count,
  frame_words,
  frame,
}
use Rattle.layout.specs.Words.{bits, word_in, word_bytes}
use Rattle.layout.proofs.First.{first_none_all}
use Rattle.layout.proofs.Limits.{few_symbols, width_within}
use Rattle.layout.proofs.Places.{
  Faultless,
  no_fault,
  slot_right,
  slot_is,
  head_of_own_words,
  shape_fits,
  shape_right,
  data_bytes,
  data_fits,
  data_right,
  count_right,
}
use Rattle.layout.proofs.Strings.{length_words, byte_of_joined, word_at_joined}

-- what holds of everything holds of all of a list
pub all_of : {X : Type 0} (P : X → Type 0) → ((x : X) → P x) → (xs : List X) → AllByRecursion P xs
all_of P each [] = tt
all_of P each (x ∷ xs) = (each x, all_of P each xs)

-- behind its first byte a data word has three of the block's
one_of_three : (ns : List ℕ) (first q r : ℕ) → r < 3
    → get_or (first ∷ get_or ns (3 * q) 0 ∷ get_or ns (3 * q + 1) 0 ∷ get_or ns (3 * q + 2) 0 ∷ []) (1 + r) 0 ≡ get_or ns (3 * q + r) 0
one_of_three ns first q zero below = let e : 3 * q ≡ 3 * q + 0 = omega arith in ap (λ i. get_or ns i 0) e
one_of_three ns first q (suc zero) below = refl
one_of_three ns first q (suc (suc zero)) below = refl
one_of_three ns first q (suc (suc (suc r))) below = absurd (omega arith)

module _ (h : Head) (ns : List ℕ) (lawful : Lawful h ns) where
  -- a block has few bytes
  few : length ns ≤ 1536
  few =
      omega (arith, mul-le (symbol_count h.shape) h.width 384 4 (few_symbols h.shape lawful.shape) (width_within h.width lawful.width).1)

  -- a frame has as many words and bytes as its shape says
  pub length_frame_words : length (frame_words h ns) ≡ word_count h
  length_frame_words =
      let m = count_of_data (length ns) in
      let ws = map (word_of_data ns) (range_with_len 0 m) in
      omega (arith, length_push ws (word_of_count (2 + m)), length-map-range_with_len (word_of_data ns) 0 m)

  pub length_frame : length (frame h ns) ≡ 4 * word_count h
  length_frame = length_words (frame_words h ns) ∙ ap (λ n. 4 * n) length_frame_words

  -- behind the first two words come those of the data, and the count
  pub data_at : (j : ℕ) → j < count_of_data (length ns) → get_or (frame_words h ns) (suc (suc j)) 0 ≡ word_of_data ns j
  data_at j within =
      let m = count_of_data (length ns) in
      let ws = map (word_of_data ns) (range_with_len 0 m) in
      get_or_append_left ws (word_of_count (2 + m) ∷ []) 0 j (omega (arith, length-map-range_with_len (word_of_data ns) 0 m))
      ∙ get_or-map-range_with_len (word_of_data ns) 0 m j j 0 within (omega arith)

  pub count_at : (j : ℕ) → count_of_data (length ns) ≡ j → get_or (frame_words h ns) (suc (suc j)) 0 ≡ word_of_count (2 + j)
  count_at j last =
      let m = count_of_data (length ns) in
      let ws = map (word_of_data ns) (range_with_len 0 m) in
      get_or_push ws (word_of_count (2 + m)) 0 j (length-map-range_with_len (word_of_data ns) 0 m ∙ last) ∙ ap (λ n. word_of_count (2 + n)) last

  -- each is a word of 32 bits
  words_fit : AllByRecursion (λ w. w < 4294967296) (frame_words h ns)
  words_fit =
      let m = count_of_data (length ns) in
      let js = range_with_len 0 m in
      let each = all_of (λ j. word_of_data ns j < 4294967296) (data_fits ns lawful.small) js in
      let all = All-map (λ w. w < 4294967296) (word_of_data ns) js each in
      let last = All-push (λ w. w < 4294967296) (map (word_of_data ns) js) (word_of_count (2 + m)) all (omega (arith, few)) in
      (omega arith, (shape_fits h ns lawful, last))

  -- each has no fault at its place
  faultless : (i : ℕ) → i < word_count h → Faultless (place_at (byte_count h) i) (get_or (frame_words h ns) i 0)
  faultless zero within = slot_right h.slot lawful.slot
  faultless (suc zero) within = shape_right h ns lawful
  faultless (suc (suc j)) within =
      let m = count_of_data (length ns) in
      let w = get_or (frame_words h ns) (suc (suc j)) 0 in
      subst (λ n. Faultless (place_at n (suc (suc j))) w) lawful.long
      (elim (cases_lt j m) [
        | inl lt ↦ rw (lt-ltb j m lt, data_at j lt) (data_right ns lawful.small j (omega arith))
        | inr ge ↦ rw (le-ltb j m ge, count_at j (omega (arith, lawful.long))) (count_right (2 + j) (omega (arith, few)))
      ])

  -- whatever comes behind the frame
  module _ (rest : List ℕ) where
    -- its words are read
    pub word_is : (i : ℕ) → i < word_count h → word_in (frame h ns ++ rest) i ≡ get_or (frame_words h ns) i 0
    word_is i within = word_at_joined (frame_words h ns) rest i words_fit (omega (arith, length_frame_words))

    -- the first two say the slot and the shape
    pub head_of_frame : head_of (frame h ns ++ rest) ≡ h
    head_of_frame =
        let v = word_is 0 (omega arith) in
        let w = word_is 1 (omega arith) in
        ap (λ n. head_in_words n (word_in (frame h ns ++ rest) 1)) (ap (bits 27 0) v ∙ slot_is h.slot lawful.slot)
        ∙ ap (head_in_words h.slot) w ∙ head_of_own_words h ns lawful

    -- no word has a fault
    pub right : frame_fault (frame h ns ++ rest) ≡ None
    right =
        let bs = frame h ns ++ rest in
        let Here : Head → ℕ → ℕ → Type 0 = λ x i w. Faultless (place_at (byte_count x) i) w in
        first_none_all (word_fault bs) (word_count (head_of bs))
        (λ i below.
        let within : i < word_count h = subst (λ (x : Head). i < word_count x) head_of_frame below in
        let here = subst (Here h i) (sym (word_is i within)) (faultless i within) in
        no_fault bs i (omega (arith, length-append (frame h ns) rest, length_frame))
        (subst (λ (x : Head). Here x i (word_in bs i)) (sym head_of_frame) here))

    -- the data words have the bytes
    pub data_of_frame : (n : ℕ) → n < length ns → byte_at (frame h ns ++ rest) n ≡ get_or ns n 0
    data_of_frame n within =
        let q = n / 3 in
        let r = n % 3 in
        let place : 4 * (2 + q) + 1 + r ≡ 4 * suc (suc q) + (1 + r) = omega arith in
        let whole : 3 * q + r ≡ n = omega arith in
        ap (λ i. get_or (frame h ns ++ rest) i 0) place
        ∙ byte_of_joined (frame_words h ns) rest (suc (suc q)) (1 + r) (omega (arith, length_frame_words)) (omega arith)
        ∙ ap (λ w. get_or (word_bytes w) (1 + r) 0) (data_at q (omega arith))
        ∙ ap (λ (l : List ℕ). get_or l (1 + r) 0) (data_bytes ns lawful.small q)
        ∙ one_of_three ns (48 + carried (length ns) q) q r (omega arith)
        ∙ ap (λ i. get_or ns i 0) whole
