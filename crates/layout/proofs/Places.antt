-- The words that may stand at each place of a frame. Assumes nothing.
use Rattle.std.proofs.Common.{◌≡◌, ℕ, zero, suc, ◌+◌, ◌-◌, ◌*◌, ◌/◌, ◌%◌, ◌^◌, ◌<◌, ◌≤◌, Bool, true, false, not, eqb, ltb, List, [], ◌∷◌, length, get_or, None, refl, sym, ap, ◌∙◌, arith}
use Rattle.std.specs.List.{AllByRecursion}
use Rattle.std.proofs.lemmas.List.{get_or_past}
use Rattle.std.proofs.lemmas.Bool.{eq-eqb, eqb-true, le-ltb, ltb-false, not-false, not_from_true, or_from, or_parts}
use Rattle.std.proofs.lemmas.Bool.Decides.{nat_tests}
use Rattle.std.proofs.lemmas.Option.{none-some}
use Rattle.codes.specs.Shape.{last_slot}
use Rattle.layout.specs.declared.head.Head.{Head}
use Rattle.layout.specs.Faults.{Place, head_in_words, head_of, place_at, kind_at, wrong_at, wrong_head, at_fault, word_fault}
use Rattle.layout.specs.Kinds.{kind_of}
use Rattle.layout.specs.Layout.{Lawful, byte_count, carried, is_width, outside_shape, word_of_slot, word_of_shape, word_of_data, word_of_count}
use Rattle.layout.specs.Words.{bits, word_in, word_bytes}
use Rattle.layout.proofs.Limits.{sources_within, parities_within, symbols_within, width_within}
use Rattle.layout.proofs.WordLaws.{word_of_bytes}

-- a word of the kind of its place, with no wrong bits
abbrev pub Faultless : Place → ℕ → Type 0
Faultless p w = (kind_of w ≡ kind_at p) × (wrong_at p w ≡ false)

-- three tests of word i in a row find nothing just where each is false
module _ (l m n i : ℕ) where
  tests_from : (a b c : Bool) → a ≡ false → b ≡ false → c ≡ false
      → at_fault a l i (at_fault b m i (at_fault c n i None)) ≡ None
  tests_from a b c first second third = rw (first, second, third) refl

  tests_back : (a b c : Bool) → at_fault a l i (at_fault b m i (at_fault c n i None)) ≡ None
      → (a ≡ false) × ((b ≡ false) × (c ≡ false))
  tests_back true b c e = absurd (none-some _ (sym e))
  tests_back false true c e = absurd (none-some _ (sym e))
  tests_back false false true e = absurd (none-some _ (sym e))
  tests_back false false false e = (refl, (refl, refl))

-- word i has no fault just where it is there, of the kind of its place, and has no wrong bits
module _ (bs : List ℕ) (i : ℕ) where
  pub no_fault : 4 * i + 4 ≤ length bs → Faultless (place_at (byte_count (head_of bs)) i) (word_in bs i) → word_fault bs i ≡ None
  no_fault within right =
      let w = word_in bs i in
      let place = place_at (byte_count (head_of bs)) i in
      tests_from 6 7 8 i (ltb (length bs) (4 * i + 4)) (not (eqb (kind_of w) (kind_at place))) (wrong_at place w)
      (le-ltb _ _ within) (not_from_true _ (eq-eqb _ _ right.0)) right.1

  pub no_fault_back : word_fault bs i ≡ None → (4 * i + 4 ≤ length bs) × Faultless (place_at (byte_count (head_of bs)) i) (word_in bs i)
  no_fault_back none =
      let w = word_in bs i in
      let place = place_at (byte_count (head_of bs)) i in
      let parts = tests_back 6 7 8 i (ltb (length bs) (4 * i + 4)) (not (eqb (kind_of w) (kind_at place))) (wrong_at place w) none in
      (ltb-false _ _ parts.0, (eqb-true _ _ (not-false _ parts.1.0), parts.1.1))

-- the word of a slot has no fault, and says the slot
module _ (slot : ℕ) (within : slot ≤ last_slot) where
  pub slot_right : Faultless Place.slot_place (word_of_slot slot)
  slot_right = (omega arith, refl)

  pub slot_is : bits 27 0 (word_of_slot slot) ≡ slot
  slot_is = omega arith

-- a word with no fault there is the word of the slot that it says
pub slot_back : (w : ℕ) → w < 4294967296 → Faultless Place.slot_place w → w ≡ word_of_slot (bits 27 0 w)
slot_back w fits right = omega arith

-- the word of a lawful shape says the shape, and has no fault
module _ (h : Head) (ns : List ℕ) (lawful : Lawful h ns) where
  -- its numbers are small
  narrow : (h.shape.sources ≤ 8) × ((h.shape.parities ≤ 4) × ((h.shape.symbols ≤ 32) × (h.width ≤ 4)))
  narrow =
      let x = h.shape in
      ((sources_within x lawful.shape).1, ((parities_within x lawful.shape).1, ((symbols_within x lawful.shape).1, (width_within h.width lawful.width).1)))

  pub shape_fits : word_of_shape h < 4294967296
  shape_fits = omega (arith, narrow)

  sources_are : bits 27 24 (word_of_shape h) ≡ h.shape.sources
  sources_are = omega (arith, narrow)

  parities_are : bits 23 20 (word_of_shape h) ≡ h.shape.parities
  parities_are = omega (arith, narrow)

  width_is : bits 19 16 (word_of_shape h) ≡ h.width
  width_is = omega (arith, narrow)

  symbols_are : bits 15 0 (word_of_shape h) ≡ h.shape.symbols
  symbols_are = omega (arith, narrow)

  pub head_of_own_words : head_in_words h.slot (word_of_shape h) ≡ h
  head_of_own_words = λ k. record {
    slot = h.slot;
    shape = record { sources = sources_are k; parities = parities_are k; symbols = symbols_are k };
    width = width_is k;
  }

  pub shape_right : Faultless Place.shape_place (word_of_shape h)
  shape_right = (
    omega (arith, narrow),
    ap wrong_head head_of_own_words ∙ or_from (outside_shape h.shape) (not (is_width h.width)) lawful.shape (not_from_true _ lawful.width),
  )

-- a word with no fault there is that of the shape that it says, and the shape is lawful
module _ (w : ℕ) (right : Faultless Place.shape_place w) where
  pub shape_within : outside_shape (head_in_words 0 w).shape ≡ false
  shape_within = (or_parts (outside_shape (head_in_words 0 w).shape) (not (is_width (head_in_words 0 w).width)) right.1).0

  pub width_right : is_width (head_in_words 0 w).width ≡ true
  width_right = not-false _ (or_parts (outside_shape (head_in_words 0 w).shape) (not (is_width (head_in_words 0 w).width)) right.1).1

  pub shape_back : w < 4294967296
      → w ≡ 2 * 2 ^ 28 + bits 27 24 w * 2 ^ 24 + bits 23 20 w * 2 ^ 20 + bits 19 16 w * 2 ^ 16 + bits 15 0 w
  shape_back fits =
      let a : w / 1048576 ≡ w / 65536 / 16 = omega arith in
      let b : w / 16777216 ≡ w / 1048576 / 16 = omega arith in
      let c : w / 268435456 ≡ w / 16777216 / 16 = omega arith in
      let top : w / 268435456 % 16 ≡ w / 268435456 = omega arith in
      omega arith

-- the test that in a word which carries c bytes the unused ones are zero, from the two bytes that may be unused
tail_zero : (c w : ℕ) → 1 ≤ c → (c < 2 → w / 256 % 256 ≡ 0) → (c < 3 → w % 256 ≡ 0) → w % 256 ^ (3 - c) ≡ 0
tail_zero zero w some middle last = absurd (omega arith)
tail_zero (suc zero) w some middle last = omega (arith, middle (omega arith), last (omega arith))
tail_zero (suc (suc zero)) w some middle last = last (omega arith)
tail_zero (suc (suc (suc c))) w some middle last = let none : 3 - suc (suc (suc c)) ≡ 0 = omega arith in rw none (omega arith)

-- and what it says of each of them
middle_zero : (c w : ℕ) → 1 ≤ c → w % 256 ^ (3 - c) ≡ 0 → c < 2 → w / 256 % 256 ≡ 0
middle_zero zero w some tail below = absurd (omega arith)
middle_zero (suc zero) w some tail below = omega arith
middle_zero (suc (suc c)) w some tail below = absurd (omega arith)

last_zero : (c w : ℕ) → 1 ≤ c → w % 256 ^ (3 - c) ≡ 0 → c < 3 → w % 256 ≡ 0
last_zero zero w some tail below = absurd (omega arith)
last_zero (suc zero) w some tail below = omega arith
last_zero (suc (suc zero)) w some tail below = tail
last_zero (suc (suc (suc c))) w some tail below = absurd (omega arith)

-- what is read from a list of bytes is a byte, behind its end too
small_at : (ns : List ℕ) → AllByRecursion (λ n. n < 256) ns → (i : ℕ) → get_or ns i 0 < 256
small_at [] small i = omega arith
small_at (n ∷ ns) small zero = small.0
small_at (n ∷ ns) small (suc i) = small_at ns small.1 i

-- the data word of three bytes, or of those that are left, has no fault, and these are its bytes
module _ (ns : List ℕ) (small : AllByRecursion (λ n. n < 256) ns) (j : ℕ) where
  pub data_bytes : word_bytes (word_of_data ns j)
      ≡ (48 + carried (length ns) j) ∷ get_or ns (3 * j) 0 ∷ get_or ns (3 * j + 1) 0 ∷ get_or ns (3 * j + 2) 0 ∷ []
  data_bytes =
      let c = carried (length ns) j in
      let x = get_or ns (3 * j) 0 in
      let y = get_or ns (3 * j + 1) 0 in
      let z = get_or ns (3 * j + 2) 0 in
      let e : word_of_data ns j ≡ (48 + c) * 16777216 + x * 65536 + y * 256 + z = omega arith in
      ap word_bytes e ∙ word_of_bytes (48 + c) x y z (omega arith) (small_at ns small _) (small_at ns small _) (small_at ns small _)

  pub data_fits : word_of_data ns j < 4294967296
  data_fits = omega (arith, small_at ns small (3 * j), small_at ns small (3 * j + 1), small_at ns small (3 * j + 2))

  pub data_right : 3 * j < length ns → Faultless (Place.data_place (carried (length ns) j)) (word_of_data ns j)
  data_right some =
      let c = carried (length ns) j in
      let w = word_of_data ns j in
      let x = small_at ns small (3 * j) in
      let y = small_at ns small (3 * j + 1) in
      let z = small_at ns small (3 * j + 2) in
      let says : bits 27 24 w ≡ c = omega arith in
      let tail : w % 256 ^ (3 - c) ≡ 0 =
      tail_zero c w (omega arith)
      (λ below. let e = get_or_past ns (3 * j + 1) 0 (omega arith) in omega arith)
      (λ below. let e = get_or_past ns (3 * j + 2) 0 (omega arith) in omega arith) in
      (omega arith, grind (arith, nat_tests))

-- a word of four bytes with no fault there begins with the kind and the number of bytes, and those that it does not use are zero
pub data_back : (c a x y z : ℕ) → a < 256 → x < 256 → y < 256 → z < 256 → 1 ≤ c
    → Faultless (Place.data_place c) (a * 16777216 + x * 65536 + y * 256 + z) → (a ≡ 48 + c) × ((c < 2 → y ≡ 0) × (c < 3 → z ≡ 0))
data_back c a x y z sa sx sy sz some right =
    let w = a * 16777216 + x * 65536 + y * 256 + z in
    let says : bits 27 24 w ≡ c = grind (arith, nat_tests) in
    let tail : w % 256 ^ (3 - c) ≡ 0 = grind (arith, nat_tests) in (
      omega arith,
      (λ below. let e = middle_zero c w some tail below in omega arith, λ below. let e = last_zero c w some tail below in omega arith),
    )

-- the word of a count has no fault
pub count_right : (n : ℕ) → n ≤ last_slot → Faultless (Place.count_place n) (word_of_count n)
count_right n within = (omega arith, grind (arith, nat_tests))

-- a word with no fault there is the word of that count
pub count_back : (n w : ℕ) → w < 4294967296 → Faultless (Place.count_place n) w → w ≡ word_of_count n
count_back n w fits right = let is : bits 27 0 w ≡ n = grind (arith, nat_tests) in omega arith
