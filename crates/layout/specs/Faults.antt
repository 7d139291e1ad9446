-- What is wrong with a frame first. Assumes nothing.
use Rattle.std.specs.Prelude.{ℕ, zero, suc, ◌+◌, ◌-◌, ◌*◌, ◌%◌, ◌^◌, Bool, false, not, if◌then◌else◌, ◌||◌, List, length, Some, None, Option, ◌==◌, nat_lt}
use Rattle.layout.specs.declared.head.Head.{Head}
use Rattle.layout.specs.FaultNumber.{Fault}
use Rattle.layout.specs.Kinds.{kind_of}
use Rattle.layout.specs.Layout.{byte_count, carried, count_of_data, is_width, outside_shape}
use Rattle.layout.specs.Words.{bits, word_in}

-- what a shape word says, with the slot that was said before
abbrev pub head_in_words : ℕ → ℕ → Head
head_in_words slot w =
    record {
      slot = slot;
      shape = record { sources = bits 27 24 w; parities = bits 23 20 w; symbols = bits 15 0 w };
      width = bits 19 16 w;
    }

-- what the first two words say
abbrev pub head_of : List ℕ → Head
head_of bs = head_in_words (bits 27 0 (word_in bs 0)) (word_in bs 1)

-- K, P, L or the width outside its limits
abbrev pub wrong_head : Head → Bool
wrong_head h = outside_shape h.shape || not (is_width h.width)

-- a place in a frame: the slot, the shape, so many bytes of the block, or the count of so many words before it
pub data Place : Type 0 where
  slot_place : Place
  shape_place : Place
  data_place : ℕ → Place
  count_place : ℕ → Place

-- what stands at word i of a frame that carries n bytes
abbrev pub place_at : ℕ → ℕ → Place
place_at n zero = Place.slot_place
place_at n (suc zero) = Place.shape_place
place_at n (suc (suc j)) = if nat_lt j (count_of_data n) then Place.data_place (carried n j) else Place.count_place (2 + j)

abbrev pub kind_at : Place → ℕ
kind_at Place.slot_place = 1
kind_at Place.shape_place = 2
kind_at (Place.data_place c) = 3
kind_at (Place.count_place n) = 4

-- bits that are wrong in a word of the right kind: every slot is one; K, P, the width and L have their limits; a data word
-- says how many bytes its place carries, and the unused ones are zero; the count is that of the words before it
abbrev pub wrong_at : Place → ℕ → Bool
wrong_at Place.slot_place w = false
wrong_at Place.shape_place w = wrong_head (head_in_words 0 w)
wrong_at (Place.data_place c) w = not (bits 27 24 w == c) || not (w % 256 ^ (3 - c) == 0)
wrong_at (Place.count_place n) w = not (bits 27 0 w == n)

-- at fault in word i, with this number, where the test says so; else whatever the later checks say
abbrev pub at_fault : Bool → ℕ → ℕ → Option Fault → Option Fault
at_fault test number i later = if test then Some (record { number = number; word = i }) else later

-- a word that is there is of another kind than its place has, or has other bits that are wrong
abbrev pub place_fault : Place → ℕ → ℕ → Option Fault
place_fault place i w =
    at_fault (not (kind_of w == kind_at place)) 7 i
    (at_fault (wrong_at place w) 8 i None)

-- word i is missing, or wrong at its place
abbrev pub word_fault : List ℕ → ℕ → Option Fault
word_fault bs i =
    at_fault (nat_lt (length bs) (4 * i + 4)) 6 i
    (place_fault (place_at (byte_count (head_of bs)) i) i (word_in bs i))

-- the earlier, if there is one
abbrev pub or_else : {X : Type 0} → Option X → Option X → Option X
or_else (Some x) later = Some x
or_else None later = later

-- the first of f 0, .., f (n - 1) that there is
abbrev pub first_below : {X : Type 0} → (ℕ → Option X) → ℕ → Option X
first_below f zero = None
first_below f (suc n) = or_else (first_below f n) (f n)

-- the words of a frame, by what its shape says: the first two, those of the data, and the count
abbrev pub word_count : Head → ℕ
word_count h = 3 + count_of_data (byte_count h)

-- the fault of the first word that has one; what lies behind the frame is not looked at
abbrev pub frame_fault : List ℕ → Option Fault
frame_fault bs = first_below (word_fault bs) (word_count (head_of bs))
