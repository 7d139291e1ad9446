-- What a frame is: words that say the slot, the shape, the block's bytes three by three, and how many words came before. Assumes nothing.
use Rattle.std.specs.Prelude.{◌≡◌, ℕ, ◌+◌, ◌-◌, ◌*◌, ◌/◌, ◌^◌, ◌<◌, ◌≤◌, min, Bool, true, false, ◌||◌, List, [], ◌∷◌, ◌++◌, map, length, ◌==◌, slice_index}
use Rattle.std.specs.List.{range_with_len, flat_map, AllByRecursion}
use Rattle.codes.specs.Shape.{last_slot, out_of}
use Rattle.layout.specs.declared.head.BlockShape.{BlockShape}
use Rattle.layout.specs.declared.head.Head.{Head}
use Rattle.layout.specs.Words.{word_bytes}

-- K, P or L outside its limits
abbrev pub outside_shape : BlockShape → Bool
outside_shape x = out_of 1 8 x.sources || (out_of 1 4 x.parities || out_of 1 32 x.symbols)

-- symbols have 1 or 4 bytes
abbrev pub is_width : ℕ → Bool
is_width w = w == 1 || w == 4

-- the symbols of a block, and the bytes that its frame carries
abbrev pub symbol_count : BlockShape → ℕ
symbol_count x = (x.sources + x.parities) * x.symbols

abbrev pub byte_count : Head → ℕ
byte_count h = symbol_count h.shape * h.width

-- kind 1: the slot
abbrev pub word_of_slot : ℕ → ℕ
word_of_slot slot = 1 * 2 ^ 28 + slot

-- kind 2: K, P, the width of a symbol, and L
abbrev pub word_of_shape : Head → ℕ
word_of_shape h = 2 * 2 ^ 28 + h.shape.sources * 2 ^ 24 + h.shape.parities * 2 ^ 20 + h.width * 2 ^ 16 + h.shape.symbols

-- so many of n bytes lie in data word j: three, and in the last word what is left
abbrev pub carried : ℕ → ℕ → ℕ
carried n j = min 3 (n - 3 * j)

-- kind 3: how many bytes, and bytes 3j, 3j+1 and 3j+2, zero where there are none
abbrev pub word_of_data : List ℕ → ℕ → ℕ
word_of_data ns j = 3 * 2 ^ 28 + carried (length ns) j * 2 ^ 24 + slice_index ns (3 * j) * 2 ^ 16 + slice_index ns (3 * j + 1) * 2 ^ 8 + slice_index ns (3 * j + 2)

-- data words for n bytes
abbrev pub count_of_data : ℕ → ℕ
count_of_data n = (n + 2) / 3

-- kind 4: how many words came before
abbrev pub word_of_count : ℕ → ℕ
word_of_count n = 4 * 2 ^ 28 + n

-- the frame of these bytes, as words and as bytes
abbrev pub frame_words : Head → List ℕ → List ℕ
frame_words h ns =
    word_of_slot h.slot ∷ word_of_shape h ∷ (map (word_of_data ns) (range_with_len 0 (count_of_data (length ns))) ++ (word_of_count (2 + count_of_data (length ns)) ∷ []))

abbrev pub frame : Head → List ℕ → List ℕ
frame h ns = flat_map word_bytes (frame_words h ns)

-- within the limits of a block, and with as many bytes as its shape says
pub record Lawful (h : Head) (ns : List ℕ) : Type 0 where
  pub slot : h.slot ≤ last_slot
  pub shape : outside_shape h.shape ≡ false
  pub width : is_width h.width ≡ true
  pub long : length ns ≡ byte_count h
  pub small : AllByRecursion (λ n. n < 256) ns

-- the bytes begin with the frame of these
abbrev pub Begins : List ℕ → Head → List ℕ → Type 0
Begins bs h ns = Lawful h ns × ((rest : List ℕ) × (bs ≡ frame h ns ++ rest))
