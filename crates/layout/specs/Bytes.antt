-- The bytes of a block in its frame. Assumes nothing.
use Rattle.std.specs.Prelude.{ℕ, ◌+◌, ◌*◌, ◌/◌, ◌%◌, List, map, slice_index}
use Rattle.std.specs.List.{range_with_len}
use Rattle.layout.specs.Faults.{head_of}
use Rattle.layout.specs.Layout.{byte_count}

-- byte n of the block that a frame carries: three bytes to a word, from the third word on, behind each word's first byte
abbrev pub byte_at : List ℕ → ℕ → ℕ
byte_at bs n = slice_index bs (4 * (2 + n / 3) + 1 + n % 3)

-- as many as the frame's head says
abbrev pub data_of : List ℕ → List ℕ
data_of bs = map (byte_at bs) (range_with_len 0 (byte_count (head_of bs)))
