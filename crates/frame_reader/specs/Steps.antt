-- One word of a frame, at its place. Assumes nothing.
use Rattle.std.specs.Prelude.{ℕ, ◌-◌, min, cond, nat_lt}
use Rattle.std.specs.declared.ops.ControlFlow.{ControlFlow}
use Rattle.std.specs.declared.ops.ControlFlow.TheVariants.{Continue, Break}
use Rattle.layout.specs.declared.head.Head.{Head}
use Rattle.layout.specs.Layout.{byte_count}
use Rattle.layout.specs.Faults.{Place, head_in_words}
use Rattle.layout.specs.Faults.Place.{slot_place, shape_place, data_place, count_place}
use Rattle.layout.specs.Words.{bits}
use Rattle.frame_reader.specs.declared.steps.Expected.{Expected}
use Rattle.frame_reader.specs.declared.steps.Expected.TheVariants.{Slot, Shape, Data, Count}

-- the place that is waited for, at word i
abbrev pub place_of : Expected → ℕ → Place
place_of Slot i = slot_place
place_of (Shape slot) i = shape_place
place_of (Data head left) i = data_place (min 3 left)
place_of (Count head) i = count_place i

-- where a word without fault leads: on to the next word, or out with what the frame says
abbrev pub next_from : Expected → ℕ → ControlFlow Head Expected
next_from Slot w = Continue (Shape (bits 27 0 w))
next_from (Shape slot) w = Continue (Data (head_in_words slot w) (byte_count (head_in_words slot w)))
next_from (Data head left) w = Continue (cond (nat_lt 3 left) (Data head (left - 3)) (Count head))
next_from (Count head) w = Break head
