-- What checking a frame answers. Assumes nothing.
use Rattle.std.specs.Prelude.{◌≡◌, ℕ, List, Ok, Result}
use Rattle.layout.specs.declared.fault.FrameFault.{FrameFault}
use Rattle.layout.specs.declared.head.Head.{Head}
use Rattle.layout.specs.Bytes.{data_of}
use Rattle.layout.specs.Faults.{head_of, word_count}
use Rattle.layout.specs.Layout.{Begins}
use Rattle.frame_reader.specs.declared.check.Checked.{Checked}

-- what is answered for a frame with this head
abbrev pub checked_as : Head → Checked
checked_as h = record { head = h; words = word_count h }

-- the bytes begin with a frame, and this is what it says
pub record Framed (bs : List ℕ) (c : Checked) : Type 0 where
  pub says : c ≡ checked_as (head_of bs)
  pub begins : Begins bs (head_of bs) (data_of bs)

-- whatever frame the bytes begin with, it is accepted
abbrev pub AcceptsFrames : List ℕ → Result Checked FrameFault → Type 0
AcceptsFrames bs r = (h : Head) (ns : List ℕ) → Begins bs h ns → r ≡ Ok (checked_as h)
