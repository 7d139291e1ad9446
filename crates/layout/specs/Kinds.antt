-- The kinds of words. Assumes nothing.
use Rattle.std.specs.Prelude.{◌≡◌, ℕ, ◌<◌, ◌⊎◌, Some, None, Option}
use Rattle.layout.specs.declared.words.Kind.{Kind}
use Rattle.layout.specs.declared.words.Kind.TheVariants.{Slot, Shape, Data, Count}
use Rattle.layout.specs.Words.{bits}

-- the number of each kind
abbrev pub kind_number : Kind → ℕ
kind_number Slot = 1
kind_number Shape = 2
kind_number Data = 3
kind_number Count = 4

-- the number of a word's kind: its top four bits
abbrev pub kind_of : ℕ → ℕ
kind_of w = bits 31 28 w

-- which kind a word has, if its number is that of one
abbrev pub KindIs : Option Kind → ℕ → Type 0
KindIs (Some kind) w = kind_of w ≡ kind_number kind
KindIs None w = (kind_of w < 1) ⊎ (4 < kind_of w)
