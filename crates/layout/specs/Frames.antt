-- Blocks of symbols as frames. Assumes nothing.
use Rattle.std.specs.Prelude.{◌≡◌, ℕ, Bool, false, ◌||◌, List, ◌++◌, length, nat_lt}
use Rattle.std.specs.List.{flat_map}
use Rattle.arithmetic.specs.Operations.{Bytes}
use Rattle.codes.specs.Shape.{last_slot}
use Rattle.layout.specs.declared.head.BlockShape.{BlockShape}
use Rattle.layout.specs.declared.head.Head.{Head}
use Rattle.layout.specs.Faults.{word_count}
use Rattle.layout.specs.Layout.{frame, outside_shape, symbol_count}

abbrev pub head_for : {S : Type 0} → Bytes S → ℕ → BlockShape → Head
head_for b slot x = record { slot = slot; shape = x; width = b.width }

-- the frame of a block: that of its bytes, symbol by symbol
abbrev pub frame_of : {S : Type 0} → Bytes S → ℕ → BlockShape → List S → List ℕ
frame_of b slot x block = frame (head_for b slot x) (flat_map b.write block)

-- its words
abbrev pub words_of : {S : Type 0} → Bytes S → ℕ → BlockShape → ℕ
words_of b slot x = word_count (head_for b slot x)

-- a slot, K, P or L outside its limits
abbrev pub outside : ℕ → BlockShape → Bool
outside slot x = nat_lt last_slot slot || outside_shape x

-- a block within its limits
pub record Within {S : Type 0} (slot : ℕ) (x : BlockShape) (block : List S) : Type 0 where
  pub limits : outside slot x ≡ false
  pub long : length block ≡ symbol_count x

-- the bytes begin with the frame of this block
abbrev pub BeginsWith : {S : Type 0} → Bytes S → List ℕ → ℕ → BlockShape → List S → Type 0
BeginsWith b bs slot x block = Within slot x block × ((rest : List ℕ) × (bs ≡ frame_of b slot x block ++ rest))
