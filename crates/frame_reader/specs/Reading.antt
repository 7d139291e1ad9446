-- What reading a frame answers. Assumes nothing.
use Rattle.std.specs.Prelude.{◌≡◌, ℕ, ◌*◌, ◌≤◌, not, List, map, length, take, Some, None, Ok, Option, Result, ◌==◌, nat_lt}
use Rattle.fills.specs.Over.{written_over}
use Rattle.refusal.specs.Order.{refused, accepted}
use Rattle.arithmetic.specs.Operations.{Bytes}
use Rattle.layout.specs.declared.head.BlockShape.{BlockShape}
use Rattle.std.specs.List.{range_with_len}
use Rattle.layout.specs.Bytes.{byte_at}
use Rattle.layout.specs.FaultNumber.{Fault}
use Rattle.layout.specs.Faults.{frame_fault, head_of}
use Rattle.layout.specs.Layout.{symbol_count}
use Rattle.frame_reader.specs.declared.error.ReadError.{ReadError}
use Rattle.frame_reader.specs.declared.read.Found.{Found}
use Rattle.frame_reader.specs.ErrorNumber.{Failure, of_call, of_frame}
use Rattle.layout.specs.Frames.{BeginsWith, frame_of, words_of}

-- the fault of the frame, with its word; if it has none, whatever number this call is refused with
abbrev pub fault_first : Option Fault → Option ℕ → Option Failure
fault_first (Some fault) later = Some (of_frame fault)
fault_first None (Some number) = Some (of_call number)
fault_first None None = None

-- the frame's own fault; then symbols of another width than w; and then an output of n symbols that is too short for the block
abbrev pub read_refusal : ℕ → List ℕ → ℕ → Option Failure
read_refusal w bs n =
    fault_first (frame_fault bs)
    (refused (not ((head_of bs).width == w)) 9
    (refused (nat_lt n (symbol_count (head_of bs).shape)) 5 accepted))

-- symbol i of the block that the bytes carry, and its first n symbols
abbrev pub symbol_in : {S : Type 0} → Bytes S → List ℕ → ℕ → S
symbol_in b bs i = b.read (map (byte_at bs) (range_with_len (i * b.width) b.width))

abbrev pub block_in : {S : Type 0} → Bytes S → List ℕ → ℕ → List S
block_in b bs n = map (symbol_in b bs) (range_with_len 0 n)

abbrev pub found_as : {S : Type 0} → Bytes S → ℕ → BlockShape → Found
found_as b slot x = record { slot = slot; shape = x; words = words_of b slot x }

-- the bytes begin with the frame of some block, and this is what was found; writing the block again gives the words that were used
pub record ReadAs {S : Type 0} (b : Bytes S) (bs : List ℕ) (old new : List S) (f : Found) : Type 0 where
  pub block : List S
  pub begins : BeginsWith b bs f.slot f.shape block
  pub words : f.words ≡ words_of b f.slot f.shape
  pub again : frame_of b f.slot f.shape block ≡ take (4 * f.words) bs
  pub laid : new ≡ written_over block old

-- whatever block's frame the bytes begin with, that block is read, where the output has room for it
abbrev pub AcceptsBlocks : {S : Type 0} → Bytes S → List ℕ → List S → List S → Result Found ReadError → Type 0
AcceptsBlocks {S} b bs old new r =
    (slot : ℕ) (x : BlockShape) (block : List S) → BeginsWith b bs slot x block → length block ≤ length old
    → (r ≡ Ok (found_as b slot x)) × (new ≡ written_over block old)
