-- Worked examples: a frame in each arithmetic, as words and as bytes, and damaged ones.
use Rattle.std.specs.Prelude.{◌≡◌, ℕ, List, [], ◌∷◌, ◌++◌, Some, None}
use Rattle.word.specs.declared.element.Word.{Word}
use Rattle.word.specs.Words.{word}
use Rattle.word.specs.Arithmetic.{word_strings}
use Rattle.byte.specs.declared.symbol.ByteSymbol.{ByteSymbol}
use Rattle.byte.specs.Arithmetic.{byte_strings}
use Rattle.layout.specs.declared.head.BlockShape.{BlockShape}
use Rattle.layout.specs.FaultNumber.{Fault}
use Rattle.layout.specs.Faults.{frame_fault}
use Rattle.layout.specs.Frames.{frame_of}
use Rattle.frame_writer.specs.Writing.{word_list}
use Rattle.examples.specs.Listed.{symbols}

-- K=2, P=1, L=1 in byte arithmetic, and the packet (5,6) with its parity 5, as the stream of the examples sends it in slot 2
abbrev pub narrow_shape : BlockShape
narrow_shape = record { sources = 2; parities = 1; symbols = 1 }

abbrev pub narrow_block : List ByteSymbol
narrow_block = symbols (5 ∷ 6 ∷ 5 ∷ [])

-- the first two words of its frame, as bytes
abbrev pub narrow_head : List ℕ
narrow_head = 0x10 ∷ 0x00 ∷ 0x00 ∷ 0x02 ∷ 0x22 ∷ 0x11 ∷ 0x00 ∷ 0x01 ∷ []

-- and all of them
abbrev pub narrow_bytes : List ℕ
narrow_bytes = narrow_head ++ (0x33 ∷ 0x05 ∷ 0x06 ∷ 0x05 ∷ 0x40 ∷ 0x00 ∷ 0x00 ∷ 0x03 ∷ [])

-- K=1, P=1, L=1 in word arithmetic, and the packet 05060708 with its parity 01020304, as that of words sends it in slot 1
abbrev pub wide_shape : BlockShape
wide_shape = record { sources = 1; parities = 1; symbols = 1 }

abbrev pub wide_block : List Word
wide_block = word 0x05060708 ∷ word 0x01020304 ∷ []

abbrev pub wide_bytes : List ℕ
wide_bytes =
    0x10 ∷ 0x00 ∷ 0x00 ∷ 0x01 ∷ 0x21 ∷ 0x14 ∷ 0x00 ∷ 0x01 ∷ 0x33 ∷ 0x05 ∷ 0x06 ∷ 0x07
    ∷ 0x33 ∷ 0x08 ∷ 0x01 ∷ 0x02 ∷ 0x32 ∷ 0x03 ∷ 0x04 ∷ 0x00 ∷ 0x40 ∷ 0x00 ∷ 0x00 ∷ 0x05 ∷ []

-- the fault with this number, of this word
abbrev pub fault : ℕ → ℕ → Fault
fault number word = record { number = number; word = word }

pub record FrameExamples : Type 0 where
  -- the words of a block's frame, and their bytes
  pub narrow_words : word_list byte_strings 2 narrow_shape narrow_block
      ≡ 0x10000002 ∷ 0x22110001 ∷ 0x33050605 ∷ 0x40000003 ∷ []
  pub narrow_frame : frame_of byte_strings 2 narrow_shape narrow_block ≡ narrow_bytes
  pub wide_words : word_list word_strings 1 wide_shape wide_block
      ≡ 0x10000001 ∷ 0x21140001 ∷ 0x33050607 ∷ 0x33080102 ∷ 0x32030400 ∷ 0x40000005 ∷ []
  pub wide_frame : frame_of word_strings 1 wide_shape wide_block ≡ wide_bytes
  -- neither has a fault, and what lies behind a frame is not looked at
  pub narrow_right : frame_fault (narrow_bytes ++ (99 ∷ [])) ≡ None
  pub wide_right : frame_fault wide_bytes ≡ None
  -- one that ends within its second word
  pub ends_early : frame_fault (0x10 ∷ 0x00 ∷ 0x00 ∷ 0x02 ∷ 0x22 ∷ 0x11 ∷ []) ≡ Some (fault 6 1)
  -- a count where the data word should be
  pub other_kind : frame_fault (
      narrow_head ++ (0x43 ∷ 0x05 ∷ 0x06 ∷ 0x05 ∷ 0x40 ∷ 0x00 ∷ 0x00 ∷ 0x03 ∷ []))
      ≡ Some (fault 7 2)
  -- a count of four words, where three come before it
  pub wrong_bits : frame_fault (
      narrow_head ++ (0x33 ∷ 0x05 ∷ 0x06 ∷ 0x05 ∷ 0x40 ∷ 0x00 ∷ 0x00 ∷ 0x04 ∷ []))
      ≡ Some (fault 8 3)
  -- a data word that says two bytes of three, and then no count: the first word at fault decides
  pub first_decides : frame_fault (
      narrow_head ++ (0x32 ∷ 0x05 ∷ 0x06 ∷ 0x00 ∷ 0x30 ∷ 0x00 ∷ 0x00 ∷ 0x03 ∷ []))
      ≡ Some (fault 8 2)
