-- What is printed of a word, without the end of the line. Lists hold the codes of characters. Assumes nothing.
use Rattle.std.specs.Prelude.{ℕ, zero, suc, List, ◌++◌, Some, None, Option, take, drop, codes, decimal}
use Rattle.std.specs.List.{flat_map}
use Rattle.hextext.specs.Digits.{byte_text}
use Rattle.layout.specs.declared.words.Kind.{Kind}
use Rattle.layout.specs.declared.words.Kind.TheVariants.{Slot, Shape, Data, Count}
use Rattle.layout.specs.Kinds.{kind_of}
use Rattle.layout.specs.Words.{bits, word_bytes}

-- the kind that has this number
abbrev pub kind_numbered : ℕ → Option Kind
kind_numbered zero = None
kind_numbered (suc zero) = Some Slot
kind_numbered (suc (suc zero)) = Some Shape
kind_numbered (suc (suc (suc zero))) = Some Data
kind_numbered (suc (suc (suc (suc zero)))) = Some Count
kind_numbered (suc (suc (suc (suc (suc n))))) = None

-- the bytes that a word of data says it carries: so many of the three behind its first, and no more than there are
abbrev pub data_in : ℕ → List ℕ
data_in w = take (bits 27 24 w) (drop 1 (word_bytes w))

-- what a word says, by its kind
abbrev pub says : Option Kind → ℕ → List ℕ
says (Some Slot) w = codes "slot " ++ decimal (bits 27 0 w)
says (Some Shape) w =
    codes "shape K=" ++ (decimal (bits 27 24 w) ++ (codes " P=" ++ (decimal (bits 23 20 w) ++ (codes " width=" ++ (decimal (bits 19 16 w) ++ (codes " L=" ++ decimal (bits 15 0 w)))))))
says (Some Data) w = codes "data " ++ decimal (bits 27 24 w) ++ codes " bytes " ++ flat_map byte_text (data_in w)
says (Some Count) w = codes "count " ++ decimal (bits 27 0 w)
says None w = codes "unknown kind " ++ decimal (kind_of w)

-- word i of a frame: which it is, its four bytes, and what it says
abbrev pub text_of_word : ℕ → ℕ → List ℕ
text_of_word i w = codes "word " ++ decimal i ++ codes " " ++ flat_map byte_text (word_bytes w) ++ codes " " ++ says (kind_numbered (kind_of w)) w
