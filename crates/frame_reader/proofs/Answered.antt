-- What reading answers, case by case. Assumes nothing.
use Rattle.std.proofs.Common.{◌≡◌, ℕ, ◌+◌, ◌*◌, ◌<◌, ◌≤◌, List, ◌++◌, length, get_or, drop, Some, Ok, Result, sym, ap, ◌∙◌, subst, arith, length-append}
use Rattle.std.proofs.lemmas.List.FromFn.{length-map-range_with_len}
use Rattle.fills.specs.Over.{written_over}
use Rattle.arithmetic.specs.Laws.{ByteLaws}
use Rattle.arithmetic.specs.Operations.{Bytes}
use Rattle.layout.specs.declared.head.Head.{Head}
use Rattle.layout.specs.Bytes.{data_of}
use Rattle.layout.specs.FaultNumber.{Fault}
use Rattle.layout.specs.Faults.{frame_fault, head_of, word_count}
use Rattle.layout.specs.Frames.{BeginsWith, head_for, words_of}
use Rattle.layout.specs.Layout.{byte_count, count_of_data, frame, symbol_count}
use Rattle.layout.proofs.Limits.{few_symbols}
use Rattle.layout.proofs.Right.{length_frame}
use Rattle.frame_reader.specs.declared.check.Checked.{Checked}
use Rattle.frame_reader.specs.declared.error.ReadError.{ReadError}
use Rattle.frame_reader.specs.declared.read.Found.{Found}
use Rattle.frame_reader.specs.Checking.{Framed}
use Rattle.frame_reader.specs.Reading.{AcceptsBlocks, ReadAs, block_in, found_as, symbol_in}
use Rattle.frame_reader.proofs.Carried.{carries, its_block, its_head, no_fault, used}
use Rattle.frame_reader.proofs.Exactly.{never}

module _ {S : Type 0} (b : Bytes S) (laws : ByteLaws b) (bs : List ℕ) (small : (n : ℕ) → get_or bs n 0 < 256) (old : List S) where
  -- the frame is at fault
  pub fault_exactly : (fault : Fault) → frame_fault bs ≡ Some fault → (r : Result Found ReadError) → AcceptsBlocks b bs old old r
  fault_exactly fault found r slot x block begins room = never (frame_fault bs) fault found (no_fault b laws bs small slot x block begins)

  -- it is not, and says this
  module _ (k : Checked) (framed : Framed bs k) where
    head : k.head ≡ head_of bs
    head = ap (λ (x : Checked). x.head) framed.says

    -- its symbols are of another width
    pub other_exactly : (k.head.width ≡ b.width → ⊥) → (r : Result Found ReadError) → AcceptsBlocks b bs old old r
    other_exactly other r slot x block begins room = absurd (other (ap (λ (h : Head). h.width) (head ∙ its_head b laws bs small slot x block begins)))

    -- the output is too short for its block
    pub short_exactly : length old < symbol_count k.head.shape → (r : Result Found ReadError) → AcceptsBlocks b bs old old r
    short_exactly short r slot x block begins room =
        let shape = ap (λ (h : Head). symbol_count h.shape) (head ∙ its_head b laws bs small slot x block begins) in
        absurd (omega (arith, begins.0.long))

    -- its block is read
    module _ (n : ℕ) (many : n ≡ symbol_count k.head.shape) (wide : k.head.width ≡ b.width) where
      -- it is small, and its bytes are there
      pub few : n ≤ 384
      few =
          let shape : n ≡ symbol_count (head_of bs).shape = many ∙ ap (λ (h : Head). symbol_count h.shape) head in
          omega (arith, few_symbols (head_of bs).shape framed.begins.0.shape)

      pub there : 4 * (2 + count_of_data (n * b.width)) ≤ length bs
      there =
          let rest = framed.begins.1.0 in
          let long : length bs ≡ 4 * word_count (head_of bs) + length rest =
          ap length framed.begins.1.1 ∙ length-append (frame (head_of bs) (data_of bs)) rest
          ∙ ap (λ m. m + length rest) (length_frame (head_of bs) (data_of bs) framed.begins.0) in
          let size : n * b.width ≡ byte_count (head_of bs) =
          ap (λ m. m * b.width) many ∙ ap (λ w. symbol_count k.head.shape * w) (sym wide) ∙ ap byte_count head in
          rw size (omega arith)

      module _ (block : List S) (is : block ≡ block_in b bs n) where
        abbrev found : Found
        found = record { slot = k.head.slot; shape = k.head.shape; words = k.words }

        words : k.words ≡ words_of b k.head.slot k.head.shape
        words =
            let all : k.head ≡ head_for b k.head.slot k.head.shape = ap (λ w. record { slot = k.head.slot; shape = k.head.shape; width = w }) wide in
            ap (λ (x : Checked). x.words) framed.says ∙ ap word_count (sym head ∙ all)

        laid : block ++ drop n old ≡ written_over block old
        laid = ap (λ m. block ++ drop m old) (sym (ap length is ∙ length-map-range_with_len (symbol_in b bs) 0 n))

        pub read_as : ReadAs b bs old (block ++ drop n old) found
        read_as =
            let same : block_in b bs (symbol_count k.head.shape) ≡ block = ap (block_in b bs) (sym many) ∙ sym is in
            let begins : BeginsWith b bs k.head.slot k.head.shape block =
            subst (λ (l : List S). BeginsWith b bs k.head.slot k.head.shape l) same
            (subst (λ (h : Head). BeginsWith b bs h.slot h.shape (block_in b bs (symbol_count h.shape))) (sym head)
            (carries b laws bs small framed.begins (ap (λ (h : Head). h.width) (sym head) ∙ wide))) in
            record { block = block; begins = begins; words = words; again = used b laws bs k.head.slot k.head.shape block begins k.words words; laid = laid }

        pub read_exactly : AcceptsBlocks b bs old (block ++ drop n old) (Ok found)
        read_exactly slot x other begins enough =
            let all : k.head ≡ head_for b slot x = head ∙ its_head b laws bs small slot x other begins in
            let says : found ≡ found_as b k.head.slot k.head.shape = ap (λ m. record { slot = k.head.slot; shape = k.head.shape; words = m }) words in
            let same : block ≡ other =
            is ∙ ap (block_in b bs) many ∙ ap (λ (h : Head). block_in b bs (symbol_count h.shape)) all ∙ sym (its_block b laws bs small slot x other begins) in (
              ap (λ (f : Found). Ok f) (says ∙ ap (λ (h : Head). found_as b h.slot h.shape) all),
              laid ∙ ap (λ (l : List S). l ++ drop (length l) old) same,
            )
