use Rattle.std.proofs.Common.{◌≡◌, ℕ, ◌<◌, List, [], length, get_or, Ok, Err, sym, ap, ◌∙◌, subst, arith}
use Rattle.std.specs.Simd.{first_chunks}
use Rattle.std.proofs.lemmas.Result.{err_from_is_err_and}
use Rattle.layout.specs.declared.fault.FrameFault.{FrameFault}
use Rattle.layout.specs.FaultNumber.{fault_of}
use Rattle.layout.specs.Words.{word_in}
use Rattle.layout.proofs.Chunks.{word_of_chunk}
use Rattle.layout.proofs.Framed.{framed}
use Rattle.frame_reader.specs.declared.check.Checked.{Checked}
use Rattle.frame_reader.proofs.Exactly.{no_frame, one_frame}
use Rattle.frame_reader.proofs.Waiting.{Reached, onward, whole, said, faulty, missing}
use Rattle.frame_reader.proofs.check.check.Goals as goal

-- the word that was read
read_word : (bs : List ℕ) (chunks : List (List ℕ)) (k i w : ℕ) → chunks ≡ first_chunks 4 k bs → i < k → w ≡ word_in (get_or chunks i []) 0 → w ≡ word_in bs i
read_word bs chunks k i w are within is = is ∙ ap (λ (l : List (List ℕ)). word_in (get_or l i []) 0) are ∙ word_of_chunk bs k i within

pub returns-in_err-next : goal.returns-in_err-next
returns-in_err-next c =
    let bs = c.args.bytes.now in
    let i = c.loop-i.i in
    let word = read_word bs _ _ i _ c.as_chunks.ensures.front (omega arith) c.from_be_bytes.ensures in
    let fault = c.in_err-next.field-0.0 in
    let left = err_from_is_err_and c.from_residual.result c.from_residual.ensures.1 in
    let is : c.from_residual.result ≡ Err fault = left.1 ∙ ap (λ (f : FrameFault). Err f) left.2 in
    let found = faulty bs i c.loop-i.expected _ c.loop-i.invariant (omega arith) word (fault_of fault) c.in_err-next.ensures.fault in
    rw is record { fault = sym found; framed = tt; exactly = no_frame bs _ (fault_of fault) found }

pub returns-in-Break : goal.returns-in-Break
returns-in-Break c =
    let bs = c.args.bytes.now in
    let i = c.loop-i.i in
    let e = c.loop-i.expected in
    let word = read_word bs _ _ i _ c.as_chunks.ensures.front (omega arith) c.from_be_bytes.ensures in
    let to = sym c.in-Break.is ∙ c.in_ok-next.ensures.next in
    let none = whole bs i e _ c.loop-i.invariant (omega arith) word c.in_ok-next.ensures.fault c.in-Break.head to in
    let says = said bs i e _ c.loop-i.invariant (omega arith) word c.in_ok-next.ensures.fault c.in-Break.head to in
    record {
      fault = sym none;
      framed = record { says = says; begins = framed bs (λ n. (c.type_inv.bytes n).fits) none };
      exactly = one_frame bs _ (ap (λ (x : Checked). Ok x) says);
    }

pub loop-i-preserved : goal.loop-i-preserved
loop-i-preserved c =
    let bs = c.args.bytes.now in
    let i = c.loop-i.i in
    let word = read_word bs _ _ i _ c.as_chunks.ensures.front (omega arith) c.from_be_bytes.ensures in
    onward bs i c.loop-i.expected _ c.loop-i.invariant (omega arith) word c.in_ok-next.ensures.fault c.in-Continue.next
    (sym c.in-Continue.is ∙ c.in_ok-next.ensures.next)

pub returns : goal.returns
returns c =
    let bs = c.args.bytes.now in
    let n = length c.as_chunks.result.0.now in
    let end : c.loop-i.i ≡ n = omega arith in
    let found = missing bs n c.loop-i.expected (subst (λ m. Reached bs m c.loop-i.expected) end c.loop-i.invariant) (omega arith) in
    record { fault = sym found; framed = tt; exactly = no_frame bs _ _ found }
