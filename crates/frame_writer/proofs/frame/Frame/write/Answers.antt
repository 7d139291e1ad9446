use Rattle.std.proofs.Common.{◌≡◌, ◌+◌, ◌-◌, get_or, refl, ap, ◌∙◌, arith}
use Rattle.std.specs.List.{flat_map}
use Rattle.layout.specs.Layout.{word_of_data}
use Rattle.frame_writer.specs.Writing.{word_list}
use Rattle.frame_writer.proofs.Listed.{counted, data_listed, length_list}
use Rattle.frame_writer.proofs.Puts.{laid_more, laid_all}
use Rattle.frame_writer.proofs.frame.Frame.write.Goals as goal

pub loop-j-init : goal.loop-j-init
loop-j-init g c =
    let b = g.A.Arithmetic.bytes in
    let strings = g.met.A.Arithmetic.strings in
    let f = c.args.self.now in
    let words = word_list b f.slot f.shape f.block.now in
    let size = length_list b strings f.slot f.shape f.block.now f.within in
    let all = counted b strings f.slot f.shape f.block.now f.within in
    let old = c.args.out.now in
    let first = laid_more words old old c.put_word.new.out 0 (omega (arith, size, all)) refl (rw c.word.ensures at c.put_word.ensures) in
    laid_more words old c.put_word.new.out c.put_word-2.new.out 1 (omega (arith, size, all)) first (rw c.word-2.ensures at c.put_word-2.ensures)

pub put_word-requires-in-loop-j : goal.put_word-requires-in-loop-j
put_word-requires-in-loop-j g c =
    let f = c.args.self.now in
    omega (arith, counted g.A.Arithmetic.bytes g.met.A.Arithmetic.strings f.slot f.shape f.block.now f.within)

pub loop-j-preserved : goal.loop-j-preserved
loop-j-preserved g c =
    let b = g.A.Arithmetic.bytes in
    let strings = g.met.A.Arithmetic.strings in
    let f = c.args.self.now in
    let words = word_list b f.slot f.shape f.block.now in
    let j = c.loop-j.j in
    let before : j ≡ 2 + j - 2 = omega arith in
    let next : c.data_word.result ≡ get_or words (2 + j) 0 =
    c.data_word.ensures ∙ ap (word_of_data (flat_map b.write f.block.now)) before
    ∙ data_listed b strings f.slot f.shape f.block.now f.within (2 + j) (omega arith) (omega arith) in
    let more = laid_more words c.args.out.now c.loop-j.out c.put_word-in-loop-j.new.out (2 + j)
    (omega (arith, length_list b strings f.slot f.shape f.block.now f.within, counted b strings f.slot f.shape f.block.now f.within))
    c.loop-j.invariant (rw next at c.put_word-in-loop-j.ensures) in
    let behind : 2 + (j + 1) ≡ 2 + j + 1 = omega arith in
    rw behind more

pub word-requires-3 : goal.word-requires-3
word-requires-3 g c =
    let f = c.args.self.now in
    omega (arith, counted g.A.Arithmetic.bytes g.met.A.Arithmetic.strings f.slot f.shape f.block.now f.within)

pub put_word-requires-3 : goal.put_word-requires-3
put_word-requires-3 g c =
    let f = c.args.self.now in
    omega (arith, counted g.A.Arithmetic.bytes g.met.A.Arithmetic.strings f.slot f.shape f.block.now f.within)

pub returns : goal.returns
returns g c =
    let b = g.A.Arithmetic.bytes in
    let strings = g.met.A.Arithmetic.strings in
    let f = c.args.self.now in
    let words = word_list b f.slot f.shape f.block.now in
    let size = length_list b strings f.slot f.shape f.block.now f.within in
    let all = counted b strings f.slot f.shape f.block.now f.within in
    let ended : c.data_count-count.result ≡ c.loop-j.j = omega arith in
    let put = rw (c.word-3.ensures, ended) at c.put_word-3.ensures in
    let laid = laid_more words c.args.out.now c.loop-j.out c.put_word-3.new.out (2 + c.loop-j.j) (omega (arith, size, all)) c.loop-j.invariant put in
    laid_all words c.args.out.now c.put_word-3.new.out (2 + c.loop-j.j + 1) (omega (arith, size, all)) laid
