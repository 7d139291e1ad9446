use Rattle.std.proofs.Common.{◌≡◌, ℕ, length, take, sym, ap, ◌∙◌, arith}
use Rattle.std.proofs.lemmas.List.{length-take-le}
use Rattle.frame_reader.specs.Reading.{block_in}
use Rattle.frame_reader.proofs.Answered.{fault_exactly, other_exactly, short_exactly, few, there, read_exactly, read_as}
use Rattle.frame_reader.proofs.read.read.Goals as goal

pub returns-in_err-head-clause-exactly : goal.returns-in_err-head-clause-exactly
returns-in_err-head-clause-exactly g c =
    let small = λ (n : ℕ). (c.type_inv.bytes n).fits in
    fault_exactly g.A.Arithmetic.bytes g.met.A.Arithmetic.strings c.args.bytes.now small c.args.out.now _ (sym c.in_err-head.ensures.fault) _

pub returns-then-head-symbol_width-clause-exactly : goal.returns-then-head-symbol_width-clause-exactly
returns-then-head-symbol_width-clause-exactly g c =
    let small = λ (n : ℕ). (c.type_inv.bytes n).fits in
    let framed = c.in_ok-head.ensures.framed in
    other_exactly g.A.Arithmetic.bytes g.met.A.Arithmetic.strings c.args.bytes.now small c.args.out.now c.in_ok-head.field-0 framed
    (λ wide. c.if-head-symbol_width.true (wide ∙ sym c.symbol_width.ensures)) _

pub returns-then-out-count-clause-exactly : goal.returns-then-out-count-clause-exactly
returns-then-out-count-clause-exactly g c =
    let small = λ (n : ℕ). (c.type_inv.bytes n).fits in
    let framed = c.in_ok-head.ensures.framed in
    short_exactly g.A.Arithmetic.bytes g.met.A.Arithmetic.strings c.args.bytes.now small c.args.out.now c.in_ok-head.field-0 framed (omega arith) _

pub read_block-requires : goal.read_block-requires
read_block-requires g c =
    let b = g.A.Arithmetic.bytes in
    let small = λ (n : ℕ). (c.type_inv.bytes n).fits in
    let k = c.in_ok-head.field-0 in
    let framed = c.in_ok-head.ensures.framed in
    let count = c.symbol_count-count in
    let wide = c.if-head-symbol_width.false ∙ c.symbol_width.ensures in
    let whole : length (take count.result c.args.out.now) ≡ count.result = length-take-le count.result c.args.out.now c.if-out-count.false in
    let laws = g.met.A.Arithmetic.strings in
    rw whole record {
      small = few b laws c.args.bytes.now small c.args.out.now k framed count.result count.ensures wide;
      within = there b laws c.args.bytes.now small c.args.out.now k framed count.result count.ensures wide;
    }

pub returns-clause-block : goal.returns-clause-block
returns-clause-block g c =
    let b = g.A.Arithmetic.bytes in
    let small = λ (n : ℕ). (c.type_inv.bytes n).fits in
    let framed = c.in_ok-head.ensures.framed in
    let count = c.symbol_count-count in
    let wide = c.if-head-symbol_width.false ∙ c.symbol_width.ensures in
    let is = c.read_block.ensures ∙ ap (block_in b c.args.bytes.now) (length-take-le count.result c.args.out.now c.if-out-count.false) in
    read_as b g.met.A.Arithmetic.strings c.args.bytes.now small c.args.out.now c.in_ok-head.field-0 framed count.result count.ensures wide
    c.read_block.new.block is

pub returns-clause-exactly : goal.returns-clause-exactly
returns-clause-exactly g c =
    let b = g.A.Arithmetic.bytes in
    let small = λ (n : ℕ). (c.type_inv.bytes n).fits in
    let framed = c.in_ok-head.ensures.framed in
    let count = c.symbol_count-count in
    let wide = c.if-head-symbol_width.false ∙ c.symbol_width.ensures in
    let is = c.read_block.ensures ∙ ap (block_in b c.args.bytes.now) (length-take-le count.result c.args.out.now c.if-out-count.false) in
    read_exactly b g.met.A.Arithmetic.strings c.args.bytes.now small c.args.out.now c.in_ok-head.field-0 framed count.result count.ensures wide
    c.read_block.new.block is
