use Rattle.std.proofs.Common.{◌≡◌, ℕ, ◌+◌, ◌*◌, ◌%◌, true, false, ◌∙◌, arith}
use lib.Bits.{bit_or}
use Rattle.std.proofs.lemmas.Nat.{or_lt, or_shifted}
use Rattle.layout.specs.declared.head.BlockShape.{BlockShape}
use Rattle.layout.specs.Layout.{is_width, outside_shape}
use Rattle.layout.proofs.Blocks.{lawful_block}
use Rattle.layout.proofs.Limits.{sources_within, parities_within, symbols_within, width_within}
use Rattle.frame_writer.proofs.frame.Frame.shape_word.Goals as goal

-- each field fits below the ones before it
fields : (x : BlockShape) (w : ℕ) → outside_shape x ≡ false → is_width w ≡ true
    → bit_or (bit_or (bit_or (x.sources * 16777216 % 4294967296) (x.parities * 1048576 % 4294967296)) (w * 65536 % 4294967296)) x.symbols
    ≡ x.sources * 16777216 + x.parities * 1048576 + w * 65536 + x.symbols
fields x w right width =
    let k = x.sources in
    let p = x.parities in
    let l = x.symbols in
    let hk = (sources_within x right).1 in
    let hp = (parities_within x right).1 in
    let hl = (symbols_within x right).1 in
    let hw = (width_within w width).1 in
    let wk : k * 16777216 % 4294967296 ≡ k * 16777216 = omega arith in
    let wp : p * 1048576 % 4294967296 ≡ p * 1048576 = omega arith in
    let ww : w * 65536 % 4294967296 ≡ w * 65536 = omega arith in
    let a : bit_or (k * 16777216) (p * 1048576) ≡ (16 * k + p) * 1048576 = or_shifted k 24 (p * 1048576) (omega arith) ∙ omega arith in
    let b : bit_or ((16 * k + p) * 1048576) (w * 65536) ≡ (256 * k + 16 * p + w) * 65536 =
    or_shifted (16 * k + p) 20 (w * 65536) (omega arith) ∙ omega arith in
    rw (wk, wp, ww, a, b) (or_shifted (256 * k + 16 * p + w) 16 l (omega arith) ∙ omega arith)

pub word_of-requires : goal.word_of-requires
word_of-requires g c =
    let b = g.A.Arithmetic.bytes in
    let f = c.args.self.now in
    let lawful = lawful_block b g.met.A.Arithmetic.strings f.slot f.shape f.block.now f.within in
    let k = (sources_within f.shape lawful.shape).1 in
    let p = (parities_within f.shape lawful.shape).1 in
    let l = (symbols_within f.shape lawful.shape).1 in
    let w = rw (← c.symbol_width-width.ensures) at (width_within b.width lawful.width).1 in
    grind (arith, or_lt 28)

pub returns : goal.returns
returns g c =
    let b = g.A.Arithmetic.bytes in
    let f = c.args.self.now in
    let lawful = lawful_block b g.met.A.Arithmetic.strings f.slot f.shape f.block.now f.within in
    rw c.symbol_width-width.ensures at c.word_of.ensures ∙ rw (fields f.shape b.width lawful.shape lawful.width) (omega arith)
