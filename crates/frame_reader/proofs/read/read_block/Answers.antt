use Rattle.std.proofs.Common.{◌≡◌, ◌+◌, List, [], ◌∷◌, ◌++◌, drop, set, sym, ap, ◌∙◌, arith}
use Rattle.fills.proofs.Fill.{over_more}
use Rattle.std.proofs.lemmas.List.FromFn.{length-map-range_with_len, map-range_with_len_more}
use Rattle.frame_reader.specs.Reading.{symbol_in, block_in}
use Rattle.frame_reader.proofs.read.read_block.Goals as goal

pub loop-i-preserved : goal.loop-i-preserved
loop-i-preserved g c =
    let b = g.A.Arithmetic.bytes in
    let bs = c.args.bytes.now in
    let old = c.args.block.now in
    let i = c.loop-i.i in
    let x = c.symbol_at.result in
    let more : block_in b bs i ++ x ∷ [] ≡ block_in b bs (i + 1) =
    ap (λ (y : g.row.A-Sym.Denot). block_in b bs i ++ y ∷ []) c.symbol_at.ensures ∙ sym (map-range_with_len_more (symbol_in b bs) 0 i i (omega arith)) in
    ap (λ (l : List g.row.A-Sym.Denot). set l i x) c.loop-i.invariant
    ∙ over_more (block_in b bs i) old i x (length-map-range_with_len (symbol_in b bs) 0 i) (omega arith)
    ∙ ap (λ (l : List g.row.A-Sym.Denot). l ++ drop (i + 1) old) more
