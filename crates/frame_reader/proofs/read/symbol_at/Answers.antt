use Rattle.std.proofs.Common.{◌≡◌, ℕ, ◌*◌, ◌≤◌, List, ◌++◌, map, length, take, sym, ap, ◌∙◌, inl, inr, arith}
use Rattle.std.specs.List.{range_with_len}
use Rattle.std.proofs.lemmas.List.{length-take-le, take_all, take_at}
use Rattle.layout.specs.Bytes.{byte_at}
use Rattle.frame_reader.proofs.Carried.{byte_more}
use Rattle.frame_reader.proofs.read.symbol_at.Goals as goal

-- a front that is filled to its end
filled : (f : ℕ → ℕ) (front rest : List ℕ) (a j w : ℕ) → length front ≡ w → j ≡ w → take j front ≡ map f (range_with_len a j)
    → take w (front ++ rest) ≡ map f (range_with_len a w)
filled f front rest a j w long end is =
    take_at front rest w long ∙ sym (take_all j front (omega arith)) ∙ is ∙ ap (λ n. map f (range_with_len a n)) end

pub loop-j-preserved : goal.loop-j-preserved
loop-j-preserved g c =
    byte_more (byte_at c.args.bytes.now) c.loop-j.byte-items (c.args.i * c.symbol_width-width.result) c.loop-j.j (omega arith) c.loop-j.invariant

pub returns : goal.returns
returns g c =
    let b = g.A.Arithmetic.bytes in
    let f = byte_at c.args.bytes.now in
    let w = c.symbol_width-width.result in
    let four : w ≤ 4 = elim g.met.A.Arithmetic.strings.widths [ inl e ↦ omega (arith, e) | inr e ↦ omega (arith, e) ] in
    let whole : length (take w _) ≡ w = length-take-le w _ four in
    let wide : w ≡ b.width = c.symbol_width-width.ensures in
    c.from_bytes.ensures
    ∙ ap b.read (filled f c.loop-j.byte-items _ (c.args.i * w) c.loop-j.j b.width (c.loop-j.auto.byte-items ∙ whole ∙ wide) (omega arith) c.loop-j.invariant)
    ∙ ap (λ n. b.read (map f (range_with_len (c.args.i * n) b.width))) wide
