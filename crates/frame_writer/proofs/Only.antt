-- No two blocks have the same frame. Assumes nothing.
use Rattle.std.proofs.Common.{◌≡◌, ℕ, List, length, sym, ap, ◌∙◌}
use Rattle.std.specs.List.{flat_map}
use Rattle.arithmetic.specs.Laws.{ByteLaws}
use Rattle.arithmetic.specs.Operations.{Bytes}
use Rattle.layout.specs.declared.head.BlockShape.{BlockShape}
use Rattle.layout.specs.declared.head.Head.{Head}
use Rattle.layout.specs.Layout.{symbol_count}
use Rattle.layout.proofs.Same.{same_frame}
use Rattle.layout.specs.Frames.{Within, head_for}
use Rattle.frame_writer.specs.Writing.{NoOther}
use Rattle.layout.proofs.Blocks.{lawful_block, same_block}

pub no_other : {S : Type 0} (b : Bytes S) → ByteLaws b → (slot : ℕ) (x : BlockShape) (block : List S) → Within slot x block → NoOther b slot x block
no_other b laws slot x block within slot2 x2 block2 within2 same =
    let both = same_frame (head_for b slot2 x2) (head_for b slot x) (flat_map b.write block2) (flat_map b.write block)
    (lawful_block b laws slot2 x2 block2 within2) (lawful_block b laws slot x block within) same in
    let shape : x2 ≡ x = ap (λ (h : Head). h.shape) both.0 in
    let long : length block2 ≡ length block = within2.long ∙ ap symbol_count shape ∙ sym within.long in
    (ap (λ (h : Head). h.slot) both.0, (shape, same_block b laws block2 block long both.1))
