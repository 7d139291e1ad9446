-- Different blocks have different frames. Assumes nothing.
use Rattle.std.proofs.Common.{◌≡◌, ℕ, List, [], ◌++◌, length, sym, ap, ◌∙◌, arith}
use Rattle.std.proofs.lemmas.List.{ext_get_or}
use Rattle.layout.specs.declared.head.Head.{Head}
use Rattle.layout.specs.Bytes.{byte_at}
use Rattle.layout.specs.Faults.{head_of}
use Rattle.layout.specs.Layout.{Lawful, byte_count, frame}
use Rattle.layout.proofs.Right.{head_of_frame, data_of_frame}

-- the same frame has the same head, hence as many bytes, and the same bytes
pub same_frame : (h k : Head) (ns ms : List ℕ) → Lawful h ns → Lawful k ms → frame h ns ≡ frame k ms → (h ≡ k) × (ns ≡ ms)
same_frame h k ns ms a b e =
    let head : h ≡ k = sym (head_of_frame h ns a []) ∙ ap (λ (l : List ℕ). head_of (l ++ [])) e ∙ head_of_frame k ms b [] in
    let long : length ns ≡ length ms = a.long ∙ ap byte_count head ∙ sym b.long in (
      head,
      ext_get_or 0 ns ms long (λ i within.
          sym (data_of_frame h ns a [] i within) ∙ ap (λ (l : List ℕ). byte_at (l ++ []) i) e ∙ data_of_frame k ms b [] i (omega arith)),
    )
