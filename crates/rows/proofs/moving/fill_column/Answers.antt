use Rattle.std.proofs.Common.{◌≡◌, ◌+◌, ◌*◌, ◌≤◌, ◌≢◌, ◌⊎◌, inl, inr, length, get_or, slice_set, ◌∙◌, get_or-set_same, get_or-set_other, arith}
use borrow.Author.Count.{below_more}
use Rattle.rows.proofs.Places.{place_within, other_column}
use Rattle.rows.proofs.moving.fill_column.Goals as goal

pub loop-row-preserved : goal.loop-row-preserved
loop-row-preserved g c =
    let w = c.args.width in
    let column = c.args.column in
    let row = c.loop-row.row in
    let items = c.loop-row.items in
    let at = row * w + column in
    let within = place_within row c.args.count w (length items) column (omega arith) (omega arith) c.requires.within.1 in
    record {
      filled = λ r d h. below_more (λ q. get_or (slice_set items at c.args.item) (q * w + column) d ≡ c.args.item) row
          (λ q m. get_or-set_other items at (q * w + column) c.args.item d
          (other_column q row w column column c.requires.within.1 c.requires.within.1 (inl (λ e. omega arith)))
          ∙ c.loop-row.invariant.filled q d m)
          (get_or-set_same items at c.args.item d within) r h;
      others = λ r u d h side.
          let apart : (r ≢ row) ⊎ (u ≢ column) = elim side [ inl behind ↦ inl (λ e. omega arith) | inr other ↦ inr other ] in
          let unwritten : (row ≤ r) ⊎ (u ≢ column) = elim side [ inl behind ↦ inl (omega arith) | inr other ↦ inr other ] in
          get_or-set_other items at (r * w + u) c.args.item d (other_column r row w u column h c.requires.within.1 apart)
          ∙ c.loop-row.invariant.others r u d h unwritten;
    }
