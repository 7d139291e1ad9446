use Rattle.std.proofs.Common.{◌≡◌, ℕ, ◌+◌, ◌-◌, ◌*◌, ◌<◌, ◌≤◌, ◌≢◌, ◌⊎◌, inl, inr, get_or, subst, ◌∙◌, of_calls, arith}
use borrow.Author.Count.{below_more}
use Rattle.rows.proofs.Places.{outside_columns}
use Rattle.rows.proofs.moving.fill_columns.Goals as goal

pub loop-row-preserved : goal.loop-row-preserved
loop-row-preserved g c =
    let w = c.args.width in
    let start = c.args.start in
    let row = c.loop-row.row in
    let new = c.change.new.items in
    record {
      filled = λ r u d h k l. below_more (λ q. get_or new (q * w + u) d ≡ c.args.item) row
          (λ q m. c.change.ensures.others (q * w + u) d (outside_columns q row w start u c.requires.within.1 k (inl (λ e. omega arith)))
          ∙ c.loop-row.invariant.filled q u d m k l)
          (let written = c.change.ensures.changed (u - start) d (omega arith) in
          let there : get_or new (row * w + start + (u - start)) d ≡ c.args.item = search of_calls in
          subst (λ (i : ℕ). get_or new i d ≡ c.args.item) (omega arith) there)
          r h;
      others = λ r u d k side.
          let elsewhere : (r ≢ row) ⊎ (u < start) = elim side [ inl behind ↦ inl (λ e. omega arith) | inr before ↦ inr before ] in
          let unwritten : (row ≤ r) ⊎ (u < start) = elim side [ inl behind ↦ inl (omega arith) | inr before ↦ inr before ] in
          c.change.ensures.others (r * w + u) d (outside_columns r row w start u c.requires.within.1 k elsewhere)
          ∙ c.loop-row.invariant.others r u d k unwritten;
    }
