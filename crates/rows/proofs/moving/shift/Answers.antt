use Rattle.std.proofs.Common.{◌≡◌, ℕ, ◌+◌, ◌-◌, ◌*◌, ◌≤◌, inl, inr, get_or, ap, subst, ◌∙◌, of_calls, mul-le-mul_right, add-mul, arith}
use Rattle.std.proofs.lemmas.Bool.{cases_lt}
use Rattle.rows.proofs.Places.{row_before}
use Rattle.rows.proofs.moving.shift.Goals.{then-up-rows, else-up-rows}
use Rattle.rows.proofs.moving.shift.Goals as goal

pub returns-clause-moved : goal.returns-clause-moved
returns-clause-moved g c r u d h k =
    let w = c.args.width in
    let staying = c.args.rows - c.args.up in
    let up = row_before r staying w (omega arith) in
    let onward = row_before (r + c.args.up) c.args.rows w h in
    let apart = add-mul r c.args.up w in
    c.change.ensures.others (r * w + u) d (inl (omega arith)) ∙ c.fill_columns.ensures.others r u d (omega arith) (inr (omega arith))
    ∙ elim c.if-up-rows.branch [
      | then-up-rows b ↦
          ap (λ xs. get_or xs (r * w + u) d) b.items-is
          ∙ b.copy_within.ensures.by_index.0 (r * w + u) d (omega arith) (omega arith)
          ∙ ap (λ (i : ℕ). get_or c.args.items.now i d) (omega arith)
      | else-up-rows b ↦ absurd (omega (arith, b.if-up-rows))
    ]

pub returns-clause-filled : goal.returns-clause-filled
returns-clause-filled g c r u d h k side =
    let w = c.args.width in
    let staying = c.args.rows - c.args.up in
    let new = c.change.new.items in
    elim (cases_lt r staying) [
      | inl stays ↦
          let up = row_before r staying w stays in
          let column : w - c.args.left ≤ u = elim side [ inl goes ↦ absurd (omega arith) | inr last ↦ omega arith ] in
          c.change.ensures.others (r * w + u) d (inl (omega arith)) ∙ c.fill_columns.ensures.filled r u d stays k column
      | inr goes ↦
          let start : staying * w ≤ r * w = mul-le-mul_right w goes in
          let all = add-mul staying c.args.up w in
          let whole : (staying + c.args.up) * w ≡ c.args.rows * w = ap (λ (n : ℕ). n * w) (omega arith) in
          let end = row_before r c.args.rows w h in
          let written = c.change.ensures.changed (r * w + u - staying * w) d (omega arith) in
          let there : get_or new (staying * w + (r * w + u - staying * w)) d ≡ c.args.item = search of_calls in
          subst (λ (i : ℕ). get_or new i d ≡ c.args.item) (omega arith) there
    ]
