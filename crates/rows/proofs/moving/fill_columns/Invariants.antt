use Rattle.std.proofs.Common.{◌≡◌, ℕ, ◌+◌, ◌*◌, ◌<◌, ◌≤◌, ◌⊎◌, get_or}
use Rattle.rows.proofs.moving.fill_columns.Given as goal

abbrev pub invariant-loop-column : goal.invariant-loop-column
invariant-loop-column g l = record {
  filled : (r u : ℕ) (d : _) → r < l.count → u < l.column → l.start ≤ u → get_or l.items (r * l.width + u) d ≡ l.item;
  others : (r u : ℕ) (d : _) → u < l.width → (l.count ≤ r) ⊎ ((u < l.start) ⊎ (l.column ≤ u)) → get_or l.items (r * l.width + u) d ≡ get_or l.fn.items (r * l.width + u) d;
}

abbrev pub invariant-loop-row : goal.invariant-loop-row
invariant-loop-row g l = record {
  filled : (r u : ℕ) (d : _) → r < l.row → u < l.width → l.start ≤ u → get_or l.items (r * l.width + u) d ≡ l.item;
  others : (r u : ℕ) (d : _) → u < l.width → (l.row ≤ r) ⊎ (u < l.start) → get_or l.items (r * l.width + u) d ≡ get_or l.fn.items (r * l.width + u) d;
}
