use Rattle.std.proofs.Common.{◌≡◌, ℕ, ◌+◌, ◌*◌, ◌<◌, ◌≤◌, ◌≢◌, ◌⊎◌, get_or}
use Rattle.rows.proofs.moving.fill_column.Given as goal

abbrev pub invariant-loop-row : goal.invariant-loop-row
invariant-loop-row g l = record {
  filled : (r : ℕ) (d : _) → r < l.row → get_or l.items (r * l.width + l.column) d ≡ l.item;
  others : (r u : ℕ) (d : _) → u < l.width → (l.row ≤ r) ⊎ (u ≢ l.column) → get_or l.items (r * l.width + u) d ≡ get_or l.fn.items (r * l.width + u) d;
}
