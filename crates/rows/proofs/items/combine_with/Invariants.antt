use Rattle.std.proofs.Common.{◌≡◌, ℕ, ◌+◌, ◌<◌, ◌≤◌, ◌⊎◌, get_or}
use Rattle.rows.proofs.items.combine_with.Given as goal

abbrev pub invariant-loop-k : goal.invariant-loop-k
invariant-loop-k g l = record {
  combined : (k : ℕ) (d : _) → k < l.k → goal.F-post g l.f (get_or l.fn.items (l.to + k) d) (get_or l.others (l.source + k) d) (get_or l.items (l.to + k) d);
  others : (i : ℕ) (d : _) → (i < l.to) ⊎ (l.to + l.k ≤ i) → get_or l.items i d ≡ get_or l.fn.items i d;
}
