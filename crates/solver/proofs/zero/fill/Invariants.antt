use Rattle.std.proofs.Common.{◌≡◌, ℕ, ◌<◌, ◌≤◌, get_or}
use Rattle.solver.proofs.zero.fill.Given as goal

abbrev pub invariant-loop-k : goal.invariant-loop-k
invariant-loop-k g l = record {
  filled : (i : ℕ) (d : _) → i < l.k → get_or l.items i d ≡ l.item;
  behind : (i : ℕ) (d : _) → l.count ≤ i → get_or l.items i d ≡ get_or l.fn.items i d;
}
