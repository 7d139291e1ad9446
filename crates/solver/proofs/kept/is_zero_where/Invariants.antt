use Rattle.std.proofs.Common.{◌≡◌, ℕ, ◌+◌, ◌<◌, ◌↔◌, get_or, IsTrue, true, false}
use Rattle.solver.proofs.kept.is_zero_where.Given as goal

abbrev pub invariant-loop-k : goal.invariant-loop-k
invariant-loop-k g l = IsTrue l.passes ↔ ((k : ℕ) → k < l.k → get_or l.mask k false ≡ true → get_or l.items (l.start + k) l.zero ≡ l.zero)
