use Rattle.std.proofs.Common.{◌≡◌, ℕ, ◌<◌, ◌≤◌, get_or}
use Rattle.sender.proofs.window.add_multiple.Given as goal

abbrev pub invariant-loop-i : goal.invariant-loop-i
invariant-loop-i g l =
    let o = g.A.Arithmetic.operations in
    record {
      added : (k : ℕ) (d : _) → k < l.i → get_or l.row k d ≡ o.symbols.plus (get_or l.fn.row k d) (o.scale l.c (get_or l.other k d));
      behind : (k : ℕ) (d : _) → l.i ≤ k → get_or l.row k d ≡ get_or l.fn.row k d;
    }
