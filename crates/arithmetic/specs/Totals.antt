-- Sums of many elements. Assumes nothing.
use Rattle.std.specs.Prelude.{ℕ, zero, suc}
use Rattle.arithmetic.specs.Operations.{Sums}

-- f 0 + f 1 + .. + f (n - 1)
abbrev pub sum_below : {S : Type 0} → Sums S → ℕ → (ℕ → S) → S
sum_below s zero f = s.zero
sum_below s (suc n) f = s.plus (sum_below s n f) (f n)
