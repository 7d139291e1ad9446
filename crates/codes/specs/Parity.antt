-- The parities of a slot. Assumes nothing.
use Rattle.std.specs.Prelude.{ℕ, ◌+◌}
use Rattle.arithmetic.specs.Totals.{sum_below}
use Rattle.codes.specs.Link.{Link}

-- what sub-symbol k of the packet a slots ago adds to symbol i of parity j; past a k i is that sub-symbol's symbol i
abbrev pub term : {F S : Type 0} → Link F S → (ℕ → ℕ → ℕ → S) → ℕ → ℕ → ℕ → ℕ → S
term link past j i a k = link.operations.scale (link.coefficients j a k) (past a k i)

-- what the whole packet a slots ago adds
abbrev pub sum_of_age : {F S : Type 0} → Link F S → (ℕ → ℕ → ℕ → S) → ℕ → ℕ → ℕ → S
sum_of_age link past j i a = sum_below link.operations.symbols link.shape.sources (term link past j i a)

-- symbol i of parity j: the sum over all ages and sub-symbols. The slot's own packet has age 0, the oldest age M
abbrev pub parity : {F S : Type 0} → Link F S → (ℕ → ℕ → ℕ → S) → ℕ → ℕ → S
parity link past j i = sum_below link.operations.symbols (link.shape.memory + 1) (sum_of_age link past j i)
