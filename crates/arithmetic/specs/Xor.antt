-- Sums by exclusive or, for elements that stand for the numbers of so many bits. Assumes nothing.
use Rattle.std.specs.Prelude.{◌≡◌, ℕ, ◌^◌, ◌<◌, bit_xor}
use Rattle.arithmetic.specs.Operations.{Sums}

-- each element is its own negative
abbrev pub xor_sums : {X : Type 0} → (X → ℕ) → (ℕ → X) → Sums X
xor_sums value of = record { zero = of 0; plus = λ x y. of (bit_xor (value x) (value y)); negative = λ x. x }

-- elements and the numbers of k bits correspond one to one
pub record Numbered {X : Type 0} (k : ℕ) (value : X → ℕ) (of : ℕ → X) : Type 0 where
  pub small : (x : X) → value x < 2 ^ k
  pub held : (n : ℕ) → n < 2 ^ k → value (of n) ≡ n
  pub same : (x y : X) → value x ≡ value y → x ≡ y
