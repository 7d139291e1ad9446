-- What a product of bytes means: the remainder, by 285, of the product of two polynomials over two elements.
use Rattle.std.specs.Prelude.{◌≡◌, ℕ, zero, suc, ◌*◌, ◌/◌, ◌%◌, ◌<◌, bit_xor}

-- the product of a and b, of which the lowest n bits count, without carries: the sum of a's shifts at the bits that are set
unfoldable pub carryless : ℕ → ℕ → ℕ → ℕ
carryless zero a b = 0
carryless (suc n) a b = bit_xor (a * (b % 2)) (carryless n (a * 2) (b / 2))

-- r is the remainder of c by 285, which has nine bits: it is c less a multiple of 285, and shorter than 285
pub record Remainder (c r : ℕ) : Type 0 where
  pub quotient : ℕ
  pub rest : c ≡ bit_xor (carryless 9 quotient 285) r
  pub short : r < 256
