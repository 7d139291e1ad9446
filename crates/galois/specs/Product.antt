-- The field of 256 elements: a byte's bits are a polynomial's coefficients, modulo x^8 + x^4 + x^3 + x^2 + 1, the number 285.
-- The sum of two bytes is their exclusive or.
use Rattle.std.specs.Prelude.{ℕ, zero, suc, ◌*◌, ◌/◌, ◌%◌, bit_xor}

-- times x: a shift by one bit, less 285 where the top bit was set
unfoldable pub double : ℕ → ℕ
double a = bit_xor (a * 2) (285 * (a / 128 % 2))

-- a by the lowest n bits of b: the sum of a's doublings at the bits that are set
unfoldable pub by_bits : ℕ → ℕ → ℕ → ℕ
by_bits zero a b = 0
by_bits (suc n) a b = bit_xor (a * (b % 2)) (by_bits n (double a) (b / 2))

-- the product of two bytes
unfoldable pub product : ℕ → ℕ → ℕ
unfolding double by_bits
product a b = by_bits 8 a b

-- the product of the first n squarings of a: a^2 · a^4 · .. · a^(2^n)
unfoldable pub squarings : ℕ → ℕ → ℕ
unfolding product
squarings zero a = 1
squarings (suc n) a = product (product a a) (squarings n (product a a))

-- what a byte other than 0 is multiplied by to give 1: a^254
unfoldable pub reciprocal : ℕ → ℕ
unfolding squarings
reciprocal a = squarings 7 a
