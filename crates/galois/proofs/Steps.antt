-- The steps of a product and of a reciprocal, as a loop takes them.
use Rattle.std.proofs.Common.{◌≡◌, ℕ, suc, ◌+◌, ◌-◌, ◌*◌, ◌/◌, ◌%◌, ◌<◌, ◌≤◌, sym, refl, ap, ◌∙◌, ap₂, mul-zero, mul-one, arith, lit<}
use mathlib.Core.Path.{subst⁻¹}
use lib.Bits.{bit_xor, xor_assoc, xor_zero_r, xor_block, xor_lt}
use Rattle.galois.specs.Product.{double, by_bits, product, squarings, reciprocal}
use Rattle.galois.proofs.Laws.{product_below, product_comm, product_assoc, one_product, squarings_below}

pub double_low : (a : ℕ) → a < 128 → double a ≡ a * 2
unfolding double
double_low a h =
    let e : a / 128 % 2 ≡ 0 = omega arith in
    ap (λ (t : ℕ). bit_xor (a * 2) (285 * t)) e ∙ xor_zero_r (a * 2)

pub double_high : (a : ℕ) → 128 ≤ a → a < 256 → double a ≡ bit_xor (a * 2) 285
unfolding double
double_high a h k = let e : a / 128 % 2 ≡ 1 = omega arith in ap (λ (t : ℕ). bit_xor (a * 2) (285 * t)) e

-- two numbers of nine bits: the ninth bits cancel
pub top_cancels : (a b : ℕ) → 256 ≤ a → a < 512 → 256 ≤ b → b < 512 → bit_xor a b < 256
top_cancels a b ha ka hb kb =
    let p : a ≡ 1 * 256 + (a - 256) = omega arith in
    let q : b ≡ 1 * 256 + (b - 256) = omega arith in
    let la : a - 256 < 256 = omega arith in
    let lb : b - 256 < 256 = omega arith in
    subst⁻¹ (λ (n : ℕ). n < 256) (ap₂ bit_xor p q ∙ xor_block 8 1 1 (a - 256) (b - 256) la lb)
    (omega (arith, xor_lt 8 (a - 256) (b - 256) la lb))

next : (m i : ℕ) → i < m → m - i ≡ suc (m - (i + 1))
next m i h = omega arith

-- a bit that is set adds a
pub by_bits_set : (i s a b : ℕ) → i < 8 → b % 2 ≡ 1 → bit_xor (bit_xor s a) (by_bits (8 - (i + 1)) (double a) (b / 2)) ≡ bit_xor s (by_bits (8 - i) a b)
unfolding by_bits
by_bits_set i s a b h e =
    xor_assoc s a (by_bits (8 - (i + 1)) (double a) (b / 2))
    ∙ ap (bit_xor s)
    (ap (λ (x : ℕ). bit_xor x (by_bits (8 - (i + 1)) (double a) (b / 2))) (sym (ap (λ (t : ℕ). a * t) e ∙ mul-one a))
    ∙ sym (ap (λ (n : ℕ). by_bits n a b) (next 8 i h)))

-- one that is not set adds nothing
pub by_bits_clear : (i s a b : ℕ) → i < 8 → b % 2 ≡ 0 → bit_xor s (by_bits (8 - (i + 1)) (double a) (b / 2)) ≡ bit_xor s (by_bits (8 - i) a b)
unfolding by_bits
by_bits_clear i s a b h e =
    ap (bit_xor s)
    (ap (λ (x : ℕ). bit_xor x (by_bits (8 - (i + 1)) (double a) (b / 2))) (sym (ap (λ (t : ℕ). a * t) e ∙ mul-zero a))
    ∙ sym (ap (λ (n : ℕ). by_bits n a b) (next 8 i h)))

pub by_bits_all : (a b : ℕ) → by_bits 8 a b ≡ product a b
unfolding product
by_bits_all a b = refl

pub by_bits_none : (i s a b : ℕ) → 8 ≤ i → bit_xor s (by_bits (8 - i) a b) ≡ s
unfolding by_bits
by_bits_none i s a b h =
    let e : 8 - i ≡ 0 = omega arith in ap (λ (n : ℕ). bit_xor s (by_bits n a b)) e ∙ xor_zero_r s

-- one more squaring
pub squarings_more : (i r a : ℕ) → i < 7 → r < 256 → a < 256 → product (product r (product a a)) (squarings (7 - (i + 1)) (product a a)) ≡ product r (squarings (7 - i) a)
unfolding squarings
squarings_more i r a h hr ha =
    product_assoc r (product a a) (squarings (7 - (i + 1)) (product a a)) hr (product_below a a ha)
    (squarings_below (7 - (i + 1)) (product a a) (product_below a a ha))
    ∙ ap (product r) (sym (ap (λ (n : ℕ). squarings n a) (next 7 i h)))

pub squarings_none : (i r a : ℕ) → 7 ≤ i → r < 256 → product r (squarings (7 - i) a) ≡ r
unfolding squarings
squarings_none i r a h hr =
    let e : 7 - i ≡ 0 = omega arith in
    ap (λ (n : ℕ). product r (squarings n a)) e ∙ product_comm r 1 hr (lit< tt) ∙ one_product r hr

pub squarings_first : (a : ℕ) → a < 256 → product 1 (squarings 7 a) ≡ reciprocal a
unfolding reciprocal
squarings_first a h = one_product (squarings 7 a) (squarings_below 7 a h)
