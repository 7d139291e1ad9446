-- The product of bytes is the remainder of the product without carries.
use Rattle.std.proofs.Common.{◌≡◌, ℕ, zero, suc, ◌*◌, ◌/◌, ◌%◌, ◌<◌, sym, refl, ap, ◌∙◌, ap₂, mod-lt, mul_assoc, mul_comm, mul-zero, mul-one, lit<}
use lib.Bits.{bit_xor, xor_assoc, xor_comm, xor_self}
use Rattle.galois.specs.Product.{double, by_bits, product}
use Rattle.galois.specs.Remainder.{carryless, Remainder}
use Rattle.galois.proofs.Linear.{Additive, at_zero, by_bit, bit_additive, shift_additive, xor_swap}
use Rattle.galois.proofs.Laws.{product_below}

carryless_left : (n c : ℕ) → Additive (λ a. carryless n a c)
unfolding carryless
carryless_left zero c a b = refl
carryless_left (suc n) c a b =
    ap₂ bit_xor (bit_additive c a b)
    (ap (λ (x : ℕ). carryless n x (c / 2)) (shift_additive a b) ∙ carryless_left n (c / 2) (a * 2) (b * 2))
    ∙ xor_swap (a * (c % 2)) (b * (c % 2)) (carryless n (a * 2) (c / 2)) (carryless n (b * 2) (c / 2))

carryless_shift : (n a b : ℕ) → carryless n (a * 2) b ≡ carryless n a b * 2
unfolding carryless
carryless_shift zero a b = refl
carryless_shift (suc n) a b =
    ap₂ bit_xor
    (mul_assoc a 2 (b % 2) ∙ ap (λ (x : ℕ). a * x) (mul_comm 2 (b % 2)) ∙ sym (mul_assoc a (b % 2) 2))
    (carryless_shift n (a * 2) (b / 2))
    ∙ sym (shift_additive (a * (b % 2)) (carryless n (a * 2) (b / 2)))

carryless_bit : (n a b t : ℕ) → t < 2 → carryless n (a * t) b ≡ carryless n a b * t
carryless_bit n a b =
    by_bit (λ t. carryless n (a * t) b ≡ carryless n a b * t)
    (simp mul-zero (at_zero (λ x. carryless n x b) (carryless_left n b)))
    (simp mul-one)

multiple : ℕ → ℕ
multiple q = carryless 9 q 285

multiple_bit : (t : ℕ) → t < 2 → multiple t ≡ 285 * t
unfolding multiple carryless
multiple_bit = by_bit (λ t. multiple t ≡ 285 * t) refl refl

multiple_additive : Additive multiple
unfolding multiple
multiple_additive = carryless_left 9 285

-- what was added is added again
xor_back : (x y : ℕ) → y ≡ bit_xor x (bit_xor y x)
xor_back x y =
    sym (ap (λ (z : ℕ). bit_xor z y) (xor_self x)) ∙ xor_assoc x x y ∙ ap (bit_xor x) (xor_comm x y)

-- the shift of a number has the same remainder as the doubling of its remainder
module _ (c a q : ℕ) (e : c ≡ bit_xor (multiple q) a) where
  over : ℕ
  over = bit_xor (q * 2) (a / 128 % 2)

  shifted : c * 2 ≡ bit_xor (multiple over) (double a)
  unfolding over double multiple
  shifted =
      ap (λ (x : ℕ). x * 2) e ∙ shift_additive (multiple q) a
      ∙ ap₂ bit_xor (sym (carryless_shift 9 q 285)) (xor_back (285 * (a / 128 % 2)) (a * 2))
      ∙ sym (xor_assoc (multiple (q * 2)) (285 * (a / 128 % 2)) (double a))
      ∙ ap (λ (x : ℕ). bit_xor x (double a))
      (ap (bit_xor (multiple (q * 2))) (sym (multiple_bit (a / 128 % 2) (mod-lt (a / 128) (lit< tt))))
      ∙ sym (multiple_additive (q * 2) (a / 128 % 2)))

reduced : (n c a q b : ℕ) → c ≡ bit_xor (multiple q) a → (p : ℕ) × (carryless n c b ≡ bit_xor (multiple p) (by_bits n a b))
unfolding by_bits carryless multiple
reduced zero c a q b e = (0, refl)
reduced (suc n) c a q b e =
    let r = reduced n (c * 2) (double a) (over c a q e) (b / 2) (shifted c a q e) in (
      bit_xor (q * (b % 2)) r.0,
      ap₂ bit_xor (ap (λ (x : ℕ). x * (b % 2)) e ∙ bit_additive b (multiple q) a) r.1
          ∙ xor_swap (multiple q * (b % 2)) (a * (b % 2)) (multiple r.0) (by_bits n (double a) (b / 2))
          ∙ ap (λ (x : ℕ). bit_xor x (by_bits (suc n) a b))
          (ap (λ (x : ℕ). bit_xor x (multiple r.0)) (sym (carryless_bit 9 q 285 (b % 2) (mod-lt b (lit< tt))))
          ∙ sym (multiple_additive (q * (b % 2)) r.0)),
    )

pub product_remainder : (a b : ℕ) → a < 256 → Remainder (carryless 8 a b) (product a b)
unfolding product multiple carryless
product_remainder a b h =
    let r = reduced 8 a a 0 b refl in
    record { quotient = r.0; rest = r.1; short = product_below a b h }
