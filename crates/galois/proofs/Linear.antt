-- Doubling and products are additive in each argument, and additive functions that agree on the powers of two agree everywhere.
use Rattle.std.proofs.Common.{◌≡◌, ℕ, zero, suc, ◌*◌, ◌/◌, ◌%◌, ◌^◌, ◌<◌, sym, refl, ap, ◌∙◌, ap₂, le_of_suc-le-suc, not-suc-le-zero, add-zero, mod-lt, one-mul, mul-zero, div-add-mod', zero-mul, mul-one, one-add, arith, lit<, pow_pos}
use lib.Bits.{bit_xor, xor_assoc, xor_comm, xor_self, xor_zero_r, xor_block, xor_shr, xor_mod, xor_shifted}
use Rattle.std.proofs.lemmas.Nat.{shr_below}
use Rattle.galois.specs.Product.{double, by_bits, product}

-- sums go to sums
abbrev pub Additive : (ℕ → ℕ) → Type 0
Additive f = (x y : ℕ) → f (bit_xor x y) ≡ bit_xor (f x) (f y)

pub xor_swap : (a b c d : ℕ) → bit_xor (bit_xor a b) (bit_xor c d) ≡ bit_xor (bit_xor a c) (bit_xor b d)
xor_swap a b c d =
    xor_assoc a b (bit_xor c d)
    ∙ ap (bit_xor a) (sym (xor_assoc b c d) ∙ ap (λ (x : ℕ). bit_xor x d) (xor_comm b c) ∙ xor_assoc c b d)
    ∙ sym (xor_assoc a c (bit_xor b d))

-- what holds at 0 and at 1 holds at every bit
pub by_bit : (P : ℕ → Type 0) → P 0 → P 1 → (t : ℕ) → t < 2 → P t
by_bit P p q zero h = p
by_bit P p q (suc zero) h = q
by_bit P p q (suc (suc t)) h = absurd (not-suc-le-zero (le_of_suc-le-suc (le_of_suc-le-suc h)))

bit : (n : ℕ) → n % 2 < 2
bit n = mod-lt n (lit< tt)

pub shift_additive : Additive (λ a. a * 2)
shift_additive a b = sym (simp add-zero at (xor_block 1 a b 0 0 (lit< tt) (lit< tt)))

-- by one bit: a or nothing
pub bit_additive : (n : ℕ) → Additive (λ a. a * (n % 2))
bit_additive n a b =
    by_bit (λ t. bit_xor a b * t ≡ bit_xor (a * t) (b * t)) (simp mul-zero) (simp mul-one) (n % 2) (bit n)

pub bits_add : (a m n : ℕ) → a * (bit_xor m n % 2) ≡ bit_xor (a * (m % 2)) (a * (n % 2))
bits_add a m n =
    ap (λ (x : ℕ). a * x) (xor_mod m n 1)
    ∙ by_bit (λ s. a * bit_xor s (n % 2) ≡ bit_xor (a * s) (a * (n % 2)))
    (simp mul-zero)
    (by_bit (λ t. a * bit_xor 1 t ≡ bit_xor (a * 1) (a * t))
    (simp (mul-one, mul-zero, xor_zero_r))
    (simp (mul-one, mul-zero, xor_self))
    (n % 2) (bit n))
    (m % 2) (bit m)

pub double_additive : Additive double
unfolding double
double_additive a b =
    ap₂ bit_xor (shift_additive a b) (ap (λ (x : ℕ). 285 * (x % 2)) (xor_shr a b 7) ∙ bits_add 285 (a / 128) (b / 128))
    ∙ xor_swap (a * 2) (b * 2) (285 * (a / 128 % 2)) (285 * (b / 128 % 2))

by_bits_left : (n c : ℕ) → Additive (λ a. by_bits n a c)
unfolding by_bits
by_bits_left zero c a b = refl
by_bits_left (suc n) c a b =
    ap₂ bit_xor (bit_additive c a b)
    (ap (λ (x : ℕ). by_bits n x (c / 2)) (double_additive a b) ∙ by_bits_left n (c / 2) (double a) (double b))
    ∙ xor_swap (a * (c % 2)) (b * (c % 2)) (by_bits n (double a) (c / 2)) (by_bits n (double b) (c / 2))

by_bits_right : (n a : ℕ) → Additive (by_bits n a)
unfolding by_bits
by_bits_right zero a b c = refl
by_bits_right (suc n) a b c =
    ap₂ bit_xor (bits_add a b c) (ap (by_bits n (double a)) (xor_shr b c 1) ∙ by_bits_right n (double a) (b / 2) (c / 2))
    ∙ xor_swap (a * (b % 2)) (a * (c % 2)) (by_bits n (double a) (b / 2)) (by_bits n (double a) (c / 2))

pub product_left : (c : ℕ) → Additive (λ a. product a c)
unfolding product
product_left = by_bits_left 8

pub product_right : (a : ℕ) → Additive (product a)
unfolding product
product_right = by_bits_right 8

pub at_zero : (f : ℕ → ℕ) → Additive f → f 0 ≡ 0
at_zero f h = h 0 0 ∙ xor_self (f 0)

-- a number is its top bit and the rest
top_bit : (n x : ℕ) → x ≡ bit_xor (x / 2 ^ n * 2 ^ n) (x % 2 ^ n)
top_bit n x = sym (xor_shifted (x / 2 ^ n) n (x % 2 ^ n) (mod-lt x (pow_pos n)) ∙ div-add-mod' x (2 ^ n))

module _ (f g : ℕ → ℕ) (fa : Additive f) (ga : Additive g) where
  zeros : f 0 ≡ g 0
  zeros = at_zero f fa ∙ sym (at_zero g ga)

  pub agree : (n : ℕ) → ((j : ℕ) → j < n → f (2 ^ j) ≡ g (2 ^ j)) → (x : ℕ) → x < 2 ^ n → f x ≡ g x
  agree zero h x lt = let z : x ≡ 0 = omega arith in ap f z ∙ zeros ∙ ap g (sym z)
  agree (suc n) h x lt =
      ap f (top_bit n x) ∙ fa (x / 2 ^ n * 2 ^ n) (x % 2 ^ n)
      ∙ ap₂ bit_xor
      (by_bit (λ t. f (t * 2 ^ n) ≡ g (t * 2 ^ n))
      (simp zero-mul zeros)
      (simp one-mul (h n (omega arith)))
      (x / 2 ^ n)
      (shr_below x 1 n (rw one-add lt)))
      (agree n (λ j k. h j (omega arith)) (x % 2 ^ n) (mod-lt x (pow_pos n)))
      ∙ sym (ap g (top_bit n x) ∙ ga (x / 2 ^ n * 2 ^ n) (x % 2 ^ n))
