-- The laws of products of bytes. Each is computed at the powers of two, and holds at all bytes since products are additive.
use Rattle.std.proofs.Common.{◌≡◌, ℕ, zero, suc, ◌*◌, ◌/◌, ◌%◌, ◌^◌, ◌<◌, Bool, T, eqb, ltb, refl, ap, ◌∙◌, mod-lt, mul-zero, mul-one, arith, lit<, eqb→eq, ltb→lt}
use lib.Bits.{xor_lt}
use Rattle.galois.specs.Product.{double, by_bits, product, squarings, reciprocal}
use Rattle.galois.proofs.Linear.{by_bit, agree, product_left, product_right}
use Rattle.galois.proofs.Tests.{all, at}

-- a doubling is a byte
doubles : ℕ → Bool
doubles a = ltb (double a) 256

doubles_all : T (all 256 doubles)
unfolding doubles double
doubles_all = tt

pub double_below : (a : ℕ) → a < 256 → double a < 256
unfolding doubles
double_below a h = ltb→lt (double a) 256 (at 256 doubles doubles_all a h)

by_bits_below : (n a b : ℕ) → a < 256 → by_bits n a b < 256
unfolding by_bits
by_bits_below zero a b h = lit< tt
by_bits_below (suc n) a b h =
    xor_lt 8 (a * (b % 2)) (by_bits n (double a) (b / 2))
    (by_bit (λ t. a * t < 256) (simp mul-zero (lit< tt)) (simp mul-one h) (b % 2) (mod-lt b (lit< tt)))
    (by_bits_below n (double a) (b / 2) (double_below a h))

pub product_below : (a b : ℕ) → a < 256 → product a b < 256
unfolding product
product_below = by_bits_below 8

commutes : ℕ → ℕ → Bool
commutes i j = eqb (product (2 ^ i) (2 ^ j)) (product (2 ^ j) (2 ^ i))

commutes_row : ℕ → Bool
commutes_row i = all 8 (commutes i)

commutes_all : T (all 8 commutes_row)
unfolding commutes_row commutes product
commutes_all = tt

powers_comm : (i : ℕ) → i < 8 → (j : ℕ) → j < 8 → product (2 ^ i) (2 ^ j) ≡ product (2 ^ j) (2 ^ i)
unfolding commutes_row commutes
powers_comm i hi j hj = eqb→eq _ _ (at 8 (commutes i) (at 8 commutes_row commutes_all i hi) j hj)

pub product_comm : (a b : ℕ) → a < 256 → b < 256 → product a b ≡ product b a
product_comm a b ha hb =
    agree (λ x. product x b) (product b) (product_left b) (product_right b) 8
    (λ i hi. agree (product (2 ^ i)) (λ y. product y (2 ^ i)) (product_right (2 ^ i)) (product_left (2 ^ i)) 8
    (powers_comm i hi) b hb)
    a ha

associates : ℕ → ℕ → ℕ → Bool
associates i j k = eqb (product (product (2 ^ i) (2 ^ j)) (2 ^ k)) (product (2 ^ i) (product (2 ^ j) (2 ^ k)))

associates_row : ℕ → ℕ → Bool
associates_row i j = all 8 (associates i j)

associates_plane : ℕ → Bool
associates_plane i = all 8 (associates_row i)

associates_all : T (all 8 associates_plane)
unfolding associates_plane associates_row associates product
associates_all = tt

powers_assoc : (i : ℕ) → i < 8 → (j : ℕ) → j < 8 → (k : ℕ) → k < 8 → product (product (2 ^ i) (2 ^ j)) (2 ^ k) ≡ product (2 ^ i) (product (2 ^ j) (2 ^ k))
unfolding associates_plane associates_row associates
powers_assoc i hi j hj k hk =
    eqb→eq _ _ (at 8 (associates i j) (at 8 (associates_row i) (at 8 associates_plane associates_all i hi) j hj) k hk)

pub product_assoc : (a b c : ℕ) → a < 256 → b < 256 → c < 256 → product (product a b) c ≡ product a (product b c)
product_assoc a b c ha hb hc =
    agree (λ x. product (product x b) c) (λ x. product x (product b c))
    (λ x y. ap (λ (z : ℕ). product z c) (product_left b x y) ∙ product_left c (product x b) (product y b))
    (product_left (product b c)) 8
    (λ i hi. agree (λ y. product (product (2 ^ i) y) c) (λ y. product (2 ^ i) (product y c))
    (λ x y. ap (λ (z : ℕ). product z c) (product_right (2 ^ i) x y) ∙ product_left c (product (2 ^ i) x) (product (2 ^ i) y))
    (λ x y. ap (product (2 ^ i)) (product_left c x y) ∙ product_right (2 ^ i) (product x c) (product y c)) 8
    (λ j hj. agree (product (product (2 ^ i) (2 ^ j))) (λ z. product (2 ^ i) (product (2 ^ j) z))
    (product_right (product (2 ^ i) (2 ^ j)))
    (λ x y. ap (product (2 ^ i)) (product_right (2 ^ j) x y) ∙ product_right (2 ^ i) (product (2 ^ j) x) (product (2 ^ j) y)) 8
    (powers_assoc i hi j hj) c hc)
    b hb)
    a ha

neutral : ℕ → Bool
neutral i = eqb (product 1 (2 ^ i)) (2 ^ i)

neutral_all : T (all 8 neutral)
unfolding neutral product
neutral_all = tt

powers_one : (i : ℕ) → i < 8 → product 1 (2 ^ i) ≡ 2 ^ i
unfolding neutral
powers_one i h = eqb→eq _ _ (at 8 neutral neutral_all i h)

pub one_product : (a : ℕ) → a < 256 → product 1 a ≡ a
one_product a h = agree (product 1) (λ x. x) (product_right 1) (λ x y. refl) 8 powers_one a h

undoes : ℕ → Bool
undoes k = eqb (product (suc k) (reciprocal (suc k))) 1

undoes_all : T (all 255 undoes)
unfolding undoes reciprocal
undoes_all = tt

-- every byte but 0
pub product_reciprocal : (k : ℕ) → suc k < 256 → product (suc k) (reciprocal (suc k)) ≡ 1
unfolding undoes
product_reciprocal k h = eqb→eq _ _ (at 255 undoes undoes_all k (omega arith))

pub squarings_below : (n a : ℕ) → a < 256 → squarings n a < 256
unfolding squarings
squarings_below zero a h = lit< tt
squarings_below (suc n) a h = product_below (product a a) (squarings n (product a a)) (product_below a a h)

pub reciprocal_below : (a : ℕ) → a < 256 → reciprocal a < 256
unfolding reciprocal
reciprocal_below = squarings_below 7
