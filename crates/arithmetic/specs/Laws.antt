-- The laws that every arithmetic shows.
use Rattle.std.specs.Prelude.{◌≡◌, ℕ, ◌<◌, ◌⊎◌, List, length, MatchOption, ◌≢◌}
use Rattle.std.specs.List.{AllByRecursion}
use Rattle.arithmetic.specs.Operations.{Sums, Products, Operations, Bytes}

-- sums are associative and commutative, with a zero and a negative for each element; equality can be decided
pub record SumLaws {X : Type 0} (s : Sums X) : Type 0 where
  pub assoc : (x y z : X) → s.plus (s.plus x y) z ≡ s.plus x (s.plus y z)
  pub comm : (x y : X) → s.plus x y ≡ s.plus y x
  pub zero_plus : (x : X) → s.plus s.zero x ≡ x
  pub negative_plus : (x : X) → s.plus (s.negative x) x ≡ s.zero
  pub decide : (x y : X) → (x ≡ y) ⊎ (x ≢ y)

-- products are associative and commutative, one is neutral, and the inverse undoes a product
pub record ProductLaws {F : Type 0} (s : Sums F) (p : Products F) : Type 0 where
  pub assoc : (a b c : F) → p.times (p.times a b) c ≡ p.times a (p.times b c)
  pub comm : (a b : F) → p.times a b ≡ p.times b a
  pub one_times : (a : F) → p.times p.one a ≡ a
  pub distributes : (a b c : F) → p.times a (s.plus b c) ≡ s.plus (p.times a b) (p.times a c)
  pub one_not_zero : p.one ≡ s.zero → ⊥
  -- absent for zero and for nothing else
  pub inverse : (a : F) → MatchOption (p.inverse a) (a ≡ s.zero) (λ b. p.times a b ≡ p.one)

-- scaling distributes over both kinds of sum, agrees with products, and by one changes nothing; the mark is not zero
pub record ScaleLaws {F S : Type 0} (o : Operations F S) : Type 0 where
  pub over_symbols : (c : F) (x y : S) → o.scale c (o.symbols.plus x y) ≡ o.symbols.plus (o.scale c x) (o.scale c y)
  pub over_coefficients : (a b : F) (x : S) → o.scale (o.coefficients.plus a b) x ≡ o.symbols.plus (o.scale a x) (o.scale b x)
  pub by_product : (a b : F) (x : S) → o.scale (o.products.times a b) x ≡ o.scale a (o.scale b x)
  pub by_one : (x : S) → o.scale o.products.one x ≡ x
  pub mark_not_zero : o.mark ≡ o.symbols.zero → ⊥

pub record ArithmeticLaws {F S : Type 0} (o : Operations F S) : Type 0 where
  pub coefficients : SumLaws o.coefficients
  pub products : ProductLaws o.coefficients o.products
  pub symbols : SumLaws o.symbols
  pub scaling : ScaleLaws o

-- one to one: symbols, and the strings of as many bytes as the width says, which is 1 or 4
pub record ByteLaws {S : Type 0} (b : Bytes S) : Type 0 where
  pub widths : (b.width ≡ 1) ⊎ (b.width ≡ 4)
  pub long : (x : S) → length (b.write x) ≡ b.width
  pub small : (x : S) → AllByRecursion (λ n. n < 256) (b.write x)
  pub back : (x : S) → b.read (b.write x) ≡ x
  pub forth : (ns : List ℕ) → length ns ≡ b.width → AllByRecursion (λ n. n < 256) ns → b.write (b.read ns) ≡ ns
