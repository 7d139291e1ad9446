-- What byte arithmetic is, in numbers: each coefficient and each symbol has a value below 256. Assumes nothing.
use Rattle.std.specs.Prelude.{◌≡◌, ℕ, ◌<◌, [], ◌∷◌, bit_xor}
use Rattle.arithmetic.specs.Operations.{Operations, Bytes}
use Rattle.galois.specs.Product.{product}
use Rattle.galois.specs.Remainder.{carryless, Remainder}
use Rattle.byte.specs.declared.element.Byte.{Byte}
use Rattle.byte.specs.declared.symbol.ByteSymbol.{ByteSymbol}

pub record ByteNumbers (o : Operations Byte ByteSymbol) (strings : Bytes ByteSymbol) : Type 0 where
  -- sums are the exclusive or
  pub sum : (a b : Byte) → (o.coefficients.plus a b).value ≡ bit_xor a.value b.value
  pub symbol_sum : (x y : ByteSymbol) → (o.symbols.plus x y).value ≡ bit_xor x.value y.value
  -- products are those of the field, each the remainder by 285 of the product of the two polynomials
  pub times : (a b : Byte) → (o.products.times a b).value ≡ product a.value b.value
  pub times_remainder : (a b : Byte)
      → Remainder (carryless 8 a.value b.value) (o.products.times a b).value
  -- and so are symbols that are scaled
  pub scaled : (c : Byte) (x : ByteSymbol) → (o.scale c x).value ≡ product c.value x.value
  pub scaled_remainder : (c : Byte) (x : ByteSymbol)
      → Remainder (carryless 8 c.value x.value) (o.scale c x).value
  -- the symbol that is named as not zero
  pub mark : o.mark.value ≡ 1
  -- a symbol is written as its value, and read from it
  pub written : (x : ByteSymbol) → strings.write x ≡ x.value ∷ []
  pub read : (n : ℕ) → n < 256 → (strings.read (n ∷ [])).value ≡ n
