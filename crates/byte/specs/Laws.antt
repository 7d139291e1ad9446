-- The laws of byte arithmetic, from those of numbers below 256.
use Rattle.std.specs.Prelude.{◌≡◌, ℕ, zero, suc, ◌<◌, List, [], ◌∷◌, length, MatchOption, bit_xor, refl}
use Rattle.std.proofs.Common.{sym, ◌∙◌, ap, ap₂, subst, inl, arith}
use Rattle.std.proofs.lemmas.Bool.{eq-eqb, ne_eqb}
use Rattle.std.specs.List.{AllByRecursion}
use Rattle.arithmetic.specs.Laws.{ProductLaws, ScaleLaws, ArithmeticLaws, ByteLaws}
use Rattle.galois.specs.Product.{product, reciprocal}
use Rattle.galois.proofs.Linear.{product_left, product_right}
use Rattle.galois.proofs.Laws.{product_below, product_comm, product_assoc, one_product, product_reciprocal, reciprocal_below}
use Rattle.byte.specs.declared.element.Byte.{Byte}
use Rattle.byte.specs.declared.symbol.ByteSymbol.{ByteSymbol}
use Rattle.byte.specs.Field.{byte, value_of, byte_sums, byte_products, inverse_of}
use Rattle.byte.specs.Symbols.{symbol, value_of_symbol, symbol_sums}
use Rattle.byte.specs.Arithmetic.{byte_scale, byte_operations, byte_strings}
use Rattle.arithmetic.proofs.XorLaws.{xor_value}
use Rattle.byte.specs.Equal.{byte_numbers, symbol_numbers, byte_value, is_byte, is_symbol, byte_sum_laws, symbol_sum_laws}

-- the values of what is added up, multiplied and scaled
pub sum_value : (a b : Byte) → (byte_sums.plus a b).value ≡ bit_xor a.value b.value
sum_value = xor_value 8 value_of byte byte_numbers

pub times_value : (a b : Byte) → (byte_products.times a b).value ≡ product a.value b.value
times_value a b = byte_value (product a.value b.value) (product_below a.value b.value a.ok)

pub symbol_sum_value : (x y : ByteSymbol) → (symbol_sums.plus x y).value ≡ bit_xor x.value y.value
symbol_sum_value = xor_value 8 value_of_symbol symbol symbol_numbers

pub scale_value : (c : Byte) (x : ByteSymbol) → (byte_scale c x).value ≡ product c.value x.value
scale_value c x = byte_value (product c.value x.value) (product_below c.value x.value c.ok)

one_not_zero : byte 1 ≡ byte 0 → ⊥
one_not_zero p = let e : ◌≡◌ {A = ℕ} 1 0 = ap value_of p in omega arith

mark_not_zero : symbol 1 ≡ symbol 0 → ⊥
mark_not_zero p = let e : ◌≡◌ {A = ℕ} 1 0 = ap value_of_symbol p in omega arith

inverse_law : (v : ℕ) (a : Byte) → a.value ≡ v → MatchOption (inverse_of a) (a ≡ byte 0) (λ b. byte_products.times a b ≡ byte 1)
inverse_law zero a e = rw (eq-eqb a.value 0 e) (is_byte a 0 e)
inverse_law (suc k) a e =
    rw (ne_eqb a.value 0 (λ z. omega arith))
    (ap byte
    (ap (product a.value) (byte_value (reciprocal a.value) (reciprocal_below a.value a.ok))
    ∙ ap (λ (n : ℕ). product n (reciprocal n)) e
    ∙ product_reciprocal k (subst (λ (n : ℕ). n < 256) e a.ok)))

pub byte_product_laws : ProductLaws byte_sums byte_products
byte_product_laws = record {
  assoc = λ x y z. ap byte (ap (λ (n : ℕ). product n z.value) (times_value x y) ∙ product_assoc x.value y.value z.value x.ok y.ok z.ok ∙ ap (product x.value) (sym (times_value y z)));
  comm = λ x y. ap byte (product_comm x.value y.value x.ok y.ok);
  one_times = λ x. ap byte (one_product x.value x.ok) ∙ sym (is_byte x x.value refl);
  distributes = λ x y z. ap byte (ap (product x.value) (sum_value y z) ∙ product_right x.value y.value z.value ∙ ap₂ bit_xor (sym (times_value x y)) (sym (times_value x z)));
  one_not_zero = one_not_zero;
  inverse = λ a. inverse_law a.value a refl;
}

pub byte_scale_laws : ScaleLaws byte_operations
byte_scale_laws = record {
  over_symbols = λ c x y.
      ap symbol
      (ap (product c.value) (symbol_sum_value x y) ∙ product_right c.value x.value y.value
      ∙ ap₂ bit_xor (sym (scale_value c x)) (sym (scale_value c y)));
  over_coefficients = λ a b x.
      ap symbol
      (ap (λ (n : ℕ). product n x.value) (sum_value a b) ∙ product_left x.value a.value b.value
      ∙ ap₂ bit_xor (sym (scale_value a x)) (sym (scale_value b x)));
  by_product = λ a b x.
      ap symbol
      (ap (λ (n : ℕ). product n x.value) (times_value a b) ∙ product_assoc a.value b.value x.value a.ok b.ok x.ok
      ∙ ap (product a.value) (sym (scale_value b x)));
  by_one = λ x. ap symbol (one_product x.value x.ok) ∙ sym (is_symbol x x.value refl);
  mark_not_zero = mark_not_zero;
}

pub byte_laws : ArithmeticLaws byte_operations
byte_laws = record { coefficients = byte_sum_laws; products = byte_product_laws; symbols = symbol_sum_laws; scaling = byte_scale_laws }

-- a string of one byte, written again as it was read
rewritten : (ns : List ℕ) → length ns ≡ 1 → AllByRecursion (λ n. n < 256) ns → byte_strings.write (byte_strings.read ns) ≡ ns
rewritten [] h s = absurd (omega arith)
rewritten (n ∷ []) h s = ap (λ (m : ℕ). m ∷ []) (byte_value n s.0)
rewritten (n ∷ (m ∷ ns)) h s = absurd (omega arith)

pub byte_string_laws : ByteLaws byte_strings
byte_string_laws = record {
  widths = inl refl;
  long = λ x. refl;
  small = λ x. (x.ok, tt);
  back = λ x. sym (is_symbol x x.value refl);
  forth = rewritten;
}
