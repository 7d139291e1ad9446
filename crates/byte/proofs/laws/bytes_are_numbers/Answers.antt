use Rattle.std.proofs.Common.{◌≡◌, ℕ, ◌<◌, sym, refl, subst}
use Rattle.galois.specs.Product.{product}
use Rattle.galois.specs.Remainder.{carryless, Remainder}
use Rattle.galois.proofs.Remainders.{product_remainder}
use Rattle.byte.specs.Equal.{byte_value}
use Rattle.byte.specs.Laws.{sum_value, symbol_sum_value, times_value, scale_value}
use Rattle.byte.proofs.laws.bytes_are_numbers.Goals as goal

-- a number that is the product of two bytes is the remainder
remainder : (a b n : ℕ) → a < 256 → n ≡ product a b → Remainder (carryless 8 a b) n
remainder a b n small e = subst (λ (r : ℕ). Remainder (carryless 8 a b) r) (sym e) (product_remainder a b small)

pub returns : goal.returns
returns c = record {
  sum = sum_value;
  symbol_sum = symbol_sum_value;
  times = times_value;
  times_remainder = λ a b. remainder a.value b.value _ a.ok (times_value a b);
  scaled = scale_value;
  scaled_remainder = λ a x. remainder a.value x.value _ a.ok (scale_value a x);
  mark = refl;
  written = λ x. refl;
  read = byte_value;
}
