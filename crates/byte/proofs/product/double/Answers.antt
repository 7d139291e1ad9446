use Rattle.std.proofs.Common.{ℕ, ◌*◌, ◌<◌, ◌≤◌, sym, ap, ◌∙◌, arith, lit<, lit≤}
use lib.Bits.{bit_xor}
use Rattle.galois.proofs.Steps.{double_low, double_high, top_cancels}
use Rattle.byte.proofs.product.double.Goals as goal

pub overflow_cast-result : goal.overflow_cast-result
overflow_cast-result c =
    let low : 256 ≤ c.from.result * 2 = omega arith in
    let high : c.from.result * 2 < 512 = omega arith in
    record { fits = top_cancels (c.from.result * 2) _ low high (lit≤ tt) (lit< tt) }

pub returns-then-value-lt128 : goal.returns-then-value-lt128
returns-then-value-lt128 c = sym (double_low c.args.value c.if-value-lt128.true)

pub returns-else-value-lt128 : goal.returns-else-value-lt128
returns-else-value-lt128 c =
    ap (λ (n : ℕ). bit_xor (n * 2) 285) c.from.ensures
    ∙ sym (double_high c.args.value c.if-value-lt128.false (omega arith))
