use Rattle.std.proofs.Common.{ℕ, ◌+◌, ◌-◌, ◌/◌, sym, ap, ◌∙◌, subst, ap₂, arith}
use lib.Bits.{bit_xor}
use Rattle.galois.specs.Product.{by_bits, double, product}
use Rattle.galois.specs.Remainder.{carryless, Remainder}
use Rattle.galois.proofs.Remainders.{product_remainder}
use Rattle.galois.proofs.Steps.{by_bits_all, by_bits_set, by_bits_clear, by_bits_none}
use Rattle.byte.proofs.element.Byte.product.Goals as goal
use Rattle.byte.proofs.element.Byte.product.Goals.{then-bits-eq1, else-bits-eq1}

pub loop-step-init : goal.loop-step-init
loop-step-init c = by_bits_all c.value-doubled.result c.value-bits.result

pub loop-step-preserved : goal.loop-step-preserved
loop-step-preserved c =
    let i = c.loop-step._step in
    let a = c.loop-step.doubled in
    let b = c.loop-step.bits in
    let left : ℕ → ℕ = λ d. by_bits (8 - (i + 1)) d (b / 2) in
    ap (λ (d : ℕ). bit_xor c.if-bits-eq1.sum (left d)) c.double-doubled.ensures
    ∙ elim c.if-bits-eq1.branch [
      | then-bits-eq1 w ↦
          ap (λ (s : ℕ). bit_xor s (left (double a))) w.sum-is
          ∙ by_bits_set i c.loop-step.sum a b (omega arith) w.if-bits-eq1.true
      | else-bits-eq1 w ↦
          ap (λ (s : ℕ). bit_xor s (left (double a))) w.sum-is
          ∙ by_bits_clear i c.loop-step.sum a b (omega arith) (omega arith)
    ]
    ∙ c.loop-step.invariant

pub returns : goal.returns
returns c =
    let whole =
    c.new.ensures
    ∙ sym (by_bits_none c.loop-step._step c.loop-step.sum c.loop-step.doubled c.loop-step.bits (omega arith))
    ∙ c.loop-step.invariant
    ∙ ap₂ product c.value-doubled.ensures c.value-bits.ensures in
    record {
      value = whole;
      remainder =
          subst (λ (r : ℕ). Remainder (carryless 8 c.args.self.value c.args.other.value) r) (sym whole)
          (product_remainder c.args.self.value c.args.other.value c.args.self.ok);
    }
