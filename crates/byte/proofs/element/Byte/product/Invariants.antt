use Rattle.std.proofs.Common.{◌≡◌, ◌-◌}
use lib.Bits.{bit_xor}
use Rattle.galois.specs.Product.{by_bits, product}
use Rattle.byte.proofs.element.Byte.product.Given as goal

-- what is summed up, with the product of what is left, is the whole product
abbrev pub invariant-loop-step : goal.invariant-loop-step
invariant-loop-step l =
    bit_xor l.sum (by_bits (8 - l._step) l.doubled l.bits) ≡ product l.initial.doubled l.initial.bits
