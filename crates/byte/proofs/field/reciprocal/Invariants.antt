use Rattle.std.proofs.Common.{◌≡◌, ◌-◌}
use Rattle.galois.specs.Product.{product, squarings, reciprocal}
use Rattle.byte.proofs.field.reciprocal.Given as goal

-- the result, with the squarings that are left, is the whole power
abbrev pub invariant-loop-step : goal.invariant-loop-step
invariant-loop-step l = product l.result.value (squarings (7 - l._step) l.square.value) ≡ reciprocal l.initial.square.value
