use Rattle.std.proofs.Common.{ap, ◌∙◌}
use Rattle.galois.specs.Product.{product}
use Rattle.byte.specs.Equal.{is_symbol}
use Rattle.byte.proofs.whole.ByteArithmeticArithmetic.scale.Goals as goal

pub returns : goal.returns
returns c =
    is_symbol c.new-2.result _
    (c.new-2.ensures ∙ c.value-2.ensures ∙ c.product.ensures.value
    ∙ ap (product c.args.c.value) (c.new.ensures ∙ c.value.ensures))
