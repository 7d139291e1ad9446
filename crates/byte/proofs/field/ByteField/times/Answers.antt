use Rattle.byte.specs.Equal.{is_byte}
use Rattle.byte.proofs.field.ByteField.times.Goals as goal

pub returns : goal.returns
returns c = is_byte c.product.result _ c.product.ensures.value
