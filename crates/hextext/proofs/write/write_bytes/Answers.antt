use Rattle.std.proofs.Common.{rules}
use Rattle.std.specs.List.{flat_map}
use Rattle.hextext.specs.Digits.{byte_text}
use Rattle.hextext.proofs.write.write_bytes.Goals as goal

pub whole-requires-clause-begun : goal.whole-requires-clause-begun
whole-requires-clause-begun c = (flat_map byte_text c.args.bytes.now, λ r now k. search rules)

pub returns : goal.returns
returns c = c.whole.ensures (flat_map byte_text c.args.bytes.now) (λ r now k. search rules)
