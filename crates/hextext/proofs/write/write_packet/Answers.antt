use Rattle.std.proofs.Common.{rules}
use Rattle.hextext.specs.Packet.{packet_text}
use Rattle.hextext.proofs.write.write_packet.Goals as goal

pub whole-requires-clause-begun : goal.whole-requires-clause-begun
whole-requires-clause-begun g c = (packet_text g.A.Arithmetic.bytes c.args.symbols.now, λ r now k. search rules)

pub returns : goal.returns
returns g c = c.whole.ensures (packet_text g.A.Arithmetic.bytes c.args.symbols.now) (λ r now k. search rules)
