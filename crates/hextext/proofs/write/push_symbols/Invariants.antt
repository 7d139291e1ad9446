use Rattle.std.proofs.Common.{◌≡◌, ◌++◌, take, string_bytes}
use Rattle.hextext.specs.Packet.{packet_text}
use Rattle.hextext.proofs.write.push_symbols.Given as goal

abbrev pub invariant-loop-x : goal.invariant-loop-x
invariant-loop-x g l =
    string_bytes l.text ≡ string_bytes l.initial.text ++ packet_text g.A.Arithmetic.bytes (take l.x-index l.symbols)
