-- Packets as text: the bytes of each symbol, symbol by symbol. Assumes nothing.
use Rattle.std.specs.Prelude.{ℕ, ◌/◌, ◌%◌, not, List, length, Option, ◌==◌}
use Rattle.std.specs.List.{flat_map}
use Rattle.refusal.specs.Order.{refused, accepted}
use Rattle.arithmetic.specs.Operations.{Bytes}
use Rattle.hextext.specs.Digits.{byte_text, all_hex_digits}

-- a symbol, and a list of them
abbrev pub symbol_text : {S : Type 0} → Bytes S → S → List ℕ
symbol_text b x = flat_map byte_text (b.write x)

abbrev pub packet_text : {S : Type 0} → Bytes S → List S → List ℕ
packet_text b xs = flat_map (symbol_text b) xs

-- a text that is no row of bytes, or has another number of bytes than whole symbols have
abbrev pub packet_refusal : {S : Type 0} → Bytes S → List ℕ → Option ℕ
packet_refusal b cs =
    refused (not (all_hex_digits cs)) 10
    (refused (not (length cs / 2 % b.width == 0)) 4 accepted)
