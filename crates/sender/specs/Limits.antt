-- What a sender refuses; the first check that fails decides. Assumes nothing.
use Rattle.std.specs.Prelude.{ℕ, not, Option, ◌==◌, nat_lt}
use Rattle.refusal.specs.Order.{refused, accepted}
use Rattle.codes.specs.Shape.{Shape, out_of, unfit, packet_size, block_size, last_slot}
use Rattle.sender.specs.Block.{history_size}

-- L, and then the code's shape
abbrev pub making_refusal : Shape → ℕ → Option ℕ
making_refusal x l = refused (out_of 1 32 l) 1 (refused (unfit x) 2 accepted)

-- lengths are those of history, packet and output
abbrev pub send_refusal : Shape → ℕ → ℕ → ℕ → ℕ → ℕ → ℕ → Option ℕ
send_refusal x l next slot history packet out =
    refused (nat_lt last_slot slot) 1
    (refused (unfit x) 2
    (refused (nat_lt history (history_size x l)) 3
    (refused (not (packet == packet_size x l)) 4
    (refused (nat_lt out (block_size x l)) 5
    (refused (nat_lt slot next) 11
    (refused (nat_lt next slot) 12 accepted))))))
