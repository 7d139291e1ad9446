-- Where the packets lie that come one after the other. Assumes nothing.
use Rattle.std.proofs.Common.{◌≡◌, ℕ, ◌+◌, ◌*◌, add-mul, one-mul, arith}

-- a packet of s sub-symbols on
pub a_packet_on : (v k s : ℕ) → v * s + k + s ≡ (v + 1) * s + k
a_packet_on v k s = omega (arith, add-mul v 1 s, one-mul s)
