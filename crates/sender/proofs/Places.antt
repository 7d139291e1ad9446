-- Where things lie in a history. Assumes nothing.
use Rattle.std.proofs.Common.{◌≡◌, ℕ, ◌+◌, ◌*◌, ◌<◌, ap, add-mul, mul_assoc, arith}
use Rattle.codes.proofs.Places.{below}
use Rattle.streams.proofs.Places.{a_packet_on}

-- symbol i of sub-symbol k of packet v lies in a history of m packets of s sub-symbols of l symbols
pub in_history : (m s l v k i : ℕ) → v < m → k < s → i < l → (v * s + k) * l + i < m * (s * l)
in_history m s l v k i lv lk li =
    let place = below (m * s) l (v * s + k) i (below m s v k lv lk) li in
    omega (arith, mul_assoc m s l)

-- a packet on
pub packet_on : (s l v k i : ℕ) → s * l + ((v * s + k) * l + i) ≡ ((v + 1) * s + k) * l + i
packet_on s l v k i =
    let rows = ap (λ (n : ℕ). n * l) (a_packet_on v k s) in
    let parts = add-mul (v * s + k) s l in
    omega arith
