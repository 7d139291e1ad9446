-- A coefficient's place lies in the table. Assumes nothing.
use Rattle.std.proofs.Common.{ℕ, ◌+◌, ◌*◌, ◌<◌, ◌≤◌, arith}
use Rattle.codes.proofs.Places.{below}

pub place_inside : (p m k j a i : ℕ) → j < p → a ≤ m → i < k → (j * (m + 1) + a) * k + i < p * (m + 1) * k
place_inside p m k j a i hj ha hi = below (p * (m + 1)) k (j * (m + 1) + a) i (below p (m + 1) j a hj (omega arith)) hi
