-- The unused bytes of a data word. Assumes nothing.
use Rattle.std.proofs.Common.{◌≡◌, ℕ, zero, suc, ◌-◌, ◌*◌, ◌/◌, ◌%◌, ◌^◌, ◌≤◌, arith}
use lib.Bits.{bit_and, and_mask}

-- the mask behind the first so many bytes leaves the others
pub behind_carried : (w c : ℕ) → c ≤ 3 → bit_and w (16777215 / 2 ^ (8 * c)) ≡ w % 256 ^ (3 - c)
behind_carried w zero few = and_mask w 24
behind_carried w (suc zero) few = and_mask w 16
behind_carried w (suc (suc zero)) few = and_mask w 8
behind_carried w (suc (suc (suc zero))) few = and_mask w 0
behind_carried w (suc (suc (suc (suc c)))) few = absurd (omega arith)
