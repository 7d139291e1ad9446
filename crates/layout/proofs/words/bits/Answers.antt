use Rattle.std.proofs.Common.{◌≡◌, ◌+◌, ◌-◌, ◌/◌, ◌^◌, ap, ◌∙◌}
use lib.Bits.{bit_and, and_mask}
use Rattle.layout.proofs.WordLaws.{mask_is}
use Rattle.layout.proofs.words.bits.Goals as goal

pub returns : goal.returns
returns c =
    let high = c.args.high in
    let low = c.args.low in
    let n = c.args.word / 2 ^ low in
    let k = high + 1 - low in
    let mask : 4294967295 / 2 ^ (31 - (high - low)) ≡ 2 ^ k - 1 = mask_is high low c.requires.order c.requires.within in
    ap (bit_and n) mask ∙ and_mask n k
