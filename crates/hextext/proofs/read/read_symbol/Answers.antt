use Rattle.std.proofs.Common.{◌≡◌, ℕ, true, rules, ◌+◌, ◌*◌, ◌/◌, ◌<◌, [], length, get_or, refl, ◌∙◌, arith}
use Rattle.std.proofs.ByRecursion.{All-set}
use Rattle.std.proofs.lemmas.List.{length-set}
use Rattle.hextext.specs.Digits.{is_hex_digit}
use Rattle.hextext.proofs.Sizes.{width_le}
use Rattle.hextext.proofs.Texts.{pair_digit, pair_of_digits, read_more}
use Rattle.hextext.proofs.read.read_symbol.Goals as goal

pub byte_value-requires : goal.byte_value-requires
byte_value-requires g c =
    let text = c.args.text.now in
    let i = c.loop-i.i in
    let each : (j : ℕ) → j < 2 → is_hex_digit (get_or (get_or c.as_chunks.result.0.now i []) j 0) ≡ true =
    λ j two. rw c.as_chunks.ensures.front (pair_of_digits text (length text / 2) i j c.requires.digits (omega arith) (omega arith) two) in
    record { high = search (rules, each); low = search (rules, each) }

pub loop-i-preserved : goal.loop-i-preserved
loop-i-preserved g c =
    let text = c.args.text.now in
    let i = c.loop-i.i in
    let high = pair_digit text (length text / 2) i 0 (2 * i) (omega arith) (omega arith) (omega arith) in
    let low = pair_digit text (length text / 2) i 1 (2 * i + 1) (omega arith) (omega arith) refl in
    let room : i < length c.loop-i.four = omega (arith, width_le g.A.Arithmetic.bytes.width g.met.A.Arithmetic.strings.widths) in
    let digits = rw (c.as_chunks.ensures.front, high, low) at c.byte_value.ensures in
    record {
      four = length-set c.loop-i.four i c.byte_value.result ∙ c.loop-i.invariant.four;
      bytes = All-set (λ n. n < 256) c.loop-i.four i c.byte_value.result c.byte_value.type_inv c.loop-i.invariant.bytes;
      so_far = read_more c.loop-i.four text i c.byte_value.result room (omega arith) digits c.loop-i.invariant.so_far;
    }
