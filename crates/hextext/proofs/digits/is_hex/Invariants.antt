use Rattle.std.proofs.Common.{◌≡◌}
use Rattle.std.specs.Slice.Iter.{chunks_rest}
use Rattle.hextext.specs.Digits.{all_digits}
use Rattle.hextext.proofs.digits.is_hex.Given as goal

abbrev pub invariant-loop-part : goal.invariant-loop-part
invariant-loop-part l = all_digits l.text ≡ all_digits (chunks_rest l.part-iterator)
