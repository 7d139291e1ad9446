use Rattle.std.proofs.Common.{◌≡◌, ◌*◌, ◌<◌, length, take}
use Rattle.std.specs.List.{flat_map, AllByRecursion}
use Rattle.hextext.specs.Digits.{byte_text}
use Rattle.hextext.proofs.read.read_symbol.Given as goal

abbrev pub invariant-loop-i : goal.invariant-loop-i
invariant-loop-i g l = record {
  four : length l.four ≡ 4;
  bytes : AllByRecursion (λ n. n < 256) l.four;
  so_far : flat_map byte_text (take l.i l.four) ≡ take (2 * l.i) l.text;
}
