-- Spread tables. Assumes nothing.
use Rattle.std.proofs.Common.{refl}
use Rattle.examples.specs.Spreads.{SpreadExamples}

pub spreads : SpreadExamples
spreads = record {
  sources = refl;
  parities = refl;
  memory = refl;
  own = refl;
  at_3 = refl;
  at_1 = refl;
  at_2 = refl;
  at_4 = refl;
  at_6 = refl;
  overlay_memory = refl;
  overlay_at_1 = refl;
  overlay_at_2 = refl;
  largest = refl;
}
