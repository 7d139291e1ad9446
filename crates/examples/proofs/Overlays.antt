-- Two tables on top of each other. Assumes nothing.
use Rattle.std.proofs.Common.{refl}
use Rattle.examples.specs.Overlays.{OverlayExamples}

pub overlays : OverlayExamples
overlays = record {
  sources = refl;
  parities = refl;
  memory = refl;
  longer_first = refl;
  before = refl;
  second_has_one = refl;
  both = refl;
  both_too = refl;
  new_sub = refl;
  new_age = refl;
  other_parity = refl;
  neither = refl;
}
