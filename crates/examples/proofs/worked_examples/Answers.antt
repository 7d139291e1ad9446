use Rattle.examples.proofs.Streams.{streams}
use Rattle.examples.proofs.Tables.{tables}
use Rattle.examples.proofs.Overlays.{overlays}
use Rattle.examples.proofs.Spreads.{spreads}
use Rattle.examples.proofs.Bytes.{bytes}
use Rattle.examples.proofs.Frames.{frames}
use Rattle.examples.proofs.Refusals.{refusals}
use Rattle.examples.proofs.Sends.{run}
use Rattle.examples.proofs.Repairs.{repairs}
use Rattle.examples.proofs.worked_examples.Goals as goal

pub returns : goal.returns
returns c = record {
  streams = streams;
  tables = tables;
  overlays = overlays;
  spreads = spreads;
  bytes = bytes;
  frames = frames;
  refusals = refusals;
  sends = run;
  repairs = repairs;
}
