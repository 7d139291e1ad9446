-- All worked examples.
use Rattle.examples.specs.Streams.{StreamExamples}
use Rattle.examples.specs.Tables.{TableExamples}
use Rattle.examples.specs.Overlays.{OverlayExamples}
use Rattle.examples.specs.Spreads.{SpreadExamples}
use Rattle.examples.specs.Bytes.{ByteExamples}
use Rattle.examples.specs.Frames.{FrameExamples}
use Rattle.examples.specs.Refusals.{RefusalExamples}
use Rattle.examples.specs.Sends.{RunExamples}
use Rattle.examples.specs.Repairs.{RepairExamples}

pub record Examples : Type 0 where
  pub streams : StreamExamples
  pub tables : TableExamples
  pub overlays : OverlayExamples
  pub spreads : SpreadExamples
  pub bytes : ByteExamples
  pub frames : FrameExamples
  pub refusals : RefusalExamples
  pub sends : RunExamples
  pub repairs : RepairExamples
