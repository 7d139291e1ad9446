use Rattle.frame_reader.proofs.Unused.{behind_carried}
use Rattle.frame_reader.proofs.steps.unused.Goals as goal

pub returns : goal.returns
returns c = behind_carried c.args.word c.args.carried c.requires
