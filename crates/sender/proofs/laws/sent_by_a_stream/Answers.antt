use Rattle.codes.specs.Link.{link_of}
use Rattle.sender.proofs.Runs.{sent_by_stream}
use Rattle.sender.proofs.laws.sent_by_a_stream.Goals as goal

pub returns : goal.returns
returns g c code l = sent_by_stream (link_of g.A.Arithmetic.operations g.C.Code.shape g.C.Code.coefficients) code l
