use Rattle.codes.specs.Link.{link_of}
use Rattle.windows.proofs.Steps.{window_law}
use Rattle.windows.proofs.windows_follow_logs.Goals as goal

pub returns : goal.returns
returns g c code l w reaches =
    window_law (link_of g.A.Arithmetic.operations g.C.Code.shape g.C.Code.coefficients code l) g.met.A.Arithmetic.laws w reaches
