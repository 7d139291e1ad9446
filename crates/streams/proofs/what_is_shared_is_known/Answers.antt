use Rattle.codes.specs.Link.{link_of}
use Rattle.streams.proofs.Sharing.{share_law}
use Rattle.streams.proofs.what_is_shared_is_known.Goals as goal

pub returns : goal.returns
returns g c code l = share_law (link_of g.A.Arithmetic.operations g.C.Code.shape g.C.Code.coefficients code l)
