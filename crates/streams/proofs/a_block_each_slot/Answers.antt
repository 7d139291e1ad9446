use Rattle.codes.specs.Link.{link_of}
use Rattle.streams.proofs.Blocks.{stream_law}
use Rattle.streams.proofs.a_block_each_slot.Goals as goal

pub returns : goal.returns
returns g c code l = stream_law (link_of g.A.Arithmetic.operations g.C.Code.shape g.C.Code.coefficients code l) g.met.A.Arithmetic.laws
