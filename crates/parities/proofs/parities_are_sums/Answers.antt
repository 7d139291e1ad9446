use Rattle.std.proofs.Common.{ap, ◌∙◌, sym}
use Rattle.codes.specs.Link.{link_of}
use Rattle.parities.proofs.Lone.{parity_law}
use Rattle.parities.proofs.parities_are_sums.Goals as goal

pub returns : goal.returns
returns g c code l =
    parity_law (link_of g.A.Arithmetic.operations g.C.Code.shape g.C.Code.coefficients code l) g.met.A.Arithmetic.laws
    (λ j a k small out. g.met.C.Code.bounded code j a k small out ∙ sym (ap (λ s. s.zero) g.met.A.Arithmetic.coefficients))
