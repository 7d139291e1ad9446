use Rattle.std.proofs.Common.{ap, ◌∙◌, sym, subst}
use Rattle.codes.specs.Link.{link_of}
use Rattle.codes.specs.Coefficients.{overlay, overlay_shape}
use Rattle.parities.specs.Laws.{OverlayLaw}
use Rattle.parities.proofs.Overlaid.{overlay_law}
use Rattle.parities.proofs.overlays_add_parities.Goals as goal

pub returns : goal.returns
returns g c code l =
    let first = link_of g.A.Arithmetic.operations g.X.Code.shape g.X.Code.coefficients code.first l in
    let second = link_of g.A.Arithmetic.operations g.Y.Code.shape g.Y.Code.coefficients code.second l in
    let same = g.met.A.Arithmetic.coefficients in
    let zero = sym (ap (λ s. s.zero) same) in
    subst (λ s. OverlayLaw (record first {
      shape = overlay_shape first.shape second.shape code.delay;
      coefficients = overlay s first.coefficients second.coefficients code.delay;
    }) first second code.delay) same
    (overlay_law first second g.met.A.Arithmetic.laws
    (λ j a k small out. g.met.X.Code.bounded code.first j a k small out ∙ zero)
    (λ j a k small out. g.met.Y.Code.bounded code.second j a k small out ∙ zero) code.delay)
