use Rattle.std.proofs.Common.{ap, ◌∙◌, sym, subst}
use Rattle.codes.specs.Link.{link_of}
use Rattle.codes.specs.Coefficients.{spread, spread_shape}
use Rattle.parities.specs.Laws.{SpreadLaw}
use Rattle.parities.proofs.Parted.{spread_law}
use Rattle.parities.proofs.spreads_part_the_slots.Goals as goal

pub returns : goal.returns
returns g c code l =
    let inner = link_of g.A.Arithmetic.operations g.X.Code.shape g.X.Code.coefficients code.code l in
    let same = g.met.A.Arithmetic.coefficients in
    let zero = sym (ap (λ s. s.zero) same) in
    subst (λ s. SpreadLaw (record inner {
      shape = spread_shape inner.shape code.step.value;
      coefficients = spread s inner.coefficients code.step.value;
    }) inner code.step.value) same
    (spread_law inner g.met.A.Arithmetic.laws
    (λ j a k small out. g.met.X.Code.bounded code.code j a k small out ∙ zero) code.step.value)
