use Rattle.systems.specs.System.{Solves}
use Rattle.systems.proofs.Unique.{kept_form}
use Rattle.rows.specs.Memory.{memory}
use Rattle.solver.proofs.kept.is_kept.Goals as goal

pub returns-clause-form : goal.returns-clause-form
returns-clause-form g c kept =
    let o = g.A.Arithmetic.operations in
    let z = c.args.size.now in
    let s = memory o z c.args.coefficients.now c.args.symbols.now in
    kept_form o g.met.A.Arithmetic.laws z s c.exceeds.ensures.limits.some_symbol (c.is_reduced.ensures.0 kept) (Solves o z s) (λ x. (λ h. h, λ h. h))
