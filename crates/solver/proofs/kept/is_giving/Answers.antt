use Rattle.rows.specs.Memory.{coefficient}
use Rattle.solver.proofs.Barring.{gives_by_mask}
use Rattle.solver.proofs.kept.is_giving.Goals as goal

pub returns-then-same : goal.returns-then-same
returns-then-same g c =
    let o = g.A.Arithmetic.operations in
    let z = c.args.size.now in
    let same = rw (c.coefficient_at.ensures, c.one.ensures) at c.same.ensures in
    let gives = gives_by_mask o z.unknowns (coefficient o z c.args.coefficients.now) c.args.unknown c.args.mask.now c.requires.mask (same.0 c.if-same.true) c.requires.within in
    let clear = rw (c.zero.ensures, c.unknowns-n.ensures.value) at c.is_zero_where.ensures in
    (λ on. gives.0 (clear.0 on), λ given. clear.1 (gives.1 given))
