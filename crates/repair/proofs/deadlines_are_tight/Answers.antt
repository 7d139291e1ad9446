use Rattle.repair.proofs.Limits.{limits, some_symbols}
use Rattle.repair.proofs.Tight.{tight_law, code_tight}
use Rattle.repair.proofs.deadlines_are_tight.Goals as goal

pub returns-clause-plan : goal.returns-clause-plan
returns-clause-plan g c plan is =
    tight_law g.A.Arithmetic.operations g.met.A.Arithmetic.laws plan (limits plan is) (some_symbols plan is)

pub returns-clause-code : goal.returns-clause-code
returns-clause-code g c plan code l is some parts =
    let a = g.met.A.Arithmetic in
    code_tight g.A.Arithmetic.operations a.laws _ _ a.coefficients a.products plan (limits plan is) code l some parts
