use Rattle.repair.proofs.Limits.{limits}
use Rattle.repair.proofs.Plans.{plan_law, code_law}
use Rattle.repair.proofs.plans_repair_in_time.Goals as goal

pub returns-clause-plan : goal.returns-clause-plan
returns-clause-plan g c plan is = plan_law g.A.Arithmetic.operations g.met.A.Arithmetic.laws plan (limits plan is)

pub returns-clause-code : goal.returns-clause-code
returns-clause-code g c plan code l is parts =
    let a = g.met.A.Arithmetic in
    code_law g.A.Arithmetic.operations a.laws _ _ a.coefficients a.products plan (limits plan is) code l parts
