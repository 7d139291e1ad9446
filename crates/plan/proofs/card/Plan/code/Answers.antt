use Rattle.std.proofs.Common.{◌+◌, ◌≤◌, arith, rules}
use Rattle.plan.specs.declared.code.PlanCode.TheVariants.{OneDeadline, TwoDeadlines}
use Rattle.plan.proofs.Means.{code_memory}
use Rattle.plan.proofs.card.Plan.code.Goals as goal

pub returns-in_default-clause-memory : goal.returns-in_default-clause-memory
returns-in_default-clause-memory c =
    let plan = c.args.self.now in
    let code = OneDeadline (record { code = c.of-first.result; step = c.from-step.result }) in
    let most : plan.burst ≤ 63 = rw (← c.self.view_is) (rw c.from-step.ensures.0 at c.from-step.ensures.1) in
    code_memory plan.burst plan.width plan.stretch code (search rules) most (omega arith) (omega arith) (omega arith)

pub returns-clause-memory : goal.returns-clause-memory
returns-clause-memory c =
    let plan = c.args.self.now in
    let code =
    TwoDeadlines (record { code = record { first = c.of-first.result; second = c.of-second.result; delay = c.width-delay.result + 1 }; step = c.from-step.result }) in
    let most : plan.burst ≤ 63 = rw (← c.self.view_is) (rw c.from-step.ensures.0 at c.from-step.ensures.1) in
    code_memory plan.burst plan.width plan.stretch code (search rules) most (omega arith) (omega arith) (omega arith)
