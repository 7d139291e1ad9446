use Rattle.std.proofs.Common.{ap, sym, ◌∙◌, subst}
use Rattle.systems.specs.Steps.{Added}
use Rattle.systems.proofs.Steps.{added_nothing}
use Rattle.rows.specs.Lent.{system_of}
use Rattle.solver.proofs.clear.clear.Goals as goal

pub returns-then-same-clause-added : goal.returns-then-same-clause-added
returns-then-same-clause-added g c =
    let o = g.A.Arithmetic.operations in
    let s = system_of o c.args.memory.now in
    added_nothing o g.met.A.Arithmetic.laws {z = c.args.memory.now.size} {s = s} {to = c.args.to} c.args.source
    {c = s.coefficient c.args.to c.args.column} (sym c.coefficient-c.ensures ∙ c.same.ensures.0 c.if-same.true ∙ c.zero.ensures)

pub returns-clause-added : goal.returns-clause-added
returns-clause-added g c =
    let o = g.A.Arithmetic.operations in
    let s = system_of o c.args.memory.now in
    let new = system_of o c.add_row.new.self in
    subst (λ (d : _). Added o c.args.memory.now.size s new c.args.to c.args.source d)
    (c.negative.ensures ∙ ap o.coefficients.negative c.coefficient-c.ensures) c.add_row.ensures.added
