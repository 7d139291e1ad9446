use Rattle.std.proofs.Common.{subst}
use Rattle.systems.specs.System.{Size}
use Rattle.systems.specs.Steps.{Moved}
use Rattle.elimination.proofs.Joining.{joined_more, joined_skip}
use Rattle.rows.specs.Lent.{system_of}
use Rattle.rows.proofs.Loans.{same_loan_then}
use Rattle.solver.proofs.join.join_row.Goals as goal

pub returns-in-Some : goal.returns-in-Some
returns-in-Some g c =
    let o = g.A.Arithmetic.operations in
    let s = system_of o c.clear_column.new.memory in
    let new = system_of o c.move_row.new.self in
    let (joined, means, behind) = joined_more o g.met.A.Arithmetic.laws c.requires.joined c.requires.spare.0 c.requires.spare.1
    c.in-Some.ensures.0 c.in-Some.ensures.1 c.clear_column.ensures.cleared
    (subst (λ (z : Size). Moved o z s new c.in-Some.column c.args.row) c.clear_column.ensures.same.size c.move_row.ensures.moved) in
    record { same = same_loan_then c.clear_column.ensures.same c.move_row.ensures.same; joined = joined; means = means; behind = behind }

pub returns-in_default-clause-joined : goal.returns-in_default-clause-joined
returns-in_default-clause-joined g c =
    joined_skip g.A.Arithmetic.operations g.met.A.Arithmetic.laws c.requires.joined c.requires.spare.0 c.requires.spare.1 c.in_default.ensures
