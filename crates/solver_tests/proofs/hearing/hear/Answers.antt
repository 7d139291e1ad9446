use Rattle.std.proofs.Common.{of_calls, arith}
use Rattle.rows.proofs.Behind.{same_coefficients, same_symbols}
use Rattle.systems.proofs.Giving.{new_unknown, still_unknown}
use Rattle.solver_tests.proofs.hearing.hear.Goals as goal

pub give-requires-clause-nothing_known : goal.give-requires-clause-nothing_known
give-requires-clause-nothing_known g c room within =
    new_unknown g.A.Arithmetic.operations c.args.size.now 2 _ _ c.in_ok-move_on.ensures.form.stands 2 (omega arith)

pub give-requires-2-clause-nothing_known : goal.give-requires-2-clause-nothing_known
give-requires-2-clause-nothing_known g c room within =
    let o = g.A.Arithmetic.operations in
    let z = c.args.size.now in
    still_unknown o z _ _ 2 3 _ (omega arith) (new_unknown o z 2 _ _ c.in_ok-move_on.ensures.form.stands 3 (omega arith))
    c.in_ok-give.ensures.form.stands (λ e. omega arith)

pub returns-then-eq-clause-unchanged : goal.returns-then-eq-clause-unchanged
returns-then-eq-clause-unchanged g c is =
    let o = g.A.Arithmetic.operations in
    let z = c.args.size.now in
    let memory = c.take_parities-outcome.new.memory in
    let limits = c.exceeds.ensures.limits in
    let same = rw (c.take_parities-outcome.ensures.same.size) at c.take_parities-outcome.ensures.unchanged (cc) in
    let cs = same_coefficients o z c.args.coefficients.now memory.coefficients.now c.args.symbols.now memory.symbols.now
    limits.some_unknown (search of_calls) same in
    let ss = same_symbols o z c.args.coefficients.now memory.coefficients.now c.args.symbols.now memory.symbols.now
    limits.some_symbol (search of_calls) same in
    search of_calls
