use Rattle.std.proofs.Common.{of_calls}
use Rattle.systems.proofs.Zero.{zero_form}
use Rattle.rows.specs.Memory.{memory}
use Rattle.rows.proofs.Behind.{behind}
use Rattle.solver.proofs.zero.write_zero.Goals as goal

pub returns-clause-form : goal.returns-clause-form
returns-clause-form g c =
    let o = g.A.Arithmetic.operations in
    let z = c.args.size.now in
    let zeros = c.give_zeros.new.memory in
    let form = zero_form o g.met.A.Arithmetic.laws z (memory o z zeros.coefficients.now zeros.symbols.now) c.exceeds.ensures.limits.some_symbol
    (rw (c.give_zeros.ensures.same.size) at c.give_zeros.ensures.zeros) in
    search of_calls

pub returns-clause-behind : goal.returns-clause-behind
returns-clause-behind g c =
    let zeros = c.give_zeros.new.memory in
    let behind = behind g.A.Arithmetic.operations c.args.size.now c.args.coefficients.now zeros.coefficients.now c.args.symbols.now zeros.symbols.now
    c.exceeds.ensures.limits.some_unknown c.exceeds.ensures.limits.some_symbol (search of_calls) (search of_calls)
    (rw (c.give_zeros.ensures.same.size) at c.give_zeros.ensures.behind) in
    search of_calls
