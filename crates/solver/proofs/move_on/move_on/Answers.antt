use Rattle.std.proofs.Common.{of_calls, arith}
use Rattle.systems.proofs.Moving.{moved_on}
use Rattle.rows.specs.Memory.{memory}
use Rattle.rows.proofs.Behind.{behind}
use Rattle.solver.proofs.move_on.move_on.Goals as goal

pub returns-clause-form : goal.returns-clause-form
returns-clause-form g c =
    let o = g.A.Arithmetic.operations in
    let z = c.args.size.now in
    let loan = c.shift_rows.ensures.same in
    let form = moved_on o g.met.A.Arithmetic.laws z c.args.count (memory o z c.args.coefficients.now c.args.symbols.now)
    (memory o z c.shift_rows.new.self.coefficients.now c.shift_rows.new.self.symbols.now) c.exceeds.ensures.limits.some_symbol
    (c.requires.kept (c.exceeds.ensures.room c.if-exceeds.false)) (rw (loan.size) at c.shift_rows.ensures.shifted) in
    search of_calls

pub returns-clause-behind : goal.returns-clause-behind
returns-clause-behind g c =
    let loan = c.shift_rows.ensures.same in
    let shifted = rw (loan.size) at c.shift_rows.ensures.shifted in
    let moved = c.shift_rows.new.self in
    let behind = behind g.A.Arithmetic.operations c.args.size.now c.args.coefficients.now moved.coefficients.now c.args.symbols.now moved.symbols.now
    c.exceeds.ensures.limits.some_unknown c.exceeds.ensures.limits.some_symbol (search of_calls) (search of_calls)
    (λ r h. shifted.spare r (omega arith)) in
    search of_calls
