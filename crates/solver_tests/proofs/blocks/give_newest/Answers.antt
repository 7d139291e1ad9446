use Rattle.std.proofs.Common.{arith}
use Rattle.systems.proofs.Giving.{new_unknown}
use Rattle.rows.specs.Memory.{memory}
use Rattle.word.specs.Arithmetic.{word_operations}
use Rattle.solver_tests.proofs.blocks.give_newest.Goals as goal

pub give-requires-clause-nothing_known : goal.give-requires-clause-nothing_known
give-requires-clause-nothing_known c room within =
    let o = word_operations in
    let z = c.args.size.now in
    new_unknown o z 4 (memory o z c.write_zero.new.coefficients c.write_zero.new.symbols)
    (memory o z c.move_on.new.coefficients c.move_on.new.symbols) c.in_ok-move_on.ensures.form.stands 3 (omega arith)
