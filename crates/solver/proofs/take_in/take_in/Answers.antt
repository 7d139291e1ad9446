use Rattle.std.proofs.Common.{sym, subst, of_calls, arith}
use Rattle.systems.specs.System.{Size}
use Rattle.systems.specs.Kept.{KeptAmong}
use Rattle.systems.proofs.Rows.{same_row_then}
use Rattle.elimination.proofs.Joining.{kept_among}
use Rattle.rows.specs.Memory.{memory}
use Rattle.rows.specs.Lent.{system_of}
use Rattle.rows.proofs.Behind.{behind}
use Rattle.solver.proofs.Taking.{batch_says}
use Rattle.solver.proofs.take_in.take_in.Goals as goal

pub solve-requires : goal.solve-requires
solve-requires g c =
    let o = g.A.Arithmetic.operations in
    let s = system_of o c.copy_in.new.memory in
    record {
      among = subst (λ (z : Size). KeptAmong o z s z.unknowns) (sym c.copy_in.ensures.same.size)
          (kept_among o g.met.A.Arithmetic.laws s (c.requires.kept (c.exceeds.ensures.room c.if-exceeds.false)) c.copy_in.ensures.copied.front);
    }

pub returns-clause-says : goal.returns-clause-says
returns-clause-says g c =
    let o = g.A.Arithmetic.operations in
    let z = c.args.size.now in
    let given = c.args.equations.now in
    let with = c.copy_in.new.memory in
    let solved = c.solve.new.memory in
    let copied = rw (c.copy_in.ensures.same.size) at c.copy_in.ensures.copied in
    let says = rw (c.solve.ensures.same.size, c.copy_in.ensures.same.size) at c.solve.ensures.says in
    let still = rw (c.solve.ensures.same.size, c.copy_in.ensures.same.size) at c.solve.ensures.behind in
    let all = batch_says o g.met.A.Arithmetic.laws z c.args.count (memory o z given.coefficients.now given.symbols.now)
    c.args.coefficients.now with.coefficients.now solved.coefficients.now c.args.symbols.now with.symbols.now solved.symbols.now
    (omega arith) c.exceeds.ensures.limits.some_unknown c.exceeds.ensures.limits.some_symbol
    (c.requires.kept (c.exceeds.ensures.room c.if-exceeds.false)) copied c.solve.result says still (search of_calls) (search of_calls) in
    search of_calls

pub returns-clause-behind : goal.returns-clause-behind
returns-clause-behind g c =
    let solved = c.solve.new.memory in
    let copied = rw (c.copy_in.ensures.same.size) at c.copy_in.ensures.copied in
    let still = rw (c.solve.ensures.same.size, c.copy_in.ensures.same.size) at c.solve.ensures.behind in
    let all = behind g.A.Arithmetic.operations c.args.size.now c.args.coefficients.now solved.coefficients.now c.args.symbols.now solved.symbols.now
    c.exceeds.ensures.limits.some_unknown c.exceeds.ensures.limits.some_symbol (search of_calls) (search of_calls)
    (λ r h. same_row_then (still r h) (copied.behind r (omega arith))) in
    search of_calls
