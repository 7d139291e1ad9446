use Rattle.std.proofs.Common.{sym, ◌∙◌, arith}
use Rattle.systems.proofs.Reading.{shared, differ_empty, differ_other}
use Rattle.rows.specs.Memory.{memory}
use Rattle.solver.proofs.read.read.Goals as goal

pub returns-then-not-same-clause-says : goal.returns-then-not-same-clause-says
returns-then-not-same-clause-says g c =
    let o = g.A.Arithmetic.operations in
    let z = c.args.size.now in
    differ_empty o g.met.A.Arithmetic.laws z (memory o z c.args.coefficients.now c.args.symbols.now) (c.requires.kept (c.exceeds.ensures.room c.if-exceeds.false)) c.args.unknown (omega arith)
    c.exceeds.ensures.limits.some_symbol
    (λ e. let same = c.same.ensures.1 (cc) in cc)

pub returns-in-Some-clause-says : goal.returns-in-Some-clause-says
returns-in-Some-clause-says g c =
    let o = g.A.Arithmetic.operations in
    let z = c.args.size.now in
    let (within, other, some) = c.in-Some.ensures in
    differ_other o g.met.A.Arithmetic.laws z (memory o z c.args.coefficients.now c.args.symbols.now) (c.requires.kept (c.exceeds.ensures.room c.if-exceeds.false)) c.args.unknown c.in-Some._other within other
    c.exceeds.ensures.limits.some_symbol some

pub returns-clause-says : goal.returns-clause-says
returns-clause-says g c =
    let o = g.A.Arithmetic.operations in
    let z = c.args.size.now in
    let same = rw (c.coefficient_at.ensures, c.one.ensures) at c.same.ensures in
    let all = shared o g.met.A.Arithmetic.laws z (memory o z c.args.coefficients.now c.args.symbols.now) c.args.unknown (omega arith) (same.0 c.if-not-same.false) c.in_default.ensures in
    record { whole = c.symbols_of.ensures.whole; shared = λ x solves p h. all x solves p h ∙ sym (c.symbols_of.ensures.each p h) }
