use Rattle.std.proofs.Common.{◌<◌, refl, sym, ◌∙◌, subst}
use Rattle.systems.specs.System.{Size}
use Rattle.systems.specs.Kept.{NoCoefficient, NoSymbol}
use Rattle.systems.specs.Steps.{Scaled}
use Rattle.elimination.proofs.Settling.{settled_row_empty, no_symbol_left, settled_row_leading, settled_row_scaled}
use Rattle.rows.specs.Lent.{system_of}
use Rattle.solver.proofs.settle.settle_row.Goals as goal

pub returns-in_default-clause-settled : goal.returns-in_default-clause-settled
returns-in_default-clause-settled g c zeros =
    let o = g.A.Arithmetic.operations in
    let s = system_of o c.reduce.new.memory in
    settled_row_empty o g.met.A.Arithmetic.laws c.requires.led c.reduce.ensures.reduced
    (subst (λ (z : Size). NoCoefficient o z s c.args.row) c.reduce.ensures.same.size c.in_default.ensures)
    (subst (λ (z : Size). NoSymbol o z s c.args.row) c.reduce.ensures.same.size (c.symbols_are_zero.ensures.0 zeros))

pub returns-in_default-clause-contradiction : goal.returns-in_default-clause-contradiction
returns-in_default-clause-contradiction g c some x below held =
    let o = g.A.Arithmetic.operations in
    let s = system_of o c.reduce.new.memory in
    let nothing = subst (λ (z : Size). NoCoefficient o z s c.args.row) c.reduce.ensures.same.size c.in_default.ensures in
    let left = no_symbol_left o g.met.A.Arithmetic.laws c.reduce.ensures.reduced nothing x below held in
    let zeros = c.symbols_are_zero.ensures.1 (subst (λ (z : Size). NoSymbol o z s c.args.row) (sym c.reduce.ensures.same.size) left) in
    cc

pub returns-then-same-clause-settled : goal.returns-then-same-clause-settled
returns-then-same-clause-settled g c _ =
    settled_row_leading g.A.Arithmetic.operations g.met.A.Arithmetic.laws c.requires.led c.reduce.ensures.reduced
    (subst (λ (z : Size). c.in-Some.column < z.unknowns) c.reduce.ensures.same.size c.in-Some.ensures.0) c.in-Some.ensures.1
    (sym c.coefficient-first.ensures ∙ c.same.ensures.0 c.if-same.true ∙ c.one.ensures)

pub returns-in-Some-inverse-clause-settled : goal.returns-in-Some-inverse-clause-settled
returns-in-Some-inverse-clause-settled g c _ =
    let o = g.A.Arithmetic.operations in
    let s = system_of o c.reduce.new.memory in
    settled_row_scaled o g.met.A.Arithmetic.laws c.requires.led c.reduce.ensures.reduced
    (subst (λ (z : Size). c.in-Some.column < z.unknowns) c.reduce.ensures.same.size c.in-Some.ensures.0) c.in-Some.ensures.1
    (rw c.coefficient-first.ensures at c.in-Some-inverse.ensures)
    (subst (λ (z : Size). Scaled o z s (system_of o c.scale_row.new.self) c.args.row c.in-Some-inverse.c) c.reduce.ensures.same.size c.scale_row.ensures.scaled)

pub returns-in-Some-inverse-clause-others : goal.returns-in-Some-inverse-clause-others
returns-in-Some-inverse-clause-others g c = (returns-in-Some-inverse-clause-settled g c refl).others
