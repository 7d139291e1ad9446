use Rattle.std.proofs.Common.{◌≡◌, ℕ, List, slice_index_or, sym, subst, of_calls, arith}
use Rattle.arithmetic.specs.Operations.{Operations}
use Rattle.systems.specs.System.{Size}
use Rattle.systems.specs.Form.{KeptFormOf}
use Rattle.systems.proofs.Giving.{given_form}
use Rattle.systems.proofs.Rows.{same_row_then}
use Rattle.rows.specs.Memory.{memory}
use Rattle.rows.proofs.Behind.{behind}
use Rattle.solver.proofs.give.give.Goals as goal

-- the form that slices hold is held by the same slices
same_form : {F S : Type 0} (o : Operations F S) (z : Size) {cs ds : List F} {ss ts : List S} {set : (ℕ → ℕ → S) → Type 0} → ds ≡ cs → ts ≡ ss
    → KeptFormOf o z (memory o z cs ss) set → KeptFormOf o z (memory o z ds ts) set
same_form {F} {S} o z {cs} {ds} {ss} {ts} {set} e f form =
    subst (λ (xs : List F). KeptFormOf o z (memory o z xs ts) set) (sym e) (subst (λ (ys : List S). KeptFormOf o z (memory o z cs ys) set) (sym f) form)

pub returns-clause-form : goal.returns-clause-form
returns-clause-form g c =
    let o = g.A.Arithmetic.operations in
    let z = c.args.size.now in
    let with_one = c.write_coefficient.new.self in
    let given = c.write_symbols.new.self in
    let room = c.exceeds.ensures.room c.if-exceeds.false in
    same_form o z (search of_calls) (search of_calls) (
    given_form o g.met.A.Arithmetic.laws z (memory o z c.args.coefficients.now c.args.symbols.now)
    (memory o z with_one.coefficients.now with_one.symbols.now) (memory o z given.coefficients.now given.symbols.now) c.args.unknown
    (λ (p : ℕ). slice_index_or c.args.given.now p o.symbols.zero) (c.requires.kept room) (c.requires.nothing_known room (omega arith)) (omega arith)
    c.exceeds.ensures.limits.some_symbol
    (rw (c.write_coefficient.ensures.same.size, c.one.ensures) at c.write_coefficient.ensures.written)
    (rw (c.write_symbols.ensures.same.size, c.write_coefficient.ensures.same.size) at c.write_symbols.ensures.written)
    )

pub returns-clause-behind : goal.returns-clause-behind
returns-clause-behind g c =
    let given = c.write_symbols.new.self in
    let with_one = rw (c.write_coefficient.ensures.same.size) at c.write_coefficient.ensures.written in
    let with_symbols = rw (c.write_symbols.ensures.same.size, c.write_coefficient.ensures.same.size) at c.write_symbols.ensures.written in
    let behind = behind g.A.Arithmetic.operations c.args.size.now c.args.coefficients.now given.coefficients.now c.args.symbols.now given.symbols.now
    c.exceeds.ensures.limits.some_unknown c.exceeds.ensures.limits.some_symbol (search of_calls) (search of_calls)
    (λ r h. same_row_then (with_symbols.others r (λ e. omega arith)) (with_one.others r (λ e. omega arith))) in
    search of_calls
