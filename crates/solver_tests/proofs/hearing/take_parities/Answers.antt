use Rattle.std.proofs.Common.{◌≡◌, ℕ, ◌<◌, ◌≤◌, subst}
use Rattle.arithmetic.specs.Operations.{Operations}
use Rattle.systems.specs.System.{Size, System, rows}
use Rattle.systems.specs.Kept.{Kept}
use Rattle.systems.specs.Form.{SameRow}
use Rattle.systems.proofs.Rows.{same_row_then}
use Rattle.rows.specs.Lent.{system_of}
use Rattle.solver.specs.declared.batch.BatchOutcome.{BatchOutcome}
use Rattle.solver.specs.declared.batch.BatchOutcome.TheVariants.{Taken, Contradiction}
use Rattle.solver.specs.BatchOutcome.{SolveSays}
use Rattle.solver.proofs.Taking.{given_up}
use Rattle.solver_tests.proofs.Front.{front_then, among_front}
use Rattle.solver_tests.proofs.hearing.take_parities.Goals as goal

pub loop-row-preserved : goal.loop-row-preserved
loop-row-preserved g c = front_then c.loop-row.invariant c.write_parity.ensures

pub solve-requires : goal.solve-requires
solve-requires g c = record { among = among_front g.A.Arithmetic.operations g.met.A.Arithmetic.laws c.requires.kept c.loop-row.invariant }

-- where the rows that are written into the spare ones contradict the others, no row has changed
still : {F S : Type 0} {o : Operations F S} {z : Size} {old written new : System F S} {b : BatchOutcome} → Kept o z old
    → ((r : ℕ) → r < z.unknowns → SameRow z written old r) → ((r : ℕ) → rows z ≤ r → SameRow z written old r)
    → SolveSays o z written new b → ((r : ℕ) → rows z ≤ r → SameRow z new written r) → b ≡ Contradiction → (r : ℕ) → SameRow z new old r
still {b = Taken} kept front behind says further is = absurd (cc)
still {b = Contradiction} kept front behind (none, (same, empty)) further is =
    given_up kept (λ r h. same_row_then (same r h) (front r h)) empty (λ r h. same_row_then (further r h) (behind r h))

pub returns-clause-unchanged : goal.returns-clause-unchanged
returns-clause-unchanged g c =
    let o = g.A.Arithmetic.operations in
    let so_far = c.loop-row.invariant in
    let written = system_of o c.loop-row.memory in
    let new = system_of o c.solve.new.memory in
    let says = subst (λ (z : Size). SolveSays o z written new c.solve.result) so_far.same.size c.solve.ensures.says in
    let further = subst (λ (z : Size). (r : ℕ) → rows z ≤ r → SameRow z new written r) so_far.same.size c.solve.ensures.behind in
    still c.requires.kept so_far.front so_far.behind says further
