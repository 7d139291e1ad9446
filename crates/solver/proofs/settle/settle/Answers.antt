use Rattle.std.proofs.Common.{◌≡◌, ℕ, ◌+◌, refl, sym, subst, arith}
use Rattle.systems.specs.System.{Size, Holds, HoldBelow}
use Rattle.systems.specs.Kept.{KeptAmong}
use Rattle.systems.specs.Form.{SameRow}
use Rattle.systems.proofs.Rows.{same_row_then}
use Rattle.elimination.specs.Progress.{SettledRow, Settled}
use Rattle.elimination.proofs.Settling.{settled_more, settled_contradiction}
use Rattle.elimination.proofs.Joining.{among_still}
use Rattle.rows.specs.Lent.{system_of}
use Rattle.rows.proofs.Loans.{same_loan_then}
use Rattle.solver.proofs.Settling.{settled_start}
use Rattle.solver.proofs.settle.settle.Goals as goal

pub loop-row-init : goal.loop-row-init
loop-row-init g c =
    let o = g.A.Arithmetic.operations in
    let z = c.args.memory.now.size in
    let old = system_of o c.args.memory.now in
    record {
      same = record { size = refl; coefficients = refl; symbols = refl };
      settled = subst (λ (n : ℕ). Settled o z old old n) (sym c.unknowns-row.ensures.value) (settled_start o z old c.requires.among);
    }

pub settle_row-requires-clause-among : goal.settle_row-requires-clause-among
settle_row-requires-clause-among g c =
    let o = g.A.Arithmetic.operations in
    let so_far = c.loop-row.invariant in
    let s = system_of o c.loop-row.memory in
    subst (λ (z : Size). KeptAmong o z s z.unknowns) (sym so_far.same.size)
    (among_still o g.met.A.Arithmetic.laws s c.requires.among so_far.settled.front)

pub returns-then-not-settle_row-clause-contradiction : goal.returns-then-not-settle_row-clause-contradiction
returns-then-not-settle_row-clause-contradiction g c _ x solves =
    let o = g.A.Arithmetic.operations in
    let so_far = c.loop-row.invariant in
    let s = system_of o c.loop-row.memory in
    settled_contradiction o g.met.A.Arithmetic.laws so_far.settled
    (subst (λ (z : Size). (x : _) → HoldBelow o z s c.loop-row.row x → Holds o z s x c.loop-row.row → ⊥) so_far.same.size
    (c.settle_row.ensures.contradiction c.if-not-settle_row.true))
    x (λ r h. solves r (omega arith))

pub returns-then-not-settle_row-clause-front : goal.returns-then-not-settle_row-clause-front
returns-then-not-settle_row-clause-front g c r h =
    let o = g.A.Arithmetic.operations in
    let so_far = c.loop-row.invariant in
    same_row_then
    (subst (λ (z : Size). SameRow z (system_of o c.settle_row.new.memory) (system_of o c.loop-row.memory) r) so_far.same.size
    (c.settle_row.ensures.others r (omega arith)))
    (so_far.settled.front r h)

pub returns-then-not-settle_row-clause-behind : goal.returns-then-not-settle_row-clause-behind
returns-then-not-settle_row-clause-behind g c r h =
    let o = g.A.Arithmetic.operations in
    let so_far = c.loop-row.invariant in
    same_row_then
    (subst (λ (z : Size). SameRow z (system_of o c.settle_row.new.memory) (system_of o c.loop-row.memory) r) so_far.same.size
    (c.settle_row.ensures.others r (omega arith)))
    (so_far.settled.ahead r (omega arith))

pub loop-row-preserved : goal.loop-row-preserved
loop-row-preserved g c =
    let o = g.A.Arithmetic.operations in
    let so_far = c.loop-row.invariant in
    record {
      same = same_loan_then so_far.same c.settle_row.ensures.same;
      settled = settled_more o g.met.A.Arithmetic.laws (omega arith) so_far.settled
          (subst (λ (z : Size). SettledRow o z (system_of o c.loop-row.memory) (system_of o c.settle_row.new.memory) c.loop-row.row) so_far.same.size
          (c.settle_row.ensures.settled c.if-not-settle_row.false));
    }

pub returns-clause-settled : goal.returns-clause-settled
returns-clause-settled g c _ =
    let o = g.A.Arithmetic.operations in
    let z = c.args.memory.now.size in
    let at : c.loop-row.row ≡ z.unknowns + z.spare = omega arith in
    subst (λ (n : ℕ). Settled o z (system_of o c.args.memory.now) (system_of o c.loop-row.memory) n) at c.loop-row.invariant.settled

pub returns-clause-behind : goal.returns-clause-behind
returns-clause-behind g c r h = c.loop-row.invariant.settled.ahead r (omega arith)
