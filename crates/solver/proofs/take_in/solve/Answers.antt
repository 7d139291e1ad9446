use Rattle.std.proofs.Common.{ℕ, ◌<◌, ◌≤◌, sym, subst}
use Rattle.systems.specs.System.{Size, rows, Solves}
use Rattle.systems.specs.Kept.{Empty}
use Rattle.systems.specs.Form.{SameRow, KeptFormOf}
use Rattle.systems.proofs.Rows.{same_row_then}
use Rattle.systems.proofs.Unique.{form_of_same}
use Rattle.elimination.specs.Progress.{Joined}
use Rattle.elimination.proofs.Joining.{joined_start}
use Rattle.rows.specs.Lent.{system_of}
use Rattle.solver.proofs.take_in.solve.Goals as goal

pub returns-then-not-settle-clause-says : goal.returns-then-not-settle-clause-says
returns-then-not-settle-clause-says g c =
    let o = g.A.Arithmetic.operations in
    let s = system_of o c.settle.new.memory in
    let new = system_of o c.empty_spare.new.memory in (
      c.settle.ensures.contradiction c.if-not-settle.true,
      (
        λ r h. same_row_then
            (subst (λ (z : Size). (q : ℕ) → q < z.unknowns → SameRow z new s q) c.settle.ensures.same.size c.empty_spare.ensures.front r h)
            (c.settle.ensures.front r h),
        subst (λ (z : Size). (q : ℕ) → z.unknowns ≤ q → q < rows z → Empty o z new q) c.settle.ensures.same.size c.empty_spare.ensures.empty,
      ),
    )

pub returns-then-not-settle-clause-behind : goal.returns-then-not-settle-clause-behind
returns-then-not-settle-clause-behind g c r h =
    let o = g.A.Arithmetic.operations in
    let s = system_of o c.settle.new.memory in
    let new = system_of o c.empty_spare.new.memory in
    same_row_then
    (subst (λ (z : Size). (q : ℕ) → rows z ≤ q → SameRow z new s q) c.settle.ensures.same.size c.empty_spare.ensures.behind r h)
    (c.settle.ensures.behind r h)

pub join-requires : goal.join-requires
join-requires g c =
    let o = g.A.Arithmetic.operations in
    let s = system_of o c.settle.new.memory in
    record {
      joined = subst (λ (z : Size). Joined o z s z.unknowns) (sym c.settle.ensures.same.size)
          (joined_start o g.met.A.Arithmetic.laws c.requires.among (c.settle.ensures.settled c.if-not-settle.false));
    }

pub returns-clause-says : goal.returns-clause-says
returns-clause-says g c =
    let o = g.A.Arithmetic.operations in
    let z = c.args.memory.now.size in
    let s = system_of o c.settle.new.memory in
    let new = system_of o c.join.new.memory in
    form_of_same o z new (Solves o z s) (Solves o z (system_of o c.args.memory.now))
    (subst (λ (y : Size). KeptFormOf o y new (Solves o y s)) c.settle.ensures.same.size c.join.ensures.form)
    (c.settle.ensures.settled c.if-not-settle.false).means

pub returns-clause-behind : goal.returns-clause-behind
returns-clause-behind g c r h =
    let o = g.A.Arithmetic.operations in
    let s = system_of o c.settle.new.memory in
    let new = system_of o c.join.new.memory in
    same_row_then
    (subst (λ (z : Size). (q : ℕ) → rows z ≤ q → SameRow z new s q) c.settle.ensures.same.size c.join.ensures.behind r h)
    (c.settle.ensures.behind r h)
