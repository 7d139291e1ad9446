-- Steps in the spare rows. Assumes nothing.
use Rattle.std.proofs.Common.{ℕ, ◌<◌, ◌≤◌, ◌≢◌, sym, subst, arith}
use Rattle.arithmetic.specs.Operations.{Operations}
use Rattle.arithmetic.specs.Laws.{ArithmeticLaws}
use Rattle.systems.specs.System.{Size, rows}
use Rattle.systems.specs.Kept.{Kept, KeptAmong}
use Rattle.systems.specs.Form.{SameRow}
use Rattle.systems.specs.Steps.{RowWritten}
use Rattle.systems.proofs.Rows.{same_row_then}
use Rattle.elimination.proofs.Joining.{kept_among}
use Rattle.rows.specs.declared.memory.Memory.{Memory}
use Rattle.rows.specs.Lent.{system_of, SameLoan}
use Rattle.rows.proofs.Loans.{same_loan_then}
use Rattle.solver_tests.specs.Front.{SameFront}

-- one more spare row is written
pub written_then : {F S : Type 0} {o : Operations F S} {a b c : Memory F S} {row : ℕ} {cs : ℕ → F} {ss : ℕ → S} → SameFront o a b
    → SameLoan b c → RowWritten b.size (system_of o b) (system_of o c) row cs ss → a.size.unknowns ≤ row → row < rows a.size → SameFront o a c
written_then {o = o} {a} {b} {c} {row} {cs} {ss} f same written from within = record {
  same = same_loan_then f.same same;
  front = λ r h. same_row_then (stays r (λ e. omega arith)) (f.front r h);
  behind = λ r h. same_row_then (stays r (λ e. omega arith)) (f.behind r h);
} where
  stays : (r : ℕ) → r ≢ row → SameRow a.size (system_of o c) (system_of o b) r
  stays = subst (λ (z : Size). (r : ℕ) → r ≢ row → SameRow z (system_of o c) (system_of o b) r) f.same.size written.others

pub front_then : {F S : Type 0} {o : Operations F S} {a b c : Memory F S} → SameFront o a b → SameFront o b c → SameFront o a c
front_then {o = o} {a} {b} {c} f g =
    let stays = subst (λ (z : Size). (q : ℕ) → q < z.unknowns → SameRow z (system_of o c) (system_of o b) q) f.same.size g.front in
    let still = subst (λ (z : Size). (q : ℕ) → rows z ≤ q → SameRow z (system_of o c) (system_of o b) q) f.same.size g.behind in
    record {
      same = same_loan_then f.same g.same;
      front = λ r h. same_row_then (stays r h) (f.front r h);
      behind = λ r h. same_row_then (still r h) (f.behind r h);
    }

-- so a memory in kept form can be solved
pub among_front : {F S : Type 0} (o : Operations F S) (laws : ArithmeticLaws o) {a b : Memory F S} → Kept o a.size (system_of o a)
    → SameFront o a b → KeptAmong o b.size (system_of o b) b.size.unknowns
among_front o laws {a} {b} kept f =
    subst (λ (z : Size). KeptAmong o z (system_of o b) z.unknowns) (sym f.same.size) (kept_among o laws (system_of o b) kept f.front)
