-- Equations are written into the spare rows one by one, or these rows emptied. Assumes nothing.
use Rattle.std.proofs.Common.{◌≡◌, ℕ, ◌+◌, ◌<◌, ◌≤◌, ◌∙◌, arith}
use borrow.Author.Count.{below_more}
use Rattle.arithmetic.specs.Operations.{Operations}
use Rattle.systems.specs.System.{Size, System, rows}
use Rattle.systems.specs.Kept.{Empty}
use Rattle.systems.specs.Form.{SameRow}
use Rattle.systems.specs.Steps.{Copied, Emptied}
use Rattle.systems.proofs.Rows.{same_row_then, same_empty}
use Rattle.systems.proofs.Steps.{emptied_empty}
use Rattle.solver.specs.Copying.{CopiedIn}

-- one more equation is written
pub copied_more : {F S : Type 0} {z : Size} {i : ℕ} {given old s new : System F S} → CopiedIn z i given old s
    → Copied z given s new (z.unknowns + i) i → CopiedIn z (i + 1) given old new
copied_more {z = z} {i} {given} {old} {s} {new} copied step = record {
  coefficients = λ j u h l. below_more (λ q. new.coefficient (z.unknowns + q) u ≡ given.coefficient q u) i
      (λ q k. (step.others (z.unknowns + q) (λ e. omega arith)).coefficients u l ∙ copied.coefficients q u k l) (step.coefficients u l) j h;
  symbols = λ j p h l. below_more (λ q. new.symbol (z.unknowns + q) p ≡ given.symbol q p) i
      (λ q k. (step.others (z.unknowns + q) (λ e. omega arith)).symbols p l ∙ copied.symbols q p k l) (step.symbols p l) j h;
  front = λ r h. same_row_then (step.others r (λ e. omega arith)) (copied.front r h);
  behind = λ r h. same_row_then (step.others r (λ e. omega arith)) (copied.behind r (omega arith));
}

-- the spare rows below i say nothing; the rows of the unknowns, and what lies behind all rows, stay
pub record SpareEmptied {F S : Type 0} (o : Operations F S) (z : Size) (i : ℕ) (old new : System F S) : Type 0 where
  pub empty : (r : ℕ) → z.unknowns ≤ r → r < i → Empty o z new r
  pub front : (r : ℕ) → r < z.unknowns → SameRow z new old r
  pub behind : (r : ℕ) → rows z ≤ r → SameRow z new old r

pub spare_emptied_more : {F S : Type 0} {o : Operations F S} {z : Size} {i : ℕ} {old s new : System F S} → z.unknowns ≤ i → i < rows z
    → SpareEmptied o z i old s → Emptied o z s new i → SpareEmptied o z (i + 1) old new
spare_emptied_more {o = o} {z} {i} {old} {s} {new} spare within so_far step = record {
  empty = λ r from h. below_more (λ q. z.unknowns ≤ q → Empty o z new q) i
      (λ q k f. same_empty (step.others q (λ e. omega arith)) (so_far.empty q f k)) (λ f. emptied_empty step) r h from;
  front = λ r h. same_row_then (step.others r (λ e. omega arith)) (so_far.front r h);
  behind = λ r h. same_row_then (step.others r (λ e. omega arith)) (so_far.behind r h);
}
