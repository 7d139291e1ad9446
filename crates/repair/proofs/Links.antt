-- What the link of a plan is a spread of, and how far back that reaches. Assumes nothing.
use Rattle.std.proofs.Common.{◌≡◌, ℕ, ◌+◌, ◌-◌, ◌*◌, ◌≤◌, ◌≢◌, sym, ap, ap₂, ◌∙◌, add-mul, one-mul, mul_assoc, arith}
use Rattle.std.proofs.lemmas.Bool.{cond-true, cond-false, eq-eqb, ne_eqb}
use Rattle.arithmetic.specs.Operations.{Operations}
use Rattle.plan.specs.Numbers.{PlanNumbers}
use Rattle.plan.specs.Codes.{plan_link}
use Rattle.parities.proofs.Parted.{parted}
use Rattle.repair.specs.Losses.{deadline}
use Rattle.repair.proofs.Arrivals.{main_link, long_link}

module _ {F S : Type 0} (o : Operations F S) (plan : PlanNumbers) where
  -- with one deadline the code is the main diagonal, spread by B
  pub one_link : plan.stretch ≡ 1 → plan_link o plan ≡ parted (main_link o plan.width plan.symbols) plan.burst
  one_link one =
      let test = eq-eqb plan.stretch 1 one in
      ap₂ (λ x c. record { operations = o; shape = x; coefficients = c; symbols = plan.symbols }) (cond-true _ _ _ test) (cond-true _ _ _ test)

  -- with two it is the long one, spread by B
  pub two_link : plan.stretch ≢ 1 → plan_link o plan ≡ parted (long_link o plan.width (plan.stretch - 1) plan.symbols) plan.burst
  two_link two =
      let test = ne_eqb plan.stretch 1 two in
      ap₂ (λ x c. record { operations = o; shape = x; coefficients = c; symbols = plan.symbols }) (cond-false _ _ _ test) (cond-false _ _ _ test)

-- and D is as far back as that reaches
pub two_due : (plan : PlanNumbers) (s : ℕ) → 1 ≤ s → s + 1 ≡ plan.stretch → ((s + 1) * plan.width + 1) * plan.burst ≡ deadline plan
two_due plan s steps up =
    let m = plan.width in
    let b = plan.burst in
    let test = ne_eqb plan.stretch 1 (λ e. omega arith) in
    add-mul ((s + 1) * m) 1 b
    ∙ ap₂ (λ (x y : ℕ). x + y) (mul_assoc (s + 1) m b ∙ ap (λ (n : ℕ). n * (m * b)) up) (one-mul b)
    ∙ sym (cond-false _ _ _ test)
