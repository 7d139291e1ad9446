-- What the limits of a plan's numbers say. Assumes nothing.
use Rattle.std.proofs.Common.{◌≡◌, ℕ, ◌≤◌, Bool, true, false, refl, rules}
use Rattle.std.specs.Prelude.{Option}
use Rattle.refusal.specs.Order.{refused, accepted}
use Rattle.codes.specs.Shape.{out_of}
use Rattle.plan.specs.Numbers.{PlanNumbers, IsPlan}

-- where nothing is refused, the first check passed, and so did the later ones
passed : (test : Bool) (number : ℕ) (later : Option ℕ) → refused test number later ≡ accepted → (test ≡ false) × (later ≡ accepted)
passed true number later e = absurd (search (rules, e))
passed false number later e = (refl, e)

-- a number that is not outside its limits is within them
inside : (low high n : ℕ) → out_of low high n ≡ false → (low ≤ n) × (n ≤ high)
inside low high n e = (search (rules, e), search (rules, e))

-- what is asked of B, m and α
pub record Limits (b m α : ℕ) : Type 0 where
  pub burst_low : 1 ≤ b
  pub burst_high : b ≤ 63
  pub width_low : 1 ≤ m
  pub width_high : m ≤ 8
  pub stretch_low : 1 ≤ α
  pub stretch_high : α ≤ 8

module _ (plan : PlanNumbers) (is : IsPlan plan) where
  -- each number of a plan has passed its check,
  abbrev Passed : (b m α l : Bool) → Type 0
  Passed b m α l = (b ≡ false) × ((m ≡ false) × ((α ≡ false) × (l ≡ false)))

  each_passed : Passed (out_of 1 63 plan.burst) (out_of 1 8 plan.width) (out_of 1 8 plan.stretch) (out_of 1 32 plan.symbols)
  each_passed =
      let (b, r) = passed (out_of 1 63 plan.burst) 1 _ is in
      let (m, q) = passed (out_of 1 8 plan.width) 1 _ r in
      let (α, p) = passed (out_of 1 8 plan.stretch) 1 _ q in
      let (l, _) = passed (out_of 1 32 plan.symbols) 1 _ p in
      (b, (m, (α, l)))

  -- so they are within their limits,
  pub limits : Limits plan.burst plan.width plan.stretch
  limits =
      let (b, (m, (α, l))) = each_passed in
      let burst = inside 1 63 plan.burst b in
      let width = inside 1 8 plan.width m in
      let stretch = inside 1 8 plan.stretch α in
      record {
        burst_low = burst.0;
        burst_high = burst.1;
        width_low = width.0;
        width_high = width.1;
        stretch_low = stretch.0;
        stretch_high = stretch.1;
      }

  -- and a sub-symbol has a symbol
  pub some_symbols : 1 ≤ plan.symbols
  some_symbols = let (b, (m, (α, l))) = each_passed in (inside 1 32 plan.symbols l).0
