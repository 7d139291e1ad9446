-- No deadline of a plan could be earlier. Assumes nothing.
use Rattle.std.proofs.Common.{◌≡◌, ℕ, ◌+◌, ◌-◌, ◌*◌, ◌/◌, ◌%◌, ◌<◌, ◌≤◌, ◌≢◌, ◌⊎◌, inl, inr, sym, subst, refl, ap, ◌∙◌, add-mul, one-mul, mul-one, mul-le-mul_left, mul-le-mul_right, lt_of_mul-lt-mul_right, arith}
use Rattle.std.specs.Prelude.{◌==◌}
use Rattle.std.proofs.lemmas.Bool.{cases_eq, cond_both, cond-true, eq-eqb, eqb-true}
use Rattle.std.proofs.lemmas.Nat.{mul-le, div-add-mod'}
use Rattle.arithmetic.specs.Operations.{Sums, Products, Operations}
use Rattle.arithmetic.specs.Laws.{ArithmeticLaws}
use Rattle.codes.specs.Link.{Link, link_of}
use Rattle.codes.specs.Coefficients.{main_shape, main_coefficients, back_shape, back_coefficients}
use Rattle.codes.specs.Bounded.{spread_bounded, main_bounded, back_bounded, overlay_bounded}
use Rattle.plan.specs.Numbers.{PlanNumbers}
use Rattle.plan.specs.Codes.{plan_link, shape_of, coefficients_of, CodeOf}
use Rattle.plan.specs.declared.code.PlanCode.{PlanCode}
use Rattle.plan.proofs.Means.{code_link}
use Rattle.parities.specs.Laws.{Bounded}
use Rattle.parities.proofs.Parted.{parted}
use Rattle.repair.specs.Losses.{Short, Long, short_deadline, deadline}
use Rattle.repair.specs.Tight.{Undecided, NoEarlier}
use Rattle.repair.proofs.Arrivals.{main_link, long_link, main_zero, long_zero}
use Rattle.repair.proofs.Limits.{Limits}
use Rattle.repair.proofs.Links.{one_link, two_link, two_due}
use Rattle.repair.proofs.Unseen.{undecided}

-- a link that is spread by B
module _ {F S : Type 0} (plan : PlanNumbers) (bounds : Limits plan.burst plan.width plan.stretch) (some : 1 ≤ plan.symbols)
    (inner : Link F S) (laws : ArithmeticLaws inner.operations) (bounded : Bounded inner)
    (single : inner.shape.parities ≡ 1) (sources : inner.shape.sources ≡ plan.width) (symbols : inner.symbols ≡ plan.symbols) where
  -- it adds up a sub-symbol only where the code itself does, at the age in steps
  spread_zero : (k a : ℕ) → ((q : ℕ) → q * plan.burst ≡ a → inner.coefficients 0 q k ≡ inner.operations.coefficients.zero)
      → (parted inner plan.burst).coefficients 0 a k ≡ inner.operations.coefficients.zero
  spread_zero k a none =
      let zero = inner.operations.coefficients.zero in
      let whole = div-add-mod' a plan.burst in
      cond_both (a % plan.burst == 0) (inner.coefficients 0 (a / plan.burst) k) zero (λ c. c ≡ zero)
      (λ test. let rest = eqb-true (a % plan.burst) 0 test in none (a / plan.burst) (omega arith))
      (λ _. refl)

  -- where it adds up sub-symbol k of slot 0 in no slot behind slot e and before slot n, packet 0 may stay open till then
  open_till : (k e n : ℕ) → k < plan.width → e < n → n ≤ 63 * 65
      → ((q : ℕ) → e < q * plan.burst → q * plan.burst < n → inner.coefficients 0 q k ≡ inner.operations.coefficients.zero)
      → Short plan 0 e ⊎ Long plan 0 e → Undecided (parted inner plan.burst) plan e n
  open_till k e n within later small none =
      undecided (parted inner plan.burst) laws (spread_bounded inner.operations.coefficients inner.shape inner.coefficients plan.burst bounded) single
      (omega arith) k e n (omega arith) later (omega arith)
      (λ a past soon. spread_zero k a (λ q steps. none q (omega arith) (omega arith)))
      plan

  -- so it may for T slots, where the code adds up sub-symbol 0 at no age below m,
  short_open : ((q : ℕ) → q < plan.width → inner.coefficients 0 q 0 ≡ inner.operations.coefficients.zero)
      → Undecided (parted inner plan.burst) plan 0 (short_deadline plan)
  short_open none =
      let m = plan.width in
      let b = plan.burst in
      let low = bounds.burst_low in
      let first : 1 * b ≤ m * b = mul-le-mul_right b bounds.width_low in
      open_till 0 0 (m * b) bounds.width_low (omega (arith, one-mul b)) (omega (arith, mul-le m b 8 63 bounds.width_high bounds.burst_high))
      (λ q past soon. none q (lt_of_mul-lt-mul_right b soon))
      (inl (omega arith))

  -- with one deadline it may for as long in the longest run, which is a short one,
  one_open : plan.stretch ≡ 1 → ((q : ℕ) → q < plan.width → inner.coefficients 0 q 0 ≡ inner.operations.coefficients.zero)
      → Undecided (parted inner plan.burst) plan (plan.stretch * plan.burst - 1) (deadline plan)
  one_open one none =
      let m = plan.width in
      let b = plan.burst in
      let low = bounds.burst_low in
      let run : plan.stretch * b ≡ b = ap (λ (n : ℕ). n * b) one ∙ one-mul b in
      let first : 1 * b ≤ m * b = mul-le-mul_right b bounds.width_low in
      let due : m * b ≡ deadline plan = sym (cond-true _ _ _ (eq-eqb plan.stretch 1 one)) in
      subst (λ (n : ℕ). Undecided (parted inner b) plan (plan.stretch * b - 1) n) due
      (open_till 0 (plan.stretch * b - 1) (m * b) bounds.width_low (omega (arith, run, first, one-mul b))
      (omega (arith, mul-le m b 8 63 bounds.width_high bounds.burst_high))
      (λ q past soon. none q (lt_of_mul-lt-mul_right b soon))
      (inl (omega (arith, run))))

  -- and with two, in the longest run for D slots, d steps, where it adds up the last sub-symbol at no age between 1 and d
  all_open : (d : ℕ) → 2 ≤ plan.stretch → plan.stretch ≤ d → d ≤ 65 → d * plan.burst ≡ deadline plan
      → ((q : ℕ) → 1 < q → q < d → inner.coefficients 0 q (plan.width - 1) ≡ inner.operations.coefficients.zero)
      → Undecided (parted inner plan.burst) plan (plan.stretch * plan.burst - 1) (deadline plan)
  all_open d two long most due none =
      let b = plan.burst in
      let α = plan.stretch in
      let low = bounds.burst_low in
      let wide = bounds.width_low in
      let run : 2 * b ≤ α * b = mul-le-mul_right b two in
      let reach : α * b ≤ d * b = mul-le-mul_right b long in
      subst (λ (n : ℕ). Undecided (parted inner b) plan (α * b - 1) n) due
      (open_till (plan.width - 1) (α * b - 1) (d * b) (omega arith) (omega arith) (omega (arith, mul-le d b 65 63 most bounds.burst_high))
      (λ q past soon. none q (lt_of_mul-lt-mul_right b (omega (arith, one-mul b))) (lt_of_mul-lt-mul_right b soon))
      (inr (omega arith, omega arith)))

module _ {F S : Type 0} (o : Operations F S) (laws : ArithmeticLaws o) (plan : PlanNumbers)
    (bounds : Limits plan.burst plan.width plan.stretch) (some : 1 ≤ plan.symbols) where
  -- neither deadline could be earlier with one deadline,
  one_tight : plan.stretch ≡ 1 → NoEarlier (plan_link o plan) plan
  one_tight one =
      let m = plan.width in
      let inner = main_link o m plan.symbols in
      subst (λ l. NoEarlier l plan) (sym (one_link o plan one)) record {
        short =
            short_open plan bounds some inner laws (main_bounded o.coefficients o.products m) refl refl refl
            (λ q less. main_zero o laws m q 0 (λ e. omega arith));
        all =
            one_open plan bounds some inner laws (main_bounded o.coefficients o.products m) refl refl refl one
            (λ q less. main_zero o laws m q 0 (λ e. omega arith));
      }

  -- nor with two
  two_tight : plan.stretch ≢ 1 → NoEarlier (plan_link o plan) plan
  two_tight two =
      let m = plan.width in
      let s = plan.stretch - 1 in
      let low = bounds.stretch_low in
      let wide = bounds.width_low in
      let up : s + 1 ≡ plan.stretch = omega arith in
      let inner = long_link o m s plan.symbols in
      let bounded : Bounded inner =
      overlay_bounded o.coefficients laws.coefficients (main_shape m) (back_shape m s)
      (main_coefficients o.coefficients o.products m) (back_coefficients o.coefficients o.products m s) (m + 1)
      (main_bounded o.coefficients o.products m) (back_bounded o.coefficients o.products m s) in
      let least : (s + 1) * 1 ≤ (s + 1) * m = mul-le-mul_left (s + 1) wide in
      let most = mul-le (s + 1) m 8 8 (omega (arith, bounds.stretch_high)) bounds.width_high in
      let last : s * (m - 1 + 1) ≡ s * m = ap (λ (n : ℕ). s * n) (omega arith) in
      let parts = add-mul s 1 m in
      subst (λ l. NoEarlier l plan) (sym (two_link o plan two)) record {
        short =
            short_open plan bounds some inner laws bounded (omega arith) (omega arith) refl
            (λ q less. long_zero o laws m s q 0 (λ e. omega arith) (λ e. omega arith));
        all =
            all_open plan bounds some inner laws bounded (omega arith) (omega arith) refl ((s + 1) * m + 1) (omega arith)
            (omega (arith, mul-one (s + 1))) (omega arith) (two_due plan s (omega arith) up)
            (λ q past soon. long_zero o laws m s q (m - 1) (λ e. omega arith) (λ e. omega (arith, one-mul m)));
      }

  -- a plan has one deadline or two
  pub tight_law : NoEarlier (plan_link o plan) plan
  tight_law = elim (cases_eq plan.stretch 1) [ inl one ↦ one_tight one | inr two ↦ two_tight two ]

-- how many symbols a plan has does not tell whether it allows a log
any_symbols : {F S : Type 0} (link : Link F S) (plan : PlanNumbers) (l e n : ℕ) → Undecided link (record plan { symbols = l }) e n
    → Undecided link plan e n
any_symbols link plan l e n open_yet = record {
  log = open_yet.log;
  allowed = open_yet.allowed;
  run = open_yet.run;
  so_far = open_yet.so_far;
  differ = open_yet.differ;
}

-- neither deadline could be earlier on the link of a code that is made of the plan's parts, with any number of symbols to a sub-symbol
pub code_tight : {F S : Type 0} (o : Operations F S) → ArithmeticLaws o → (s : Sums F) (p : Products F) → o.coefficients ≡ s → o.products ≡ p
    → (plan : PlanNumbers) → Limits plan.burst plan.width plan.stretch → (c : PlanCode) (l : ℕ) → 1 ≤ l
    → CodeOf plan.burst plan.width plan.stretch c → NoEarlier (link_of o shape_of (coefficients_of s p) c l) plan
code_tight o laws s p sums products plan bounds c l some parts =
    let same = record plan { symbols = l } in
    let law = subst (λ link. NoEarlier link same) (sym (code_link o s p sums products same c parts)) (tight_law o laws same bounds some) in
    record { short = any_symbols _ plan l _ _ law.short; all = any_symbols _ plan l _ _ law.all }
