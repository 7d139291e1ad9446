-- Plans repair in time. Assumes nothing.
use Rattle.std.proofs.Common.{◌≡◌, ℕ, ◌+◌, ◌-◌, ◌*◌, ◌<◌, ◌≤◌, ◌≢◌, inl, inr, sym, subst, refl, arith}
use Rattle.std.proofs.lemmas.Bool.{cases_eq, cond-true, eq-eqb}
use Rattle.std.proofs.lemmas.Nat.{mul-le}
use Rattle.arithmetic.specs.Operations.{Sums, Products, Operations}
use Rattle.arithmetic.specs.Laws.{ArithmeticLaws}
use Rattle.codes.specs.Link.{Link, link_of}
use Rattle.streams.specs.Streams.{Stream}
use Rattle.streams.specs.Logs.{Log, was_lost}
use Rattle.plan.specs.Numbers.{PlanNumbers}
use Rattle.plan.specs.Codes.{plan_link, shape_of, coefficients_of, CodeOf}
use Rattle.plan.specs.declared.code.PlanCode.{PlanCode}
use Rattle.plan.proofs.Means.{code_link}
use Rattle.parities.specs.Parities.{parity_of, every}
use Rattle.parities.proofs.Parted.{parted, spread_parities}
use Rattle.repair.specs.Losses.{AllowsLog, deadline}
use Rattle.repair.specs.Law.{RepairsInTime}
use Rattle.repair.proofs.Telling.{Tells}
use Rattle.repair.proofs.Allowing.{AllowsRuns, Deadline}
use Rattle.repair.proofs.Arrivals.{main_link, long_link, main_tells, long_tells}
use Rattle.repair.proofs.Spreads.{of_short, of_any}
use Rattle.repair.proofs.Limits.{Limits}
use Rattle.repair.proofs.Links.{one_link, two_link, two_due}

-- a code whose arrivals tell what those of the plan tell where B is 1; it is spread by B
module _ {F S : Type 0} (plan : PlanNumbers) (bounds : Limits plan.burst plan.width plan.stretch)
    (inner : Link F S) (laws : ArithmeticLaws inner.operations) (s d : ℕ)
    (sources : inner.shape.sources ≡ plan.width) (parities : inner.shape.parities ≡ 1)
    (tells : (one other : Stream S) (t p : ℕ) → parity_of inner one t 0 p ≡ parity_of inner other t 0 p
    → Tells plan.width s (λ u k. one u k p ≡ other u k p) t)
    (fits : plan.burst * inner.shape.memory ≤ 4294967295)
    (stretch : s + 1 ≡ plan.stretch) (unspread : Deadline plan.width s d) (due : d * plan.burst ≡ deadline plan) where
  -- what the plan allows, in the numbers of the spread
  in_numbers : (log : Log S) → AllowsLog plan log
      → AllowsRuns (was_lost log) plan.burst (plan.width * plan.burst) ((s + 1) * plan.burst) (d * plan.burst)
  in_numbers log allows =
      subst (λ (n : ℕ). AllowsRuns (was_lost log) plan.burst (plan.width * plan.burst) ((s + 1) * plan.burst) n) (sym due)
      (subst (λ (n : ℕ). AllowsRuns (was_lost log) plan.burst (plan.width * plan.burst) (n * plan.burst) (deadline plan)) (sym stretch) allows)

  -- on the slots of one remainder all is as where B is 1
  parts : (stream : Stream S) (t r j i : ℕ) → r < plan.burst
      → parity_of (parted inner plan.burst) stream (t * plan.burst + r) j i ≡ parity_of inner (every plan.burst r stream) t j i
  parts = spread_parities inner laws plan.burst fits

  -- so all is repaired in time
  in_time : RepairsInTime (parted inner plan.burst) plan
  in_time = record {
    short = λ log allows a e i run short from to settled one other agrees also k p lk lp.
        of_short inner plan.burst plan.width s d bounds.burst_low bounds.width_low sources parities parts tells unspread
        log (in_numbers log allows) one other agrees also p lp a e i k (omega (arith, sources)) run short from to settled;
    all = λ log allows i settled one other agrees also k p lk lp.
        of_any inner plan.burst plan.width s d bounds.burst_low bounds.width_low sources parities parts tells unspread
        log (in_numbers log allows) one other agrees also p lp i k (omega (arith, sources)) (omega (arith, due, settled));
  }

module _ {F S : Type 0} (o : Operations F S) (laws : ArithmeticLaws o) (plan : PlanNumbers) (bounds : Limits plan.burst plan.width plan.stretch) where
  -- all is repaired in time with one deadline,
  one_deadline : plan.stretch ≡ 1 → RepairsInTime (plan_link o plan) plan
  one_deadline one =
      let test = eq-eqb plan.stretch 1 one in
      subst (λ l. RepairsInTime l plan) (sym (one_link o plan one))
      (in_time plan bounds (main_link o plan.width plan.symbols) laws 0 plan.width refl refl
      (main_tells o laws plan.width plan.symbols)
      (omega (arith, mul-le plan.burst plan.width 63 8 bounds.burst_high bounds.width_high))
      (omega (arith, one)) (inl (refl, refl)) (sym (cond-true _ _ _ test)))

  -- and with two
  two_deadlines : plan.stretch ≢ 1 → RepairsInTime (plan_link o plan) plan
  two_deadlines two =
      let low = bounds.stretch_low in
      let high = bounds.stretch_high in
      let b = plan.burst in
      let m = plan.width in
      let s = plan.stretch - 1 in
      let inner = long_link o m s plan.symbols in
      let up : s + 1 ≡ plan.stretch = omega arith in
      let reach = mul-le s m 7 8 (omega arith) bounds.width_high in
      let memory = mul-le b inner.shape.memory 63 65 bounds.burst_high (omega (arith, reach, bounds.width_high)) in
      subst (λ l. RepairsInTime l plan) (sym (two_link o plan two))
      (in_time plan bounds inner laws s ((s + 1) * m + 1) (omega arith) refl
      (long_tells o laws m s plan.symbols bounds.width_high (omega arith))
      (omega (arith, memory)) up (inr (omega arith, refl)) (two_due plan s (omega arith) up))

  -- a plan has one deadline or two
  pub plan_law : RepairsInTime (plan_link o plan) plan
  plan_law = elim (cases_eq plan.stretch 1) [ inl one ↦ one_deadline one | inr two ↦ two_deadlines two ]

-- and so it is on the link of a code that is made of the plan's parts, with any number of symbols to a sub-symbol
pub code_law : {F S : Type 0} (o : Operations F S) → ArithmeticLaws o → (s : Sums F) (p : Products F) → o.coefficients ≡ s → o.products ≡ p
    → (plan : PlanNumbers) → Limits plan.burst plan.width plan.stretch → (c : PlanCode) (l : ℕ) → CodeOf plan.burst plan.width plan.stretch c
    → RepairsInTime (link_of o shape_of (coefficients_of s p) c l) plan
code_law o laws s p sums products plan bounds c l parts =
    let same = record plan { symbols = l } in
    let law = subst (λ link. RepairsInTime link same) (sym (code_link o s p sums products same c parts)) (plan_law o laws same bounds) in
    record { short = law.short; all = law.all }
