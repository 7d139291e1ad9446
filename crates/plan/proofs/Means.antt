-- What the code of a plan means, and that it reaches back just as far as the deadline. Assumes nothing.
use Rattle.std.proofs.Common.{◌≡◌, ℕ, ◌+◌, ◌-◌, ◌*◌, ◌≤◌, max, eqb, sym, refl, ap, ap₂, subst, ◌∙◌, inl, inr, mul_assoc, mul_comm, add-mul, one-mul, mul-one, mul-add, arith}
use Rattle.std.proofs.lemmas.Nat.{mul-le}
use Rattle.std.proofs.lemmas.Bool.{cases_eq, cond-true, cond-false, eq-eqb, ne_eqb}
use Rattle.arithmetic.specs.Operations.{Sums, Products, Operations}
use Rattle.codes.specs.Shape.{Shape, capped}
use Rattle.codes.specs.Link.{link_of}
use Rattle.plan.specs.declared.code.PlanCode.{PlanCode}
use Rattle.plan.specs.declared.code.PlanCode.TheVariants.{OneDeadline, TwoDeadlines}
use Rattle.plan.specs.Numbers.{PlanNumbers, deadline_of}
use Rattle.plan.specs.Codes.{plan_shape, plan_coefficients, shape_of, coefficients_of, CodeOf, plan_link}

pub code_shape : (b m α : ℕ) (c : PlanCode) → CodeOf b m α c → shape_of c ≡ plan_shape b m α
code_shape b m α (OneDeadline c) (one, w, s) = rw (w, s) (sym (cond-true _ _ _ (eq-eqb α 1 one)))
code_shape b m α (TwoDeadlines c) (two, w, v, g, d, s) = rw (w, v, g, d, s) (sym (cond-false _ _ _ (ne_eqb α 1 (λ e. omega arith))))

pub code_coefficients : {F : Type 0} (x : Sums F) (p : Products F) (b m α : ℕ) (c : PlanCode) → CodeOf b m α c
    → coefficients_of x p c ≡ plan_coefficients x p b m α
code_coefficients x p b m α (OneDeadline c) (one, w, s) = rw (w, s) (sym (cond-true _ _ _ (eq-eqb α 1 one)))
code_coefficients x p b m α (TwoDeadlines c) (two, w, v, g, d, s) = rw (w, v, g, d, s) (sym (cond-false _ _ _ (ne_eqb α 1 (λ e. omega arith))))

-- one deadline: B times the main diagonal's width
one_memory : (b m : ℕ) → b ≤ 63 → m ≤ 8 → capped (b * m) ≡ m * b
one_memory b m hb hm = omega (arith, mul-le b m 63 8 hb hm, mul_comm b m)

-- two deadlines, with n for α - 1: the back diagonal, delayed, is the older one
two_memory : (b m n : ℕ) → b ≤ 63 → m ≤ 8 → n ≤ 7
    → capped (b * max m (capped (capped (n * m) + (m + 1)))) ≡ (n + 1) * (m * b) + b
two_memory b m n hb hm hn =
    let small : n * m ≤ 56 = mul-le n m 7 8 hn hm in
    let inner : max m (capped (capped (n * m) + (m + 1))) ≡ (n + 1) * m + 1 = omega (arith, add-mul n 1 m, one-mul m) in
    let whole : b * ((n + 1) * m + 1) ≡ (n + 1) * (m * b) + b =
    mul-add b ((n + 1) * m) 1 ∙ rw (mul-one, mul_comm b ((n + 1) * m), mul_assoc (n + 1) m b) refl in
    let least : b * ((n + 1) * m + 1) ≤ 63 * 65 = mul-le b ((n + 1) * m + 1) 63 65 hb (omega (arith, add-mul n 1 m, one-mul m)) in
    rw inner (omega (arith, whole, least))

plan_memory : (b m α : ℕ) → b ≤ 63 → m ≤ 8 → 1 ≤ α → α ≤ 8 → (plan_shape b m α).memory ≡ deadline_of b m α
plan_memory b m α hb hm low high =
    elim (cases_eq α 1) [
      | inl e ↦
          let t = eq-eqb α 1 e in
          ap (λ (x : Shape). x.memory) (cond-true (eqb α 1) _ _ t) ∙ one_memory b m hb hm ∙ sym (cond-true (eqb α 1) _ _ t)
      | inr n ↦
          let f = ne_eqb α 1 n in
          let up : α - 1 + 1 ≡ α = omega arith in
          let two = two_memory b m (α - 1) hb hm (omega arith) in
          ap (λ (x : Shape). x.memory) (cond-false (eqb α 1) _ _ f) ∙ rw up at two ∙ sym (cond-false (eqb α 1) _ _ f)
    ]

-- a plan's code, made of its parts, reaches back just as far
pub code_memory : (b m α : ℕ) (c : PlanCode) → CodeOf b m α c → b ≤ 63 → m ≤ 8 → 1 ≤ α → α ≤ 8 → (shape_of c).memory ≡ deadline_of b m α
code_memory b m α c parts hb hm low high = ap (λ (x : Shape). x.memory) (code_shape b m α c parts) ∙ plan_memory b m α hb hm low high

-- over an arithmetic whose coefficients these are, it makes up the plan's link
pub code_link : {F S : Type 0} (o : Operations F S) (s : Sums F) (p : Products F) → o.coefficients ≡ s → o.products ≡ p → (plan : PlanNumbers) (c : PlanCode)
    → CodeOf plan.burst plan.width plan.stretch c → link_of o shape_of (coefficients_of s p) c plan.symbols ≡ plan_link o plan
code_link o s p sums products plan c parts =
    let shape = code_shape plan.burst plan.width plan.stretch c parts in
    let coefficients = code_coefficients o.coefficients o.products plan.burst plan.width plan.stretch c parts in
    subst (λ s. link_of o shape_of (coefficients_of s p) c plan.symbols ≡ plan_link o plan) sums
    (subst (λ p. link_of o shape_of (coefficients_of o.coefficients p) c plan.symbols ≡ plan_link o plan) products
    (ap₂ (λ x cs. record { operations = o; shape = x; coefficients = cs; symbols = plan.symbols }) shape coefficients))
