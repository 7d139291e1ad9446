-- Where rows begin: the column of their first coefficient that is not zero. Assumes nothing.
use Rattle.std.proofs.Common.{◌≡◌, ℕ, ◌<◌, ◌⊎◌, inl, inr, sym, ◌∙◌, subst, arith}
use Rattle.std.proofs.lemmas.Bool.{cases_lt}
use Rattle.arithmetic.specs.Operations.{Operations}
use Rattle.arithmetic.specs.Laws.{ArithmeticLaws}
use Rattle.systems.specs.System.{Size, System}
use Rattle.systems.specs.Kept.{Empty, FirstIn, FirstOne}
use Rattle.systems.specs.Form.{SameRow}
use Rattle.elimination.specs.Leading.{Leads}

-- a row that is the same as another begins where that begins
pub same_first_in : {F S : Type 0} {o : Operations F S} {z : Size} {s t : System F S} {r u : ℕ} → SameRow z s t r → u < z.unknowns
    → FirstIn o t r u → FirstIn o s r u
same_first_in {z = z} {u = u} e within f = record {
  some = λ k. f.some (sym (e.coefficients u within) ∙ k);
  before = λ v l. e.coefficients v (omega arith) ∙ f.before v l;
}

first_in_unique : {F S : Type 0} {o : Operations F S} {s : System F S} {r u v : ℕ} → FirstIn o s r u → FirstIn o s r v → u ≡ v
first_in_unique {u = u} {v = v} f g =
    elim (cases_lt u v) [
      | inl l ↦ absurd (f.some (g.before u l))
      | inr k ↦ elim (cases_lt v u) [ inl l ↦ absurd (g.some (f.before v l)) | inr l ↦ omega arith ]
    ]

module _ {F S : Type 0} (o : Operations F S) (laws : ArithmeticLaws o) where
  -- a first one is a first coefficient that is not zero
  pub first_in : {s : System F S} {r u : ℕ} → FirstOne o s r u → FirstIn o s r u
  first_in f = record { some = λ e. laws.products.one_not_zero (sym f.one ∙ e); before = f.before }

  pub first_unique : {s : System F S} {r u v : ℕ} → FirstOne o s r u → FirstIn o s r v → u ≡ v
  first_unique f g = first_in_unique (first_in f) g

  -- a row that says nothing or leads, and has its first coefficient in column u, leads there
  pub leads_in : {z : Size} {s : System F S} {n r u : ℕ} → Empty o z s r ⊎ Leads o z s n r → u < z.unknowns → FirstIn o s r u
      → FirstOne o s r u × ((q : ℕ) → r < q → q < n → s.coefficient q u ≡ o.coefficients.zero)
  leads_in {u = u} (inl e) within f = absurd (f.some (e.coefficients u within))
  leads_in {s = s} {n = n} {r = r} (inr leads) within f =
      subst (λ (w : ℕ). FirstOne o s r w × ((q : ℕ) → r < q → q < n → s.coefficient q w ≡ o.coefficients.zero))
      (first_unique leads.first f) (leads.first, leads.clear)
