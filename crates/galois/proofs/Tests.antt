-- A test over all numbers below n, which antt computes, gives the fact at each.
use Rattle.std.proofs.Common.{◌≡◌, ℕ, zero, suc, ◌<◌, Bool, true, false, T, subst, ⊎_elim, not-suc-le-zero, arith}
use Rattle.std.proofs.lemmas.Bool.{cases_lt}

abbrev both : Bool → Bool → Bool
both true b = b
both false b = false

both_left : (a b : Bool) → T (both a b) → T a
both_left true b t = tt
both_left false b t = t

both_right : (a b : Bool) → T (both a b) → T b
both_right true b t = t
both_right false b t = absurd t

-- the test passes at each number below n
abbrev pub all : ℕ → (ℕ → Bool) → Bool
all zero test = true
all (suc n) test = both (all n test) (test n)

pub at : (n : ℕ) (test : ℕ → Bool) → T (all n test) → (k : ℕ) → k < n → T (test k)
at zero test t k h = absurd (not-suc-le-zero h)
at (suc n) test t k h =
    ⊎_elim
    (λ less. at n test (both_left (all n test) (test n) t) k less)
    (λ more. let e : n ≡ k = omega arith in subst (λ (m : ℕ). T (test m)) e (both_right (all n test) (test n) t))
    (cases_lt k n)
