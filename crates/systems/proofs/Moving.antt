-- Moving on: the rows that are left are the kept form of what the system says of the unknowns that are left. Assumes nothing.
use Rattle.std.proofs.Common.{◌≡◌, ℕ, ◌+◌, ◌-◌, ◌<◌, ◌≤◌, cond, ltb, inl, inr, sym, ap, ap₂, ◌∙◌, le-ltb, arith}
use Rattle.std.proofs.lemmas.Bool.{cases_lt}
use Rattle.arithmetic.specs.Operations.{Sums, Operations}
use Rattle.arithmetic.specs.Laws.{SumLaws, ArithmeticLaws}
use Rattle.arithmetic.specs.Totals.{sum_below}
use Rattle.systems.specs.System.{Size, System, rows, combined, at_place, Solves}
use Rattle.systems.specs.Kept.{Empty, Gives, Kept}
use Rattle.systems.specs.Form.{StandsFor, KeptFormOf}
use Rattle.systems.specs.Moving.{Continues, Shifted}
use Rattle.arithmetic.proofs.Sums.{plus_zero, sum_split, sum_same, sum_zero}
use Rattle.arithmetic.proofs.Scaling.{scale_by_zero}
use Rattle.systems.proofs.Rows.{same_empty, empty_holds}
use Rattle.systems.proofs.Solve.{solution, zero_before, solution_solves, solution_stays}
use Rattle.systems.proofs.Unique.{kept_form}

-- the terms of one sum are those of the other from k on, and all else is zero
sum_shifted : {X : Type 0} (s : Sums X) → SumLaws s → (n k m : ℕ) (f g : ℕ → X) → m + k ≡ n → ((u : ℕ) → u + k < n → f u ≡ g (u + k))
    → ((u : ℕ) → u < k → g u ≡ s.zero) → ((u : ℕ) → u < n → n ≤ u + k → f u ≡ s.zero) → sum_below s n f ≡ sum_below s n g
sum_shifted s laws n k m f g e same before behind =
    ap (λ i. sum_below s i f) (sym e) ∙ sum_split s laws m k f
    ∙ ap (s.plus (sum_below s m f)) (sum_zero s laws k (λ u. f (m + u)) (λ u l. behind (m + u) (omega arith) (omega arith)))
    ∙ plus_zero s laws (sum_below s m f) ∙ sum_same s laws m f (λ u. g (k + u)) (λ u l. same u (omega arith) ∙ ap g (omega arith))
    ∙ sym (laws.zero_plus (sum_below s m (λ u. g (k + u))))
    ∙ ap (λ a. s.plus a (sum_below s m (λ u. g (k + u)))) (sym (sum_zero s laws k g before))
    ∙ sym (sum_split s laws k m g) ∙ ap (λ i. sum_below s i g) (omega arith)

-- a content that holds x from unknown k on
abbrev earlier : {F S : Type 0} → Operations F S → ℕ → (ℕ → ℕ → S) → ℕ → ℕ → S
earlier o k x u p = cond (ltb u k) o.symbols.zero (x (u - k) p)

earlier_at : {F S : Type 0} (o : Operations F S) (k : ℕ) (x : ℕ → ℕ → S) (u p : ℕ) → earlier o k x (u + k) p ≡ x u p
earlier_at o k x u p = ap (λ b. cond b o.symbols.zero (x (u + k - k) p)) (le-ltb (u + k) k (omega arith)) ∙ ap (λ i. x i p) (omega arith)

module _ {F S : Type 0} (o : Operations F S) (laws : ArithmeticLaws o) where
  -- an empty row stays empty where it goes along
  empty_stays : (z : Size) (k : ℕ) (old new : System F S) → Shifted o z k old new → (r : ℕ) → r + k < z.unknowns
      → Empty o z old (r + k) → Empty o z new r
  empty_stays z k old new step r l empty = record {
    coefficients = λ u within.
        elim (cases_lt (u + k) z.unknowns) [
          | inl left ↦ step.coefficients r u l left ∙ empty.coefficients (u + k) left
          | inr fresh ↦ step.fresh r u l within fresh
        ];
    symbols = λ p place. step.symbols r p l place ∙ empty.symbols p place;
  }

  -- all rows behind those that are left are empty
  behind_empty : (z : Size) (k : ℕ) (old new : System F S) → Shifted o z k old new → Kept o z old → (r : ℕ) → z.unknowns ≤ r + k → r < rows z
      → Empty o z new r
  behind_empty z k old new step kept r behind l =
      elim (cases_lt r z.unknowns) [
        | inl within ↦ step.emptied r within behind
        | inr beyond ↦ same_empty (step.spare r beyond) (kept.spare r beyond l)
      ]

  -- a row that gives an unknown gives it where it is now
  gives_stays : (z : Size) (k : ℕ) (old new : System F S) → Shifted o z k old new → Kept o z old → (u : ℕ) → u + k < z.unknowns
      → Gives o old (rows z) (u + k) → Gives o new (rows z) u
  gives_stays z k old new step kept u l gives = record {
    first = record {
      one = step.coefficients u u l l ∙ gives.first.one;
      before = λ v before. step.coefficients u v l (omega arith) ∙ gives.first.before (v + k) (omega arith);
    };
    alone = λ r in_rows apart.
        elim (cases_lt (r + k) z.unknowns) [
          | inl left ↦ step.coefficients r u left l ∙ gives.alone (r + k) (omega arith) (λ e. apart (omega arith))
          | inr behind ↦ (behind_empty z k old new step kept r behind in_rows).coefficients u (omega arith)
        ];
  }

  moved_kept : (z : Size) (k : ℕ) (old new : System F S) → Kept o z old → Shifted o z k old new → Kept o z new
  moved_kept z k old new kept step = record {
    given = λ u within.
        elim (cases_lt (u + k) z.unknowns) [
          | inl left ↦
              elim (kept.given (u + k) left) [
                | inl empty ↦ inl (empty_stays z k old new step u left empty)
                | inr gives ↦ inr (gives_stays z k old new step kept u left gives)
              ]
          | inr behind ↦ inl (step.emptied u within behind)
        ];
    spare = λ r beyond. behind_empty z k old new step kept r (omega arith);
  }

  -- a row says the same, before and after, of unknowns that hold the same
  same_total : (z : Size) (k : ℕ) (old new : System F S) → Shifted o z k old new → Kept o z old
      → (x y : ℕ → ℕ → S) (p : ℕ) → ((u : ℕ) → u + k < z.unknowns → y (u + k) p ≡ x u p) → (r : ℕ) → r + k < z.unknowns
      → combined o z.unknowns (new.coefficient r) (at_place x p) ≡ combined o z.unknowns (old.coefficient (r + k)) (at_place y p)
  same_total z k old new step kept x y p agree r l =
      sum_shifted o.symbols laws.symbols z.unknowns k (z.unknowns - k) _ _ (omega arith)
      (λ u left. ap₂ o.scale (step.coefficients r u l left) (sym (agree u left)))
      (λ u before. ap (λ c. o.scale c (y u p)) (zero_before o laws z old kept (r + k) u l (omega arith)) ∙ scale_by_zero o laws (y u p))
      (λ u unknown fresh. ap (λ c. o.scale c (x u p)) (step.fresh r u l unknown fresh) ∙ scale_by_zero o laws (x u p))

  moved_stands : (z : Size) (k : ℕ) (old new : System F S) → Kept o z old → Shifted o z k old new
      → StandsFor o z new (Continues o z k old)
  moved_stands z k old new kept step x = (there, back) where
    there : Solves o z new x → Continues o z k old x
    there solves = (solution o z old (earlier o k x), (solution_solves o laws z old kept (earlier o k x), stays)) where
      stays : (u p : ℕ) → u + k < z.unknowns → p < z.symbols → solution o z old (earlier o k x) (u + k) p ≡ x u p
      stays u p left place =
          solution_stays o laws z old (earlier o k x) (u + k) p
          (sym (same_total z k old new step kept x (earlier o k x) p (λ v _. earlier_at o k x v p) u left)
          ∙ solves u (omega arith) p place ∙ step.symbols u p left place)
          ∙ earlier_at o k x u p

    back : Continues o z k old x → Solves o z new x
    back (y, (solves, agree)) r l =
        elim (cases_lt (r + k) z.unknowns) [
          | inl left ↦ λ p place.
              same_total z k old new step kept x y p (λ u k. agree u p k place) r left ∙ solves (r + k) (omega arith) p place
              ∙ sym (step.symbols r p left place)
          | inr behind ↦ empty_holds o laws (behind_empty z k old new step kept r behind l) x
        ]

  -- moving on leaves the kept form of what is known of the unknowns that are left
  pub moved_on : (z : Size) (k : ℕ) (old new : System F S) → 0 < z.symbols → Kept o z old → Shifted o z k old new
      → KeptFormOf o z new (Continues o z k old)
  moved_on z k old new place kept step =
      kept_form o laws z new place (moved_kept z k old new kept step) (Continues o z k old) (moved_stands z k old new kept step)
