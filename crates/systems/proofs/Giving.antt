-- An unknown of which nothing is known: no row mentions it, and given its symbols it leaves a kept form. Assumes nothing.
use Rattle.std.proofs.Common.{◌≡◌, ℕ, ◌+◌, ◌<◌, ◌≤◌, ◌≢◌, ◌==◌, if◌then◌else◌, inl, inr, sym, ap, ◌∙◌, subst, arith}
use Rattle.std.proofs.lemmas.Bool.{cases_eq}
use Rattle.arithmetic.specs.Operations.{Operations}
use Rattle.arithmetic.specs.Laws.{ArithmeticLaws}
use Rattle.systems.specs.System.{Size, System, rows, combined, at_place, Holds, Solves}
use Rattle.systems.specs.Kept.{Empty, Gives, Kept}
use Rattle.systems.specs.Form.{StandsFor, KeptFormOf}
use Rattle.systems.specs.Steps.{RowWritten, CoefficientWritten, SymbolsWritten}
use Rattle.systems.specs.Moving.{Continues}
use Rattle.systems.specs.Giving.{NothingKnown, GivenSymbols}
use Rattle.arithmetic.proofs.Sums.{cancel, plus_zero}
use Rattle.arithmetic.proofs.Scaling.{scale_by_zero, same_coefficient}
use Rattle.systems.proofs.Combining.{combined_of_sum}
use Rattle.systems.proofs.Rows.{same_row_holds, same_empty, same_first_one, empty_holds}
use Rattle.systems.proofs.Steps.{with_symbols, written_at, written_apart}
use Rattle.systems.proofs.Solve.{marked, no_mark_at, combined_of_mark}
use Rattle.systems.proofs.Content.{some_content}
use Rattle.systems.proofs.Reading.{own_alone}
use Rattle.systems.proofs.Unique.{kept_form}

-- of a new unknown nothing is known
pub new_unknown : {F S : Type 0} (o : Operations F S) (z : Size) (k : ℕ) (old new : System F S) → StandsFor o z new (Continues o z k old)
    → (u : ℕ) → z.unknowns ≤ u + k → NothingKnown o z new u
new_unknown o z k old new stands u fresh x y solves same =
    let (w, (earlier, agree)) = (stands x).0 solves in
    (stands y).1 (w, (earlier, λ v p left place. agree v p left place ∙ sym (same v p (omega arith) (λ e. omega arith) place)))

-- where another unknown is given its symbols, nothing is known of this one still
pub still_unknown : {F S : Type 0} (o : Operations F S) (z : Size) (s t : System F S) (u v : ℕ) (symbols : ℕ → S) → u < z.unknowns
    → NothingKnown o z s v → StandsFor o z t (GivenSymbols o z s u symbols) → v ≢ u → NothingKnown o z t v
still_unknown o z s t u v symbols l unknown stands apart x y solves same =
    let (solved, given) = (stands x).0 solves in
    (stands y).1 (unknown x y solved same, λ p place. same u p l (λ e. apart (sym e)) place ∙ given p place)

module _ {F S : Type 0} (o : Operations F S) (laws : ArithmeticLaws o) where
  -- no row mentions it: a content that gains the mark there is a content still
  pub unmentioned : (z : Size) (s : System F S) (u : ℕ) → Kept o z s → NothingKnown o z s u → u < z.unknowns → 0 < z.symbols
      → (r : ℕ) → r < rows z → s.coefficient r u ≡ o.coefficients.zero
  unmentioned z s u kept unknown l place r k =
      let (x, solves) = some_content o laws z s kept in
      let solved = unknown x (λ v p. o.symbols.plus (x v p) (marked o u v p)) solves
      (λ v p m apart n. ap (o.symbols.plus (x v p)) (no_mark_at o laws u v p apart) ∙ plus_zero o.symbols laws.symbols (x v p)) in
      same_coefficient o laws (s.coefficient r u) o.coefficients.zero
      (sym (combined_of_mark o laws z.unknowns (s.coefficient r) u 0 l)
      ∙ cancel o.symbols laws.symbols (s.symbol r 0) _ _
      (ap (λ a. o.symbols.plus a (combined o z.unknowns (s.coefficient r) (at_place (marked o u) 0))) (sym (solves r k 0 place))
      ∙ sym (combined_of_sum o laws z.unknowns (s.coefficient r) (at_place x 0) (at_place (marked o u) 0))
      ∙ solved r k 0 place ∙ sym (plus_zero o.symbols laws.symbols (s.symbol r 0)))
      ∙ sym (scale_by_zero o laws o.mark))

  -- its row gets a one in its column and its symbols
  module _ (z : Size) (s m t : System F S) (u : ℕ) (symbols : ℕ → S) (kept : Kept o z s) (unknown : NothingKnown o z s u) (l : u < z.unknowns)
      (place : 0 < z.symbols) (one : CoefficientWritten z s m u u o.products.one) (given : SymbolsWritten z m t u symbols) where
    written : RowWritten z s t u (λ v. if v == u then o.products.one else s.coefficient u v) symbols
    written = with_symbols one given

    empty_before : Empty o z s u
    empty_before =
        elim (kept.given u l) [
          | inl empty ↦ empty
          | inr gives ↦ absurd (laws.products.one_not_zero (sym gives.first.one ∙ unmentioned z s u kept unknown l place u (omega arith)))
        ]

    only_own : (v : ℕ) → v < z.unknowns → v ≢ u → t.coefficient u v ≡ o.coefficients.zero
    only_own v k apart = written_apart o.products.one written v k apart ∙ empty_before.coefficients v k

    gives_here : Gives o t (rows z) u
    gives_here = record {
      first = record { one = written_at written l; before = λ v before. only_own v (omega arith) (λ e. omega arith) };
      alone = λ r k apart. (written.others r apart).coefficients u l ∙ unmentioned z s u kept unknown l place r k;
    }

    gives_still : (w : ℕ) → w < z.unknowns → w ≢ u → Gives o s (rows z) w → Gives o t (rows z) w
    gives_still w k apart gives = record {
      first = same_first_one (written.others w apart) k gives.first;
      alone = λ r m other.
          elim (cases_eq r u) [
            | inl e ↦ subst (λ (q : ℕ). t.coefficient q w ≡ o.coefficients.zero) (sym e) (only_own w k apart)
            | inr away ↦ (written.others r away).coefficients w k ∙ gives.alone r m other
          ];
    }

    given_kept : Kept o z t
    given_kept = record {
      given = λ w k.
          elim (cases_eq w u) [
            | inl e ↦ inr (subst (Gives o t (rows z)) (sym e) gives_here)
            | inr apart ↦ elim (kept.given w k) [
              | inl empty ↦ inl (same_empty (written.others w apart) empty)
              | inr gives ↦ inr (gives_still w k apart gives)
            ]
          ];
      spare = λ r beyond k. same_empty (written.others r (λ e. omega arith)) (kept.spare r beyond k);
    }

    -- what row u adds up to
    own : (x : ℕ → ℕ → S) (p : ℕ) → combined o z.unknowns (t.coefficient u) (at_place x p) ≡ x u p
    own = own_alone o laws z t u l (written_at written l) only_own

    given_stands : StandsFor o z t (GivenSymbols o z s u symbols)
    given_stands x = (there, back) where
      there : Solves o z t x → GivenSymbols o z s u symbols x
      there solves = (
        λ r k. elim (cases_eq r u) [
          | inl e ↦ subst (Holds o z s x) (sym e) (empty_holds o laws empty_before x)
          | inr apart ↦ (same_row_holds o laws (written.others r apart) x).0 (solves r k)
        ],
        λ p within. sym (own x p) ∙ solves u (omega arith) p within ∙ written.symbols p within,
      )

      back : GivenSymbols o z s u symbols x → Solves o z t x
      back (solves, same) r k =
          elim (cases_eq r u) [
            | inl e ↦ subst (Holds o z t x) (sym e) (λ p within. own x p ∙ same p within ∙ sym (written.symbols p within))
            | inr apart ↦ (same_row_holds o laws (written.others r apart) x).1 (solves r k)
          ]

    -- and the system is the kept form of its contents that have these symbols there
    pub given_form : KeptFormOf o z t (GivenSymbols o z s u symbols)
    given_form = kept_form o laws z t place given_kept (GivenSymbols o z s u symbols) given_stands
