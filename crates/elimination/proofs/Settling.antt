-- New rows are settled one by one: reduced, and then nothing, a contradiction, or scaled so that they lead. Assumes nothing.
use Rattle.std.proofs.Common.{◌≡◌, ℕ, ◌+◌, ◌<◌, ◌≤◌, ◌≢◌, ◌⊎◌, ◌↔◌, inl, inr, sym, ap, ◌∙◌, arith}
use mathlib.Core.Logic.Iff.{trans}
use borrow.Author.Count.{below_more}
use Rattle.arithmetic.specs.Operations.{Operations}
use Rattle.arithmetic.specs.Laws.{ArithmeticLaws}
use Rattle.systems.specs.System.{Size, System, Holds, HoldBelow, at_place}
use Rattle.systems.specs.Kept.{Empty, FirstIn, NoCoefficient, NoSymbol}
use Rattle.systems.specs.Steps.{Scaled}
use Rattle.arithmetic.proofs.Scaling.{times_zero}
use Rattle.systems.proofs.Combining.{combined_zero}
use Rattle.systems.proofs.Rows.{same_row_then, same_row_holds, same_rows_hold, same_empty, same_first_one}
use Rattle.systems.proofs.Steps.{scaled_holds}
use Rattle.elimination.specs.Leading.{Leads, Led}
use Rattle.elimination.specs.Progress.{Reduced, SettledRow, Settled}
use Rattle.elimination.proofs.Beginnings.{first_in}

module _ {F S : Type 0} (o : Operations F S) (laws : ArithmeticLaws o) where
  -- a reduced row that says nothing, or leads, is settled
  settled_row : {z : Size} {old new : System F S} {t : ℕ} → Led o z old t → Reduced o z old new t t
      → Empty o z new t ⊎ Leads o z new (t + 1) t → SettledRow o z old new t
  settled_row {z} {old} {new} {t} led d last = record {
    others = d.others;
    means = d.means;
    led = below_more (λ r. Empty o z new r ⊎ Leads o z new (t + 1) r) t (λ r l. still r l (led r l)) last;
  } where
    still : (r : ℕ) → r < t → Empty o z old r ⊎ Leads o z old t r → Empty o z new r ⊎ Leads o z new (t + 1) r
    still r l (inl nothing) = inl (same_empty (d.others r (omega arith)) nothing)
    still r l (inr leads) = inr (record {
      column = leads.column;
      within = leads.within;
      first = same_first_one (d.others r (omega arith)) leads.within leads.first;
      clear = λ q after below. below_more (λ q. r < q → new.coefficient q leads.column ≡ o.coefficients.zero) t
          (λ q below after. (d.others q (omega arith)).coefficients leads.column leads.within ∙ leads.clear q after below)
          (λ after. d.clear r leads.column l leads.within leads.first) q below after;
    })

  -- a row of which nothing is left is settled
  pub settled_row_empty : {z : Size} {old new : System F S} {t : ℕ} → Led o z old t → Reduced o z old new t t
      → NoCoefficient o z new t → NoSymbol o z new t → SettledRow o z old new t
  settled_row_empty led d coefficients symbols = settled_row led d (inl (record { coefficients = coefficients; symbols = symbols }))

  -- a row with no coefficient left holds only where no symbol is left either
  pub no_symbol_left : {z : Size} {old new : System F S} {t : ℕ} → Reduced o z old new t t → NoCoefficient o z new t
      → (x : ℕ → ℕ → S) → HoldBelow o z old t x → Holds o z old x t → NoSymbol o z new t
  no_symbol_left {z} {old} {new} {t} d nothing x below held p within =
      sym ((d.means x below).1 held p within) ∙ combined_zero o laws z.unknowns (new.coefficient t) (at_place x p) nothing

  -- and so is one that begins with a one
  pub settled_row_leading : {z : Size} {old new : System F S} {t u : ℕ} → Led o z old t → Reduced o z old new t t
      → u < z.unknowns → FirstIn o new t u → new.coefficient t u ≡ o.products.one → SettledRow o z old new t
  settled_row_leading {u = u} led d within begins one =
      settled_row led d (inr (record {
        column = u;
        within = within;
        first = record { one = one; before = begins.before };
        clear = λ q after below. absurd (omega arith);
      }))

  -- and one that is scaled so that it does
  pub settled_row_scaled : {z : Size} {old s new : System F S} {t u : ℕ} {c : F} → Led o z old t → Reduced o z old s t t
      → u < z.unknowns → FirstIn o s t u → o.products.times (s.coefficient t u) c ≡ o.products.one → Scaled o z s new t c
      → SettledRow o z old new t
  settled_row_scaled {z} {old} {s} {new} {t} {u} {c} led d within begins inverse e = settled_row_leading led still within first one where
    zeros : (w : ℕ) → w < z.unknowns → s.coefficient t w ≡ o.coefficients.zero → new.coefficient t w ≡ o.coefficients.zero
    zeros w column k = e.coefficients w column ∙ ap (o.products.times c) k ∙ times_zero o laws c

    some : c ≢ o.coefficients.zero
    some k =
        laws.products.one_not_zero
        (sym inverse ∙ ap (o.products.times (s.coefficient t u)) k ∙ times_zero o laws (s.coefficient t u))

    still : Reduced o z old new t t
    still = record {
      others = λ r other. same_row_then (e.others r other) (d.others r other);
      means = λ x below. trans (scaled_holds o laws e some x) (d.means x below);
      clear = λ r w l column f. zeros w column (d.clear r w l column f);
    }

    one : new.coefficient t u ≡ o.products.one
    one = e.coefficients u within ∙ laws.products.comm c (s.coefficient t u) ∙ inverse

    first : FirstIn o new t u
    first = first_in o laws (record { one = one; before = λ v l. zeros v (omega arith) (begins.before v l) })

  -- one more settled row
  pub settled_more : {z : Size} {old s new : System F S} {t : ℕ} → z.unknowns ≤ t → Settled o z old s t → SettledRow o z s new t
      → Settled o z old new (t + 1)
  settled_more {z} {old} {s} {new} {t} spare settled row = record {
    front = λ r l. same_row_then (row.others r (omega arith)) (settled.front r l);
    ahead = λ r l. same_row_then (row.others r (omega arith)) (settled.ahead r (omega arith));
    led = row.led;
    means = λ x. (to x, from x);
  } where
    same : (x : ℕ → ℕ → S) → HoldBelow o z new t x ↔ HoldBelow o z s t x
    same = same_rows_hold o laws z new s t (λ r l. row.others r (omega arith))

    last : (x : ℕ → ℕ → S) → Holds o z s x t ↔ Holds o z old x t
    last = same_row_holds o laws (settled.ahead t (omega arith))

    to : (x : ℕ → ℕ → S) → HoldBelow o z new (t + 1) x → HoldBelow o z old (t + 1) x
    to x h =
        let below : HoldBelow o z s t x = (same x).0 (λ q k. h q (omega arith)) in
        below_more (Holds o z old x) t ((settled.means x).0 below) ((last x).0 ((row.means x below).0 (h t (omega arith))))

    from : (x : ℕ → ℕ → S) → HoldBelow o z old (t + 1) x → HoldBelow o z new (t + 1) x
    from x h =
        let below : HoldBelow o z s t x = (settled.means x).1 (λ q k. h q (omega arith)) in
        below_more (Holds o z new x) t ((same x).1 below) ((row.means x below).1 ((last x).1 (h t (omega arith))))

  -- where a row contradicts the settled ones, nothing satisfies what they said
  pub settled_contradiction : {z : Size} {old s : System F S} {t : ℕ} → Settled o z old s t
      → ((x : ℕ → ℕ → S) → HoldBelow o z s t x → Holds o z s x t → ⊥) → (x : ℕ → ℕ → S) → HoldBelow o z old (t + 1) x → ⊥
  settled_contradiction {z} {old} {s} {t} settled contradicted x h =
      contradicted x ((settled.means x).1 (λ r l. h r (omega arith))) ((same_row_holds o laws (settled.ahead t (omega arith)) x).1 (h t (omega arith)))
