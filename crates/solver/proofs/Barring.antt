-- Rows that are each looked at in the columns barred to them: if all of a memory's pass, it is in kept form. Assumes nothing.
use Rattle.std.proofs.Common.{◌≡◌, ℕ, ◌+◌, ◌<◌, ◌≤◌, ◌≢◌, ◌⊎◌, ◌↔◌, Bool, true, false, not, inl, inr, List, length, get_or, slice_set, IsTrue, refl, sym, ap, ◌∙◌, get_or-set_same, get_or-set_other, arith}
use Rattle.std.proofs.lemmas.Bool.{cases_eq, cases_lt}
use Rattle.arithmetic.specs.Operations.{Operations}
use Rattle.arithmetic.specs.Laws.{ArithmeticLaws}
use Rattle.systems.specs.System.{Size, System, rows}
use Rattle.systems.specs.Kept.{Empty, Kept}
use Rattle.solver.specs.Barred.{IsLeading, GivesOverLeading, IsBarred, BarredAround}

-- the mask bars those of n unknowns that come before u or lead
abbrev pub Barred : {F S : Type 0} → Operations F S → ℕ → (ℕ → ℕ → F) → ℕ → List Bool → Type 0
Barred o n c u mask = (v : ℕ) → v < n → IsBarred o c u mask v

-- the row of unknown u says nothing, or gives the unknown over those that lead
abbrev pub Passes : {F S : Type 0} → Operations F S → Size → System F S → ℕ → Type 0
Passes o z s u = Empty o z s u ⊎ GivesOverLeading o z.unknowns s.coefficient u

-- the answer to whether two elements are the same, turned round
pub not_same : {X : Type 0} (b : Bool) (x y : X) → (IsTrue b ↔ (x ≡ y)) → IsTrue (not b) ↔ (x ≢ y)
not_same true x y same = (λ on. absurd (cc), λ apart. absurd (apart (same.0 refl)))
not_same false x y same = (λ on e. let is = same.1 e in cc, λ apart. refl)

module _ {F S : Type 0} (o : Operations F S) (n : ℕ) (c : ℕ → ℕ → F) (u : ℕ) (mask : List Bool) where
  -- a row with a one for its unknown gives it over those that lead exactly if it is zero wherever the mask is on
  pub gives_by_mask : BarredAround o n c u mask → c u u ≡ o.products.one → u < n
      → ((v : ℕ) → v < n → get_or mask v false ≡ true → c u v ≡ o.coefficients.zero) ↔ GivesOverLeading o n c u
  gives_by_mask around one l = (
    λ clear. record {
      one = one;
      before = λ v h. clear v (omega arith) ((around.others v (omega arith) (λ e. omega arith)).1 (inl h));
      others = λ v k apart leading. clear v k ((around.others v k apart).1 (inr leading));
    },
    λ gives v k on.
        elim (cases_eq v u) [
          | inl e ↦ absurd (let off = around.off in let same = ap (λ i. get_or mask i false) e in cc)
          | inr apart ↦ elim ((around.others v k apart).0 on) [ inl h ↦ gives.before v h | inr leading ↦ gives.others v k apart leading ]
        ],
  )

  -- of a row's own unknown the mask tells whether it leads
  pub on_leads : Barred o n c u mask → u < n → get_or mask u false ≡ true → IsLeading o c u
  on_leads barred l on = elim ((barred u l).0 on) [ inl before ↦ absurd (omega arith) | inr leading ↦ leading ]

  pub off_leads_not : Barred o n c u mask → u < n → get_or mask u false ≡ false → IsLeading o c u → ⊥
  off_leads_not barred l off leading = let on = (barred u l).1 (inr leading) in cc

  -- then it is switched off for that unknown
  pub barred_around : Barred o n c u mask → u < length mask → BarredAround o n c u (slice_set mask u false)
  barred_around barred l = record {
    others = λ v k apart. rw (get_or-set_other mask u v false false apart) (barred v k);
    off = get_or-set_same mask u false false l;
  }

  -- and on for all rows to come
  pub barred_next : BarredAround o n c u mask → u < length mask → Barred o n c (u + 1) (slice_set mask u true)
  barred_next around l v k =
      elim (cases_eq v u) [
        | inl e ↦ (λ _. inl (omega arith), λ _. ap (λ i. get_or (slice_set mask u true) i false) e ∙ get_or-set_same mask u true false l)
        | inr apart ↦
            rw (get_or-set_other mask u v true false apart) (
              λ on. elim ((around.others v k apart).0 on) [ inl before ↦ inl (omega arith) | inr leading ↦ inr leading ],
              λ h. (around.others v k apart).1 (elim h [ inl before ↦ inl (omega arith) | inr leading ↦ inr leading ]),
            )
      ]

module _ {F S : Type 0} (o : Operations F S) (laws : ArithmeticLaws o) (z : Size) (s : System F S) where
  one_leads : (u : ℕ) → s.coefficient u u ≡ o.products.one → IsLeading o s.coefficient u
  one_leads u one none = laws.products.one_not_zero (sym one ∙ none)

  -- in kept form each row passes
  kept_passes : Kept o z s → (u : ℕ) → u < z.unknowns → Passes o z s u
  kept_passes kept u l =
      elim (kept.given u l) [
        | inl empty ↦ inl empty
        | inr gives ↦
            inr
            (record {
              one = gives.first.one;
              before = gives.first.before;
              others = λ v k apart leading. elim (kept.given v k) [
                | inl empty ↦ absurd (leading (empty.coefficients v k))
                | inr given ↦ given.alone u (omega arith) (λ e. apart (sym e))
              ];
            })
      ]

  -- so a row that leads gives its unknown, and one that does not says nothing
  pub kept_leading : Kept o z s → (u : ℕ) → u < z.unknowns → IsLeading o s.coefficient u → GivesOverLeading o z.unknowns s.coefficient u
  kept_leading kept u l leading =
      elim (kept_passes kept u l) [ inl empty ↦ absurd (leading (empty.coefficients u l)) | inr gives ↦ gives ]

  pub kept_other : Kept o z s → (u : ℕ) → u < z.unknowns → (IsLeading o s.coefficient u → ⊥) → Empty o z s u
  kept_other kept u l other = elim (kept_passes kept u l) [ inl empty ↦ empty | inr gives ↦ absurd (other (one_leads u gives.one)) ]

  -- where each row passes, and the spare ones say nothing, the form is kept
  pub passes_kept : ((u : ℕ) → u < z.unknowns → Passes o z s u) → ((r : ℕ) → z.unknowns ≤ r → r < rows z → Empty o z s r) → Kept o z s
  passes_kept passes spare = record {
    given = λ u l. elim (passes u l) [
      | inl empty ↦ inl empty
      | inr gives ↦
          inr
          (record {
            first = record { one = gives.one; before = gives.before };
            alone = λ r k apart. elim (cases_lt r z.unknowns) [
              | inl within ↦
                  elim (passes r within) [
                    | inl empty ↦ empty.coefficients u l
                    | inr given ↦ given.others u l (λ e. apart (sym e)) (one_leads u gives.one)
                  ]
              | inr beyond ↦ (spare r beyond k).coefficients u l
            ];
          })
    ];
    spare = spare;
  }
