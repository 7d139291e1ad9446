-- Settled rows are taken over, one by one, into the rows of the unknowns where they begin. Assumes nothing.
use Rattle.std.proofs.Common.{◌≡◌, ℕ, ◌+◌, ◌<◌, ◌≤◌, ◌≢◌, ◌⊎◌, ◌↔◌, inl, inr, refl, sym, ap, ap₂, ◌∙◌, subst, arith}
use mathlib.Core.Logic.Iff.{trans}
use borrow.Author.Count.{below_more}
use Rattle.std.proofs.lemmas.Bool.{cases_eq, cases_lt}
use Rattle.arithmetic.specs.Operations.{Operations}
use Rattle.arithmetic.specs.Laws.{ArithmeticLaws}
use Rattle.systems.specs.System.{Size, System, rows, Holds, Solves}
use Rattle.systems.specs.Kept.{Empty, FirstIn, FirstOne, Gives, Kept, KeptAmong, NoCoefficient}
use Rattle.systems.specs.Form.{SameRow}
use Rattle.systems.specs.Steps.{Added, Moved}
use Rattle.systems.proofs.Combining.{gains_zero, gains_no_times, gains_no_times_symbol, gains_its_negative}
use Rattle.systems.proofs.Rows.{same_row_then, same_row_holds, empty_holds, same_empty, same_first_one}
use Rattle.systems.proofs.Steps.{moved_holds, gained_holds}
use Rattle.elimination.specs.Leading.{Leads}
use Rattle.elimination.specs.Progress.{Settled, Cleared, Joined}
use Rattle.elimination.proofs.Beginnings.{first_in, leads_in}

module _ {F S : Type 0} (o : Operations F S) (laws : ArithmeticLaws o) where
  -- settled rows, none of which is taken over yet
  pub joined_start : {z : Size} {old s : System F S} → KeptAmong o z old z.unknowns → Settled o z old s (rows z) → Joined o z s z.unknowns
  joined_start {z} {old} {s} kept settled = record {
    given = λ u l. elim (kept u l) [
      | inl nothing ↦ inl (same_empty (settled.front u l) nothing)
      | inr gives ↦ inr (gives_all u l gives)
    ];
    taken = λ r l k. absurd (omega arith);
    waiting = λ r l k. settled.led r k;
  } where
    gives_all : (u : ℕ) → u < z.unknowns → Gives o old z.unknowns u → Gives o s (rows z) u
    gives_all u l gives =
        let first = same_first_one (settled.front u l) l gives.first in
        record {
          first = first;
          alone = λ r k other. elim (cases_lt r z.unknowns) [
            | inl front ↦ (settled.front r front).coefficients u l ∙ gives.alone r front other
            | inr behind ↦ (leads_in o laws (settled.led u (omega arith)) l (first_in o laws first)).1 r (omega arith) k
          ];
        }

  -- row t says nothing
  pub joined_skip : {z : Size} {s : System F S} {t : ℕ} → Joined o z s t → z.unknowns ≤ t → t < rows z
      → NoCoefficient o z s t → Joined o z s (t + 1)
  joined_skip {z} {s} {t} joined spare within nothing = record {
    given = joined.given;
    taken = λ r l k. below_more (λ q. z.unknowns ≤ q → Empty o z s q) t (λ q m n. joined.taken q n m) (λ n. empty) r k l;
    waiting = λ r l k. joined.waiting r (omega arith) k;
  } where
    empty : Empty o z s t
    empty = elim (joined.waiting t (omega arith) within) [
      | inl e ↦ e
      | inr leads ↦ absurd ((first_in o laws leads.first).some (nothing leads.column leads.within))
    ]

  -- one more row gains such a multiple of row t
  pub cleared_more : {z : Size} {old s new : System F S} {t u i : ℕ} → u < z.unknowns → Cleared o z old s t u i → i < t
      → Added o z s new i t (o.coefficients.negative (s.coefficient i u)) → Cleared o z old new t u (i + 1)
  cleared_more {z} {old} {s} {new} {t} {u} {i} within cleared before a = record {
    coefficients = λ r v l k. below_more (λ q.
        new.coefficient q v
        ≡ o.coefficients.plus (old.coefficient q v) (o.products.times (o.coefficients.negative (old.coefficient q u)) (old.coefficient t v))) i
        (λ q m. (a.others q (omega arith)).coefficients v k ∙ cleared.coefficients q v m k)
        (a.coefficients v k
        ∙ ap₂ o.coefficients.plus (here.coefficients v k)
        (ap₂ o.products.times (ap o.coefficients.negative (here.coefficients u within)) (there.coefficients v k))) r l;
    symbols = λ r p l k. below_more (λ q.
        new.symbol q p ≡ o.symbols.plus (old.symbol q p) (o.scale (o.coefficients.negative (old.coefficient q u)) (old.symbol t p))) i
        (λ q m. (a.others q (omega arith)).symbols p k ∙ cleared.symbols q p m k)
        (a.symbols p k
        ∙ ap₂ o.symbols.plus (here.symbols p k) (ap₂ o.scale (ap o.coefficients.negative (here.coefficients u within)) (there.symbols p k))) r l;
    others = λ r l. same_row_then (a.others r (omega arith)) (cleared.others r (omega arith));
  } where
    here : SameRow z s old i
    here = cleared.others i (omega arith)

    there : SameRow z s old t
    there = cleared.others t (omega arith)

  cleared_holds : {z : Size} {old new : System F S} {t u i r : ℕ} → Cleared o z old new t u i → r < i → (x : ℕ → ℕ → S) → Holds o z old x t
      → Holds o z new x r ↔ Holds o z old x r
  cleared_holds {z} {old} {new} {t} {u} {i} {r} cleared l =
      gained_holds o laws z old new r t (o.coefficients.negative (old.coefficient r u)) (λ v. cleared.coefficients r v l) (λ p. cleared.symbols r p l)

  -- a row that is zero in column u gains nothing
  cleared_same : {z : Size} {old new : System F S} {t u i r : ℕ} → Cleared o z old new t u i → r < i → old.coefficient r u ≡ o.coefficients.zero
      → SameRow z new old r
  cleared_same {z} {old} {new} {t} {u} {i} {r} cleared l e = record {
    coefficients = λ v k. cleared.coefficients r v l k ∙ gains_no_times o laws (old.coefficient r v) (old.coefficient r u) (old.coefficient t v) e;
    symbols = λ p k. cleared.symbols r p l k ∙ gains_no_times_symbol o laws (old.symbol r p) (old.coefficient r u) (old.symbol t p) e;
  }

  -- row t begins in column u and is taken over into row u; what lies behind all rows stays
  module _ {z : Size} {old s new : System F S} {t u : ℕ} (joined : Joined o z old t) (spare : z.unknowns ≤ t) (within : t < rows z)
      (column : u < z.unknowns) (begins : FirstIn o old t u) (cleared : Cleared o z old s t u z.unknowns) (moved : Moved o z s new u t) where
    leads : FirstOne o old t u × ((q : ℕ) → t < q → q < rows z → old.coefficient q u ≡ o.coefficients.zero)
    leads = leads_in o laws (joined.waiting t (omega arith) within) column begins

    -- the two rows, the other rows of the unknowns and the other spare rows
    each_row : (P : ℕ → Type 0) → P u → P t → ((r : ℕ) → r < z.unknowns → r ≢ u → P r) → ((r : ℕ) → z.unknowns ≤ r → r < rows z → r ≢ t → P r)
        → (r : ℕ) → r < rows z → P r
    each_row P to source front behind r l =
        elim (cases_eq r u) [
          | inl e ↦ subst P (sym e) to
          | inr apart ↦ elim (cases_eq r t) [
            | inl e ↦ subst P (sym e) source
            | inr other ↦ elim (cases_lt r z.unknowns) [ inl k ↦ front r k apart | inr k ↦ behind r k l other ]
          ]
        ]

    same_spare : (r : ℕ) → z.unknowns ≤ r → r ≢ t → SameRow z new old r
    same_spare r l other = same_row_then (moved.others r (omega arith) other) (cleared.others r l)

    taken_row : SameRow z s old t
    taken_row = cleared.others t spare

    -- where an unknown is given, row t is zero
    no_gives : (w : ℕ) → w < z.unknowns → Gives o old (rows z) w → old.coefficient t w ≡ o.coefficients.zero
    no_gives w l gives = gives.alone t within (omega arith)

    empty_before : Empty o z old u
    empty_before = elim (joined.given u column) [
      | inl e ↦ e
      | inr gives ↦ absurd (begins.some (no_gives u column gives))
    ]

    now_taken : (r : ℕ) → z.unknowns ≤ r → r < t + 1 → Empty o z new r
    now_taken r l k =
        below_more (λ q. z.unknowns ≤ q → Empty o z new q) t
        (λ q m n. same_empty (same_spare q n (omega arith)) (joined.taken q n m)) (λ n. moved.emptied) r k l

    now_waiting : (r : ℕ) → t + 1 ≤ r → r < rows z → Empty o z new r ⊎ Leads o z new (rows z) r
    now_waiting r l k =
        let same : SameRow z new old r = same_spare r (omega arith) (omega arith) in
        elim (joined.waiting r (omega arith) k) [
          | inl e ↦ inl (same_empty same e)
          | inr there ↦ inr (record {
            column = there.column;
            within = there.within;
            first = same_first_one same there.within there.first;
            clear = λ q after below.
                (same_spare q (omega arith) (omega arith)).coefficients there.column there.within ∙ there.clear q after below;
          })
        ]

    gives_here : Gives o new (rows z) u
    gives_here = record {
      first = record {
        one = moved.coefficients u column ∙ taken_row.coefficients u column ∙ leads.0.one;
        before = λ v l. moved.coefficients v (omega arith) ∙ taken_row.coefficients v (omega arith) ∙ leads.0.before v l;
      };
      alone = each_row (λ r. r ≢ u → new.coefficient r u ≡ o.coefficients.zero)
          (λ apart. absurd (apart refl))
          (λ apart. moved.emptied.coefficients u column)
          (λ r l other apart.
          (moved.others r other (omega arith)).coefficients u column ∙ cleared.coefficients r u l column
          ∙ gains_its_negative o laws (old.coefficient r u) (old.coefficient t u) leads.0.one)
          (λ r l k other apart. (same_spare r l other).coefficients u column ∙ elim (cases_lt r t) [
            | inl done ↦ (joined.taken r l done).coefficients u column
            | inr ahead ↦ leads.1 r (omega arith) k
          ]);
    }

    gives_still : (w : ℕ) → w < z.unknowns → w ≢ u → Gives o old (rows z) w → Gives o new (rows z) w
    gives_still w l other gives = record {
      first = record { one = front w w l other l nothing ∙ gives.first.one; before = before };
      alone = alone;
    } where
      nothing : old.coefficient t w ≡ o.coefficients.zero
      nothing = no_gives w l gives

      -- a column that is zero in row t stays
      front : (r v : ℕ) → r < z.unknowns → r ≢ u → v < z.unknowns → old.coefficient t v ≡ o.coefficients.zero
          → new.coefficient r v ≡ old.coefficient r v
      front r v k apart m e =
          (moved.others r apart (omega arith)).coefficients v m ∙ cleared.coefficients r v k m
          ∙ gains_zero o laws (old.coefficient r v) (o.coefficients.negative (old.coefficient r u)) (old.coefficient t v) e

      before : (v : ℕ) → v < w → new.coefficient w v ≡ o.coefficients.zero
      before v k =
          elim (cases_lt v u) [
            | inl left ↦ front w v l other (omega arith) (begins.before v left) ∙ gives.first.before v k
            | inr right ↦
                (moved.others w other (omega arith)).coefficients v (omega arith)
                ∙ (cleared_same cleared l (gives.first.before u (omega arith))).coefficients v (omega arith)
                ∙ gives.first.before v k
          ]

      alone : (r : ℕ) → r < rows z → r ≢ w → new.coefficient r w ≡ o.coefficients.zero
      alone = each_row (λ r. r ≢ w → new.coefficient r w ≡ o.coefficients.zero)
          (λ apart. moved.coefficients w l ∙ taken_row.coefficients w l ∙ nothing)
          (λ apart. moved.emptied.coefficients w l)
          (λ r k away apart. front r w k away l nothing ∙ gives.alone r (omega arith) apart)
          (λ r m k away apart. (same_spare r m away).coefficients w l ∙ gives.alone r k apart)

    now_given : KeptAmong o z new (rows z)
    now_given w l =
        elim (cases_eq w u) [
          | inl e ↦ inr (subst (Gives o new (rows z)) (sym e) gives_here)
          | inr other ↦ elim (joined.given w l) [
            | inl nothing ↦ inl (same_empty
                (same_row_then (moved.others w other (omega arith)) (cleared_same cleared l (nothing.coefficients u column))) nothing)
            | inr gives ↦ inr (gives_still w l other gives)
          ]
        ]

    row_holds : (x : ℕ → ℕ → S) → Holds o z new x u ↔ Holds o z old x t
    row_holds x = trans (moved_holds o laws moved x) (same_row_holds o laws taken_row x)

    -- the other rows of the unknowns
    front_holds : (x : ℕ → ℕ → S) → Holds o z old x t → (r : ℕ) → r < z.unknowns → r ≢ u → Holds o z new x r ↔ Holds o z old x r
    front_holds x held r l other = trans (same_row_holds o laws (moved.others r other (omega arith)) x) (cleared_holds cleared l x held)

    solves_old : (x : ℕ → ℕ → S) → Solves o z new x → Solves o z old x
    solves_old x h =
        let held : Holds o z old x t = (row_holds x).0 (h u (omega arith)) in
        each_row (Holds o z old x) (empty_holds o laws empty_before x) held
        (λ r l apart. (front_holds x held r l apart).0 (h r (omega arith)))
        (λ r l k other. (same_row_holds o laws (same_spare r l other) x).0 (h r k))

    solves_new : (x : ℕ → ℕ → S) → Solves o z old x → Solves o z new x
    solves_new x h =
        let held : Holds o z old x t = h t within in
        each_row (Holds o z new x) ((row_holds x).1 held) (empty_holds o laws moved.emptied x)
        (λ r l apart. (front_holds x held r l apart).1 (h r (omega arith)))
        (λ r l k other. (same_row_holds o laws (same_spare r l other) x).1 (h r k))

    pub joined_more : Joined o z new (t + 1) × ((x : ℕ → ℕ → S) → Solves o z new x ↔ Solves o z old x) × ((r : ℕ) → rows z ≤ r → SameRow z new old r)
    joined_more = (
      record { given = now_given; taken = now_taken; waiting = now_waiting },
      λ x. (solves_old x, solves_new x),
      λ r l. same_spare r (omega arith) (omega arith),
    )

  -- where no spare row waits any more, the system is in kept form
  pub joined_done : {z : Size} {s : System F S} → Joined o z s (rows z) → Kept o z s
  joined_done joined = record { given = joined.given; spare = joined.taken }

  -- rows of the unknowns that stay are in kept form among themselves as before, whatever the spare rows become
  pub among_still : {z : Size} {s : System F S} (t : System F S) → KeptAmong o z s z.unknowns → ((r : ℕ) → r < z.unknowns → SameRow z t s r)
      → KeptAmong o z t z.unknowns
  among_still t kept same u l =
      elim (kept u l) [
        | inl nothing ↦ inl (same_empty (same u l) nothing)
        | inr gives ↦ inr (record {
          first = same_first_one (same u l) l gives.first;
          alone = λ r k other. (same r k).coefficients u l ∙ gives.alone r k other;
        })
      ]

  pub kept_among : {z : Size} {s : System F S} (t : System F S) → Kept o z s → ((r : ℕ) → r < z.unknowns → SameRow z t s r) → KeptAmong o z t z.unknowns
  kept_among {z} {s} t kept same = among_still t among same where
    among : KeptAmong o z s z.unknowns
    among u l = elim (kept.given u l) [
      | inl nothing ↦ inl nothing
      | inr gives ↦ inr (record { first = gives.first; alone = λ r k other. gives.alone r (omega arith) other })
    ]
