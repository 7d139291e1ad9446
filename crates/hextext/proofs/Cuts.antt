-- A text that grew can be cut back to what it was. Assumes nothing.
use Rattle.std.proofs.Common.{◌≡◌, ℕ, ◌≤◌, true, false, List, ◌++◌, length, take, is_err, Ok, Err, IsUtf8, Result, sym, ap, ◌∙◌, subst, arith}
use mathlib.Core.Logic.{∥∥₁_elim}
use native.Mathlib.Bridge.{le_prop}
use Rattle.std.specs.String.Boundary.{IsSplitPoint}
use Rattle.std.proofs.lemmas.List.{length-append, take_at}
use Rattle.std.proofs.lemmas.Bool.{false≢true}
use Rattle.std.proofs.lemmas.Str.{IsCharBoundary-from_take}
use Rattle.hextext.specs.Writing.{Appends, Begins}

pub at_err : {X Y : Type 0} (r : Result X Y) (more before after : List ℕ) → is_err r ≡ true → Begins more before after r
    → (some : List ℕ) × (after ≡ before ++ some)
at_err (Ok _) more before after e h = absurd (false≢true e)
at_err (Err _) more before after e h = h

-- both are text, so no character lies across the seam
pub seam : (before after : List ℕ) (n : ℕ) → n ≡ length before → ∥ IsUtf8 before ∥₁ → ∥ IsUtf8 after ∥₁
    → (some : List ℕ) × (after ≡ before ++ some) → IsSplitPoint after n
seam before after n is old new begins =
    let front : take n after ≡ before = ap (take n) begins.1 ∙ take_at before begins.0 n (sym is) in
    let fits : n ≤ length after = omega (arith, ap length begins.1, length-append before begins.0) in (
      fits,
      λ _ short high.
          ∥∥₁_elim new le_prop (λ u. ∥∥₁_elim old le_prop (λ v. (IsCharBoundary-from_take after n u fits (subst IsUtf8 (sym front) v)).1 short high)),
    )

pub cut_back : {X Y : Type 0} (r : Result X Y) (more before was now : List ℕ) (n : ℕ) → is_err r ≡ true → n ≡ length before
    → Begins more before was r → now ≡ take n was → Appends more before now r
cut_back (Ok _) more before was now n e is h cut = absurd (false≢true e)
cut_back (Err _) more before was now n e is h cut = cut ∙ ap (take n) h.1 ∙ take_at before h.0 n (sym is)

pub kept_whole : {X Y : Type 0} (r : Result X Y) (more before now : List ℕ) → is_err r ≡ false → Begins more before now r → Appends more before now r
kept_whole (Ok _) more before now e h = h
kept_whole (Err _) more before now e h = absurd (false≢true (sym e))
