-- Rows that are the same, said of the slices that they lie in. Assumes nothing.
use Rattle.std.proofs.Common.{◌≡◌, ℕ, ◌+◌, ◌-◌, ◌*◌, ◌/◌, ◌%◌, ◌<◌, ◌≤◌, List, get_or, length, drop, inl, inr, sym, ap, ◌∙◌, subst, mod-lt, arith}
use Rattle.std.proofs.lemmas.Nat.{div-add-mod'}
use Rattle.std.proofs.lemmas.List.{get_or-drop, ext_get_or, length-drop}
use Rattle.std.proofs.lemmas.Bool.{cases_lt}
use Rattle.arithmetic.specs.Operations.{Operations}
use Rattle.systems.specs.System.{Size, rows}
use Rattle.systems.specs.Form.{SameRow}
use Rattle.rows.specs.Memory.{memory, SameBehind}
use Rattle.rows.proofs.Places.{row_before}

module _ {X : Type 0} (d : X) where
  -- each element from row m on lies in one of the rows from m on
  same_from : (w m : ℕ) (xs ys : List X) → 0 < w → ((r u : ℕ) → m ≤ r → u < w → get_or ys (r * w + u) d ≡ get_or xs (r * w + u) d)
      → (i : ℕ) → m * w ≤ i → get_or ys i d ≡ get_or xs i d
  same_from w m xs ys pos same i h =
      let place : i / w * w + i % w ≡ i = div-add-mod' i w in
      let column : i % w < w = mod-lt i pos in
      let below : m ≤ i / w =
      elim (cases_lt (i / w) m) [ inl less ↦ absurd (let up = row_before (i / w) m w less in omega arith) | inr not ↦ omega arith ] in
      subst (λ (j : ℕ). get_or ys j d ≡ get_or xs j d) place (same (i / w) (i % w) below column)

  same_behind : (w m : ℕ) (xs ys : List X) → 0 < w → length ys ≡ length xs
      → ((r u : ℕ) → m ≤ r → u < w → get_or ys (r * w + u) d ≡ get_or xs (r * w + u) d)
      → drop (m * w) ys ≡ drop (m * w) xs
  same_behind w m xs ys pos long same =
      ext_get_or d (drop (m * w) ys) (drop (m * w) xs) (length-drop (m * w) ys ∙ ap (λ (n : ℕ). n - m * w) long ∙ sym (length-drop (m * w) xs))
      (λ i h. get_or-drop (m * w) ys i d ∙ same_from w m xs ys pos same (m * w + i) (omega arith) ∙ sym (get_or-drop (m * w) xs i d))

  same_all : (w : ℕ) (xs ys : List X) → 0 < w → length ys ≡ length xs
      → ((r u : ℕ) → u < w → get_or ys (r * w + u) d ≡ get_or xs (r * w + u) d) → ys ≡ xs
  same_all w xs ys pos long same = ext_get_or d ys xs long (λ i h. same_from w 0 xs ys pos (λ r u k. same r u) i (omega arith))

-- what lies behind the rows of a memory
pub behind : {F S : Type 0} (o : Operations F S) (z : Size) (cs ds : List F) (ss ts : List S) → 0 < z.unknowns → 0 < z.symbols
    → length ds ≡ length cs → length ts ≡ length ss → ((r : ℕ) → rows z ≤ r → SameRow z (memory o z ds ts) (memory o z cs ss) r)
    → SameBehind z cs ds ss ts
behind o z cs ds ss ts n l long wide same = record {
  coefficients = same_behind o.coefficients.zero z.unknowns (rows z) cs ds n long (λ r u h k. (same r h).coefficients u k);
  symbols = same_behind o.symbols.zero z.symbols (rows z) ss ts l wide (λ r p h k. (same r h).symbols p k);
}

-- a memory whose rows are all the same, and those that could lie behind them
pub same_coefficients : {F S : Type 0} (o : Operations F S) (z : Size) (cs ds : List F) (ss ts : List S) → 0 < z.unknowns
    → length ds ≡ length cs → ((r : ℕ) → SameRow z (memory o z ds ts) (memory o z cs ss) r) → ds ≡ cs
same_coefficients o z cs ds ss ts n long same = same_all o.coefficients.zero z.unknowns cs ds n long (λ r u. (same r).coefficients u)

pub same_symbols : {F S : Type 0} (o : Operations F S) (z : Size) (cs ds : List F) (ss ts : List S) → 0 < z.symbols
    → length ts ≡ length ss → ((r : ℕ) → SameRow z (memory o z ds ts) (memory o z cs ss) r) → ts ≡ ss
same_symbols o z cs ds ss ts l wide same = same_all o.symbols.zero z.symbols ss ts l wide (λ r p. (same r).symbols p)
