-- A list that is written row by row. Assumes nothing.
use Rattle.std.proofs.Common.{◌≡◌, ℕ, ◌+◌, ◌-◌, ◌<◌, List, ◌++◌, length, get_or, take, drop, inl, inr, sym, ap, ap₂, ◌∙◌, append_assoc, length-append, arith}
use Rattle.std.specs.Prelude.{map}
use Rattle.std.specs.List.{range_with_len}
use Rattle.std.proofs.lemmas.Bool.{cases_lt}
use Rattle.std.proofs.lemmas.List.{take_at, drop_at, drop-drop, get_or_append_left, get_or-append-add}
use Rattle.std.proofs.lemmas.List.FromFn.{length-map-range_with_len, get_or-map-range_with_len, fill_by_all}

module _ {X : Type 0} (f : ℕ → X) (n m : ℕ) (row : List X) (d : X) (size : n + length row ≡ m)
    (is : (i : ℕ) → i < length row → get_or row i d ≡ f (n + i)) where
  joined_at : (k : ℕ) → k < m → get_or (map f (range_with_len 0 n) ++ row) k d ≡ f k
  joined_at k h =
      let first = map f (range_with_len 0 n) in
      let long = length-map-range_with_len f 0 n in
      elim (cases_lt k n) [
        | inl before ↦
            get_or_append_left first row d k (omega (arith, long)) ∙ get_or-map-range_with_len f 0 n k k d before (omega arith)
        | inr behind ↦
            let place : k ≡ length first + (k - n) = omega (arith, long) in
            let back : n + (k - n) ≡ k = omega arith in
            ap (λ p. get_or (first ++ row) p d) place ∙ get_or-append-add first row (k - n) d
            ∙ is (k - n) (omega arith) ∙ ap f back
      ]

  -- a row written behind the first n elements, over what was there
  pub row_more : (out old : List X) (l : ℕ) → l ≡ length row → out ≡ map f (range_with_len 0 n) ++ drop n old
      → take n out ++ (row ++ drop l (drop n out)) ≡ map f (range_with_len 0 m) ++ drop m old
  row_more out old l width e =
      let first = map f (range_with_len 0 n) in
      let long = length-map-range_with_len f 0 n in
      let joined = fill_by_all f (first ++ row) m d (omega (arith, length-append first row, long)) joined_at in
      let front = ap (take n) e ∙ take_at first (drop n old) n long in
      let rest = ap (λ xs. drop l (drop n xs)) e ∙ ap (drop l) (drop_at first (drop n old) n long) ∙ drop-drop l n old in
      let behind : n + l ≡ m = omega arith in
      ap₂ (λ a b. a ++ (row ++ b)) front (rest ∙ ap (λ p. drop p old) behind)
      ∙ sym (append_assoc first row (drop m old)) ∙ ap (λ xs. xs ++ drop m old) joined
