-- A slice that is written over, element by element or at once. Assumes nothing.
use Rattle.std.proofs.Common.{◌≡◌, ℕ, ◌+◌, ◌<◌, List, [], ◌∷◌, ◌++◌, length, get_or, take, drop, set, sym, ap, ◌∙◌, append_assoc, append-nil, arith}
use Rattle.std.proofs.lemmas.List.{drop_all, drop_more, set_at, take_at}
use Rattle.fills.specs.Over.{written_over}

-- one more written behind xs
pub over_more : {X : Type 0} (xs old : List X) (i : ℕ) (v : X) → length xs ≡ i → i < length old
    → set (xs ++ drop i old) i v ≡ (xs ++ v ∷ []) ++ drop (i + 1) old
over_more {X} xs old i v long within =
    ap (λ (l : List X). set (xs ++ l) i v) (drop_more old i v within)
    ∙ set_at xs (get_or old i v) (drop (i + 1) old) v i long ∙ sym (append_assoc xs (v ∷ []) (drop (i + 1) old))

-- written over the whole of what a vector of n elements lent: the vector holds just that
pub over_all : {X : Type 0} (new old out items : List X) (n : ℕ) → length new ≡ n → length old ≡ n → out ≡ written_over new old
    → take n (written_over out items) ≡ new
over_all {X} new old out items n long room is =
    let none = drop_all (length new) old (omega arith) in
    let same : out ≡ new = is ∙ ap (λ (l : List X). new ++ l) none ∙ append-nil new in
    rw same (take_at new (drop (length new) items) n long)
