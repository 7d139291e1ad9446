-- Pieces of one length, joined one behind the other. Assumes nothing.
use Rattle.std.proofs.Common.{◌≡◌, ℕ, zero, suc, ◌+◌, ◌-◌, ◌*◌, ◌/◌, ◌<◌, ◌≤◌, List, [], ◌∷◌, length, get_or, sym, ◌∙◌, inl, inr, suc-mul, zero-mul, arith, length-append}
use Rattle.std.specs.List.{flat_map, AllByRecursion}
use Rattle.std.proofs.lemmas.Nat.{div_below}
use Rattle.std.proofs.ByRecursion.{All-append}
use Rattle.std.proofs.lemmas.List.{get_or_append_left, get_or-append_right, get_or_past}
use Rattle.std.proofs.lemmas.Bool.{cases_lt}

-- pieces that are all w long, one behind the other
module _ {X A : Type 0} (f : X → List A) (w : ℕ) (long : (x : X) → length (f x) ≡ w) where
  pub length_joined : (xs : List X) → length (flat_map f xs) ≡ length xs * w
  length_joined [] = sym (zero-mul w)
  length_joined (x ∷ xs) = omega (arith, length-append (f x) (flat_map f xs), long x, length_joined xs, suc-mul (length xs) w)

  -- element k of piece i
  pub get_d_joined : (xs : List X) (i k : ℕ) (x : X) (d : A) → i < length xs → k < w → x ≡ get_or xs i x
      → get_or (flat_map f xs) (i * w + k) d ≡ get_or (f x) k d
  get_d_joined [] i k x d within small is = absurd (omega arith)
  get_d_joined (y ∷ ys) zero k x d within small is =
      let at : 0 * w + k ≡ k = omega (arith, zero-mul w) in
      rw (at, is) (get_or_append_left (f y) (flat_map f ys) d k (omega (arith, long y)))
  get_d_joined (y ∷ ys) (suc i) k x d within small is =
      let back : suc i * w + k - w ≡ i * w + k = omega (arith, suc-mul i w) in
      get_or-append_right (f y) (flat_map f ys) w (suc i * w + k) d (long y) (omega (arith, suc-mul i w))
      ∙ rw back (get_d_joined ys i k x d (omega arith) small is)

  -- behind the last piece
  pub get_d_joined_past : (xs : List X) (n : ℕ) (d : A) → 0 < w → length xs ≤ n / w → get_or (flat_map f xs) n d ≡ d
  get_d_joined_past xs n d some past =
      let behind : length xs * w ≤ n =
      elim (cases_lt n (length xs * w)) [ inl h ↦ omega (arith, div_below n w (length xs) some h) | inr h ↦ h ] in
      get_or_past (flat_map f xs) n d (omega (arith, length_joined xs))

pub all_joined : {X A : Type 0} (P : A → Type 0) (f : X → List A) → ((x : X) → AllByRecursion P (f x)) → (xs : List X) → AllByRecursion P (flat_map f xs)
all_joined P f each [] = tt
all_joined P f each (x ∷ xs) = All-append P (f x) (flat_map f xs) (each x) (all_joined P f each xs)
