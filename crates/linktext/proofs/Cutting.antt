-- Where a text is cut at its first mark. Assumes nothing.
use Rattle.std.proofs.Common.{◌≡◌, ℕ, suc, ◌+◌, ◌<◌, ◌≤◌, Bool, true, false, cond, eqb, List, [], ◌∷◌, length, take, drop, sym, refl, ap, ◌∙◌, inl, inr, Some, None, Option, zero-le, arith}
use Rattle.std.specs.List.{position, position_or_len}
use Rattle.std.proofs.lemmas.List.{drop_all, take_all}
use Rattle.std.proofs.lemmas.Bool.{cases_Bool, cond_both, eqb-false, ltb-false}
use Rattle.linktext.specs.Fields.{before, behind, longer, lines_of}

-- where the first mark stands, or the length where there is none
abbrev place : ℕ → List ℕ → ℕ
place mark xs = position_or_len (λ c. eqb c mark) xs

before_place : (mark : ℕ) (xs : List ℕ) → take (place mark xs) xs ≡ before mark xs
before_place mark [] = refl
before_place mark (c ∷ cs) =
    let e : 1 + place mark cs ≡ suc (place mark cs) = omega arith in
    elim (cases_Bool (eqb c mark)) [
      | inl t ↦ rw t refl
      | inr f ↦ rw (f, e) (ap (λ (l : List ℕ). c ∷ l) (before_place mark cs))
    ]

behind_place : (mark : ℕ) (xs : List ℕ) → drop (place mark xs + 1) xs ≡ behind mark xs
behind_place mark [] = refl
behind_place mark (c ∷ cs) =
    let e : 1 + place mark cs + 1 ≡ suc (place mark cs + 1) = omega arith in
    elim (cases_Bool (eqb c mark)) [
      | inl t ↦ rw t refl
      | inr f ↦ rw (f, e) (behind_place mark cs)
    ]

-- what a place that was found, or not, says of the test for it
taken : (b : Bool) (n v : ℕ) → Some n ≡ cond b (Some v) None → n ≡ v
taken true n v e = cc
taken false n v e = let z : ◌≡◌ {A = ℕ} 0 1 = cc in absurd (omega arith)

missing : (b : Bool) (v : ℕ) → ◌≡◌ {A = Option ℕ} None (cond b (Some v) None) → b ≡ false
missing true v e = let z : ◌≡◌ {A = ℕ} 0 1 = cc in absurd (omega arith)
missing false v e = refl

-- the mark is found
pub cut_here : (mark : ℕ) (xs : List ℕ) (i : ℕ) → Some i ≡ position (λ c. eqb c mark) xs → (take i xs ≡ before mark xs) × (drop (i + 1) xs ≡ behind mark xs)
cut_here mark xs i h =
    let is : i ≡ place mark xs = taken _ i _ h in
    rw is (before_place mark xs, behind_place mark xs)

-- there is none
pub no_cut : (mark : ℕ) (xs : List ℕ) → ◌≡◌ {A = Option ℕ} None (position (λ c. eqb c mark) xs) → (xs ≡ before mark xs) × (◌≡◌ {A = List ℕ} [] (behind mark xs))
no_cut mark xs h =
    let all : length xs ≤ place mark xs = ltb-false (place mark xs) (length xs) (missing _ _ h) in (
      sym (take_all (place mark xs) xs all) ∙ before_place mark xs,
      sym (drop_all (place mark xs + 1) xs (omega arith)) ∙ behind_place mark xs,
    )

-- the first line, and those behind it
lines_first : (xs : List ℕ) → 0 < length xs → lines_of xs ≡ before 10 xs ∷ lines_of (behind 10 xs)
lines_first [] some = absurd (omega arith)
lines_first (c ∷ []) some =
    elim (cases_Bool (eqb c 10)) [
      | inl t ↦ rw t refl
      | inr f ↦ rw f refl
    ]
lines_first (c ∷ d ∷ cs) some =
    elim (cases_Bool (eqb c 10)) [
      | inl t ↦ rw t refl
      | inr f ↦ rw f (ap (longer c) (lines_first (d ∷ cs) (omega arith)))
    ]

pub lines_cut : (xs line after : List ℕ) → 0 < length xs → line ≡ before 10 xs → after ≡ behind 10 xs → lines_of xs ≡ line ∷ lines_of after
lines_cut xs line after some is rest = lines_first xs some ∙ rw (is, rest) refl

-- what stands behind a mark is shorter
behind_le : (mark : ℕ) (xs : List ℕ) → length (behind mark xs) ≤ length xs
behind_le mark [] = zero-le
behind_le mark (c ∷ cs) =
    cond_both (eqb c mark) cs (behind mark cs) (λ (l : List ℕ). length l ≤ length (c ∷ cs)) (λ _. omega arith) (λ _. omega (arith, behind_le mark cs))

pub behind_lt : (mark : ℕ) (xs : List ℕ) → 0 < length xs → length (behind mark xs) < length xs
behind_lt mark [] some = absurd (omega arith)
behind_lt mark (c ∷ cs) some =
    cond_both (eqb c mark) cs (behind mark cs) (λ (l : List ℕ). length l < length (c ∷ cs)) (λ _. omega arith) (λ _. omega (arith, behind_le mark cs))

-- what a test for an empty text tells
pub some_left : (xs : List ℕ) → false ≡ eqb (length xs) 0 → 0 < length xs
some_left xs e = let other = eqb-false (length xs) 0 (sym e) in omega arith
