-- How many digits the symbols of a packet have, at the widths that there are. Assumes nothing.
use Rattle.std.proofs.Common.{◌≡◌, ℕ, ◌+◌, ◌%◌, ◌≤◌, ◌⊎◌, sym, subst, inl, inr, ap, ◌∙◌, List, ◌++◌, length, length-append, arith}
use Rattle.std.proofs.Math.Nat.{add-mod_left}

-- what holds at 1 and at 4 holds at every width
by_width : (P : ℕ → Type 0) (w : ℕ) → (w ≡ 1) ⊎ (w ≡ 4) → P 1 → P 4 → P w
by_width P w h one four = elim h [ inl e ↦ subst P (sym e) one | inr e ↦ subst P (sym e) four ]

pub width_le : (w : ℕ) → (w ≡ 1) ⊎ (w ≡ 4) → w ≤ 4
width_le w h = by_width (λ v. v ≤ 4) w h (omega arith) (omega arith)

-- what is left of whole symbols, when one is cut off
pub whole_left : (was front rest : List ℕ) (d : ℕ) → was ≡ front ++ rest → length front ≡ d → length was % d ≡ 0 → length rest % d ≡ 0
whole_left was front rest d apart long whole =
    let both : d + length rest ≡ length was = omega (arith, ap length apart, length-append front rest) in
    sym (add-mod_left d (length rest)) ∙ ap (λ n. n % d) both ∙ whole
