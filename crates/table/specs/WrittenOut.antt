-- A code's coefficients, written out one after the other. Assumes nothing.
use Rattle.std.specs.Prelude.{ℕ, ◌+◌, List, [], ◌∷◌}
use Rattle.std.specs.List.{flat_map, range_with_len}
use Rattle.byte.specs.declared.element.Byte.{Byte}
use Rattle.codes.specs.Shape.{Shape}

-- what is written for 0, for 1, and so on up to n - 1, one after the other
abbrev pub in_turn : ℕ → (ℕ → List ℕ) → List ℕ
in_turn n write = flat_map write (range_with_len 0 n)

-- c(j, a, k) as bytes: parity by parity, in it age by age from 0 to M, in it sub-symbol by sub-symbol
abbrev pub written_out : Shape → (ℕ → ℕ → ℕ → Byte) → List ℕ
written_out x c =
    in_turn x.parities (λ j.
    in_turn (x.memory + 1) (λ a.
    in_turn x.sources (λ k. (c j a k).value ∷ [])))
