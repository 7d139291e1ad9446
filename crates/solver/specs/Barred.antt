-- The columns that are barred to a row where a memory's form is looked at row by row; c are its coefficients, by row and unknown. Assumes nothing.
use Rattle.std.specs.Prelude.{◌≡◌, ℕ, ◌<◌, ◌⊎◌, ◌≢◌, ◌↔◌, Bool, false, List, slice_index_or, IsTrue}
use Rattle.arithmetic.specs.Operations.{Operations}

-- unknown v leads: its own row is not zero for it
abbrev pub IsLeading : {F S : Type 0} → Operations F S → (ℕ → ℕ → F) → ℕ → Type 0
IsLeading o c v = c v v ≢ o.coefficients.zero

-- of n unknowns, row u begins with a one for unknown u, and is zero for the others that lead
pub record GivesOverLeading {F S : Type 0} (o : Operations F S) (n : ℕ) (c : ℕ → ℕ → F) (u : ℕ) : Type 0 where
  pub one : c u u ≡ o.products.one
  pub before : (v : ℕ) → v < u → c u v ≡ o.coefficients.zero
  pub others : (v : ℕ) → v < n → v ≢ u → IsLeading o c v → c u v ≡ o.coefficients.zero

-- the mask tells whether unknown v comes before u, or leads
abbrev pub IsBarred : {F S : Type 0} → Operations F S → (ℕ → ℕ → F) → ℕ → List Bool → ℕ → Type 0
IsBarred o c u mask v = IsTrue (slice_index_or mask v false) ↔ ((v < u) ⊎ IsLeading o c v)

-- and so of all n unknowns but u itself, for which it is off
pub record BarredAround {F S : Type 0} (o : Operations F S) (n : ℕ) (c : ℕ → ℕ → F) (u : ℕ) (mask : List Bool) : Type 0 where
  pub others : (v : ℕ) → v < n → v ≢ u → IsBarred o c u mask v
  pub off : slice_index_or mask u false ≡ false
