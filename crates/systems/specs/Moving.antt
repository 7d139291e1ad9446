-- Moving on: the oldest unknowns go, and as many new ones come in at the end. Assumes nothing.
use Rattle.std.specs.Prelude.{◌≡◌, ℕ, ◌+◌, ◌<◌, ◌≤◌}
use Rattle.arithmetic.specs.Operations.{Operations}
use Rattle.systems.specs.System.{Size, System, Solves}
use Rattle.systems.specs.Kept.{Empty}
use Rattle.systems.specs.Form.{SameRow}

-- some content y of the system has, from its unknown k on, what x has from its first unknown on. The last k unknowns of x are new, and any content of theirs will do
abbrev pub Continues : {F S : Type 0} → Operations F S → Size → ℕ → System F S → (ℕ → ℕ → S) → Type 0
Continues {F} {S} o z k s x =
    (y : ℕ → ℕ → S) × (Solves o z s y × ((u p : ℕ) → u + k < z.unknowns → p < z.symbols → y (u + k) p ≡ x u p))

-- the rows of the oldest k unknowns are dropped, the others move up and to the left
pub record Shifted {F S : Type 0} (o : Operations F S) (z : Size) (k : ℕ) (old new : System F S) : Type 0 where
  pub coefficients : (r u : ℕ) → r + k < z.unknowns → u + k < z.unknowns → new.coefficient r u ≡ old.coefficient (r + k) (u + k)
  pub fresh : (r u : ℕ) → r + k < z.unknowns → u < z.unknowns → z.unknowns ≤ u + k → new.coefficient r u ≡ o.coefficients.zero
  pub symbols : (r p : ℕ) → r + k < z.unknowns → p < z.symbols → new.symbol r p ≡ old.symbol (r + k) p
  pub emptied : (r : ℕ) → r < z.unknowns → z.unknowns ≤ r + k → Empty o z new r
  pub spare : (r : ℕ) → z.unknowns ≤ r → SameRow z new old r
