-- What a system says of one unknown. Assumes nothing.
use Rattle.std.specs.Prelude.{◌≡◌, ℕ, ◌<◌, ◌≢◌}
use Rattle.arithmetic.specs.Operations.{Operations}
use Rattle.systems.specs.System.{Size, System, Solves}

-- all contents have the same symbols there
abbrev pub Shared : {F S : Type 0} → Operations F S → Size → System F S → ℕ → (ℕ → S) → Type 0
Shared {F} {S} o z s u symbols = (x : ℕ → ℕ → S) → Solves o z s x → (p : ℕ) → p < z.symbols → x u p ≡ symbols p

-- two contents differ there
pub record Differ {F S : Type 0} (o : Operations F S) (z : Size) (s : System F S) (u : ℕ) : Type 0 where
  pub one : ℕ → ℕ → S
  pub other : ℕ → ℕ → S
  pub one_solves : Solves o z s one
  pub other_solves : Solves o z s other
  pub place : ℕ
  pub within : place < z.symbols
  pub differ : one u place ≢ other u place
