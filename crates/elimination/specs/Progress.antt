-- How far elimination has come. Assumes nothing.
use Rattle.std.specs.Prelude.{◌≡◌, ℕ, ◌+◌, ◌<◌, ◌≤◌, ◌⊎◌, ◌≢◌, ◌↔◌}
use Rattle.arithmetic.specs.Operations.{Operations}
use Rattle.systems.specs.System.{Size, System, rows, Holds, HoldBelow}
use Rattle.systems.specs.Kept.{Empty, FirstOne, KeptAmong}
use Rattle.systems.specs.Form.{SameRow}
use Rattle.elimination.specs.Leading.{Leads, Led}

-- row t says, together with the rows before it, what it said, and is zero where the first i of those lead; all other rows stay
pub record Reduced {F S : Type 0} (o : Operations F S) (z : Size) (old new : System F S) (t i : ℕ) : Type 0 where
  pub others : (r : ℕ) → r ≢ t → SameRow z new old r
  pub means : (x : ℕ → ℕ → S) → HoldBelow o z old t x → Holds o z new x t ↔ Holds o z old x t
  pub clear : (r u : ℕ) → r < i → u < z.unknowns → FirstOne o old r u → new.coefficient t u ≡ o.coefficients.zero

-- row t says, together with the rows before it, what it said, and says nothing or leads after them; all other rows stay
pub record SettledRow {F S : Type 0} (o : Operations F S) (z : Size) (old new : System F S) (t : ℕ) : Type 0 where
  pub others : (r : ℕ) → r ≢ t → SameRow z new old r
  pub means : (x : ℕ → ℕ → S) → HoldBelow o z old t x → Holds o z new x t ↔ Holds o z old x t
  pub led : Led o z new (t + 1)

-- each of the rows below t says nothing or leads, and together they say what they said; those of the unknowns, and those from t on, stay
pub record Settled {F S : Type 0} (o : Operations F S) (z : Size) (old new : System F S) (t : ℕ) : Type 0 where
  pub front : (r : ℕ) → r < z.unknowns → SameRow z new old r
  pub ahead : (r : ℕ) → t ≤ r → SameRow z new old r
  pub led : Led o z new t
  pub means : (x : ℕ → ℕ → S) → HoldBelow o z new t x ↔ HoldBelow o z old t x

-- each of the first i rows has gained row t, times the negative of its own coefficient in column u; all other rows stay
pub record Cleared {F S : Type 0} (o : Operations F S) (z : Size) (old new : System F S) (t u i : ℕ) : Type 0 where
  pub coefficients : (r v : ℕ) → r < i → v < z.unknowns
      → new.coefficient r v ≡ o.coefficients.plus (old.coefficient r v) (o.products.times (o.coefficients.negative (old.coefficient r u)) (old.coefficient t v))
  pub symbols : (r p : ℕ) → r < i → p < z.symbols
      → new.symbol r p ≡ o.symbols.plus (old.symbol r p) (o.scale (o.coefficients.negative (old.coefficient r u)) (old.symbol t p))
  pub others : (r : ℕ) → i ≤ r → SameRow z new old r

-- the spare rows below t are taken over into those of the unknowns, and each of the others says nothing or leads
pub record Joined {F S : Type 0} (o : Operations F S) (z : Size) (s : System F S) (t : ℕ) : Type 0 where
  pub given : KeptAmong o z s (rows z)
  pub taken : (r : ℕ) → z.unknowns ≤ r → r < t → Empty o z s r
  pub waiting : (r : ℕ) → t ≤ r → r < rows z → Empty o z s r ⊎ Leads o z s (rows z) r
