-- An unknown of which nothing is known is given its symbols. Assumes nothing.
use Rattle.std.specs.Prelude.{◌≡◌, ℕ, ◌<◌, ◌≢◌}
use Rattle.arithmetic.specs.Operations.{Operations}
use Rattle.systems.specs.System.{Size, System, Solves}

-- two contents have the same symbols everywhere but at unknown u
abbrev pub SameButAt : {S : Type 0} → Size → ℕ → (ℕ → ℕ → S) → (ℕ → ℕ → S) → Type 0
SameButAt z u x y = (v p : ℕ) → v < z.unknowns → v ≢ u → p < z.symbols → x v p ≡ y v p

-- nothing is known of unknown u: whatever symbols it has in a content, it may have any others there
abbrev pub NothingKnown : {F S : Type 0} → Operations F S → Size → System F S → ℕ → Type 0
NothingKnown {F} {S} o z s u = (x y : ℕ → ℕ → S) → Solves o z s x → SameButAt z u y x → Solves o z s y

-- the contents of the system that have these symbols at unknown u
abbrev pub GivenSymbols : {F S : Type 0} → Operations F S → Size → System F S → ℕ → (ℕ → S) → (ℕ → ℕ → S) → Type 0
GivenSymbols o z s u symbols x = Solves o z s x × ((p : ℕ) → p < z.symbols → x u p ≡ symbols p)
