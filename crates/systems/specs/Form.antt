-- A set of contents and its kept form. Assumes nothing.
use Rattle.std.specs.Prelude.{◌≡◌, ℕ, ◌<◌, ◌↔◌, ◌≢◌}
use Rattle.arithmetic.specs.Operations.{Operations}
use Rattle.systems.specs.System.{Size, System, rows, Solves}
use Rattle.systems.specs.Kept.{Kept}

-- row r is the same in both
pub record SameRow {F S : Type 0} (z : Size) (s t : System F S) (r : ℕ) : Type 0 where
  pub coefficients : (u : ℕ) → u < z.unknowns → s.coefficient r u ≡ t.coefficient r u
  pub symbols : (p : ℕ) → p < z.symbols → s.symbol r p ≡ t.symbol r p

-- the system stands for just these contents
abbrev pub StandsFor : {F S : Type 0} → Operations F S → Size → System F S → ((ℕ → ℕ → S) → Type 0) → Type 0
StandsFor {F} {S} o z s set = (x : ℕ → ℕ → S) → Solves o z s x ↔ set x

-- the system is the kept form of this set of contents: it is in kept form and stands for it. The set then has a content, and no other kept form
pub record KeptFormOf {F S : Type 0} (o : Operations F S) (z : Size) (s : System F S) (set : (ℕ → ℕ → S) → Type 0) : Type 0 where
  pub kept : Kept o z s
  pub stands : StandsFor o z s set
  pub content : (x : ℕ → ℕ → S) × set x
  pub only : (t : System F S) → Kept o z t → StandsFor o z t set → (r : ℕ) → r < rows z → SameRow z s t r

-- each unknown's row gives it, as zero, and the spare rows say nothing
pub record AllZero {F S : Type 0} (o : Operations F S) (z : Size) (s : System F S) : Type 0 where
  pub diagonal : (u : ℕ) → u < z.unknowns → s.coefficient u u ≡ o.products.one
  pub elsewhere : (r u : ℕ) → r < rows z → u < z.unknowns → r ≢ u → s.coefficient r u ≡ o.coefficients.zero
  pub symbols : (r p : ℕ) → r < rows z → p < z.symbols → s.symbol r p ≡ o.symbols.zero

-- the content that is zero throughout
abbrev pub ZeroContent : {F S : Type 0} → Operations F S → Size → (ℕ → ℕ → S) → Type 0
ZeroContent o z x = (u p : ℕ) → u < z.unknowns → p < z.symbols → x u p ≡ o.symbols.zero
