-- Steps on the rows of a system. Assumes nothing.
use Rattle.std.specs.Prelude.{◌≡◌, ℕ, ◌<◌, ◌≢◌, if◌then◌else◌, ◌==◌}
use Rattle.arithmetic.specs.Operations.{Operations}
use Rattle.systems.specs.System.{Size, System}
use Rattle.systems.specs.Kept.{Empty}
use Rattle.systems.specs.Form.{SameRow}

-- row r has these coefficients and these symbols; all other rows stay
pub record RowWritten {F S : Type 0} (z : Size) (old new : System F S) (r : ℕ) (cs : ℕ → F) (ss : ℕ → S) : Type 0 where
  pub coefficients : (u : ℕ) → u < z.unknowns → new.coefficient r u ≡ cs u
  pub symbols : (p : ℕ) → p < z.symbols → new.symbol r p ≡ ss p
  pub others : (q : ℕ) → q ≢ r → SameRow z new old q

-- row `to` gains c times row `source`
abbrev pub Added : {F S : Type 0} → Operations F S → Size → System F S → System F S → ℕ → ℕ → F → Type 0
Added o z old new to source c =
    RowWritten z old new to
    (λ u. o.coefficients.plus (old.coefficient to u) (o.products.times c (old.coefficient source u)))
    (λ p. o.symbols.plus (old.symbol to p) (o.scale c (old.symbol source p)))

-- row r is scaled by c
abbrev pub Scaled : {F S : Type 0} → Operations F S → Size → System F S → System F S → ℕ → F → Type 0
Scaled o z old new r c =
    RowWritten z old new r (λ u. o.products.times c (old.coefficient r u)) (λ p. o.scale c (old.symbol r p))

-- row `to` says what row `source` of other equations says
abbrev pub Copied : {F S : Type 0} → Size → System F S → System F S → System F S → ℕ → ℕ → Type 0
Copied z given old new to source = RowWritten z old new to (given.coefficient source) (given.symbol source)

-- row r says nothing any more
abbrev pub Emptied : {F S : Type 0} → Operations F S → Size → System F S → System F S → ℕ → Type 0
Emptied o z old new r = RowWritten z old new r (λ u. o.coefficients.zero) (λ p. o.symbols.zero)

-- row r has coefficient c in column u
abbrev pub CoefficientWritten : {F S : Type 0} → Size → System F S → System F S → ℕ → ℕ → F → Type 0
CoefficientWritten z old new r u c =
    RowWritten z old new r (λ v. if v == u then c else old.coefficient r v) (old.symbol r)

-- row r has these symbols
abbrev pub SymbolsWritten : {F S : Type 0} → Size → System F S → System F S → ℕ → (ℕ → S) → Type 0
SymbolsWritten z old new r symbols = RowWritten z old new r (old.coefficient r) symbols

-- row `to` takes over what row `source` said, which says nothing afterwards
pub record Moved {F S : Type 0} (o : Operations F S) (z : Size) (old new : System F S) (to source : ℕ) : Type 0 where
  pub coefficients : (u : ℕ) → u < z.unknowns → new.coefficient to u ≡ old.coefficient source u
  pub symbols : (p : ℕ) → p < z.symbols → new.symbol to p ≡ old.symbol source p
  pub emptied : Empty o z new source
  pub others : (r : ℕ) → r ≢ to → r ≢ source → SameRow z new old r
