-- A sender, as those see it who use it. Assumes nothing.
use Rattle.std.specs.Prelude.{ℕ}

-- its code, the symbols of a sub-symbol, and the slot that comes next
pub record SenderState (C : Type 0) : Type 0 where
  pub code : C
  pub symbols : ℕ
  pub next : ℕ

-- as it is made
abbrev pub fresh : {C : Type 0} → C → ℕ → SenderState C
fresh code l = record { code = code; symbols = l; next = 0 }
