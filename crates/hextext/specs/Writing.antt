-- What writing a text leaves. Assumes nothing.
use Rattle.std.specs.Prelude.{◌≡◌, ℕ, List, ◌++◌, Ok, Err, string_bytes, Result, String}
use Rattle.std.specs.Global.{Global}

-- all of `more` was appended, or where memory ran out nothing
abbrev pub Appends : {X Y : Type 0} → List ℕ → List ℕ → List ℕ → Result X Y → Type 0
Appends more before after (Ok _) = after ≡ before ++ more
Appends more before after (Err _) = after ≡ before

-- all of `more` was appended, or where memory ran out something, but what was there still comes first
abbrev pub Begins : {X Y : Type 0} → List ℕ → List ℕ → List ℕ → Result X Y → Type 0
Begins more before after (Ok _) = after ≡ before ++ more
Begins more before after (Err _) = (some : List ℕ) × (after ≡ before ++ some)

-- whatever a call leaves, all of `more` was appended, or where memory ran out something
abbrev pub Begun : {X Y : Type 0} → (Result X Y → String Global → Type 0) → List ℕ → List ℕ → Type 0
Begun {X} {Y} leaves more before = (r : Result X Y) (now : String Global) → leaves r now → Begins more before (string_bytes now) r
