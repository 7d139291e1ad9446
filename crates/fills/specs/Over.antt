-- What is written over a slice.
use Rattle.std.specs.Prelude.{List, ◌++◌, length, drop}

-- written over the front of what was there; what lies behind stays
abbrev pub written_over : {X : Type 0} → List X → List X → List X
written_over new old = new ++ drop (length new) old
