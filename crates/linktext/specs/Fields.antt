-- The lines of a text, the fields of a line and decimal numbers. Lists hold the codes of characters. Assumes nothing.
use Rattle.std.specs.Prelude.{ℕ, ◌+◌, ◌-◌, ◌*◌, min, Bool, true, false, cond, ◌&&◌, List, [], ◌∷◌, Some, None, Option, ◌==◌, nat_le}

-- what stands before the first mark, or everything where there is none
abbrev pub before : ℕ → List ℕ → List ℕ
before mark [] = []
before mark (c ∷ cs) = cond (c == mark) [] (c ∷ before mark cs)

-- what stands behind it, or nothing
abbrev pub behind : ℕ → List ℕ → List ℕ
behind mark [] = []
behind mark (c ∷ cs) = cond (c == mark) cs (behind mark cs)

-- fields have blanks between them
abbrev pub front : List ℕ → List ℕ
front = before 32

abbrev pub back : List ℕ → List ℕ
back = behind 32

-- a character more at the front of the first line
abbrev pub longer : ℕ → List (List ℕ) → List (List ℕ)
longer c [] = (c ∷ []) ∷ []
longer c (l ∷ ls) = (c ∷ l) ∷ ls

-- the lines of a text, without their ends; an unended last line counts
abbrev pub lines_of : List ℕ → List (List ℕ)
lines_of [] = []
lines_of (c ∷ cs) = cond (c == 10) ([] ∷ lines_of cs) (longer c (lines_of cs))

abbrev pub is_decimal : ℕ → Bool
is_decimal c = nat_le 48 c && nat_le c 57

abbrev pub all_decimal : List ℕ → Bool
all_decimal [] = true
all_decimal (c ∷ cs) = is_decimal c && all_decimal cs

-- digits, at least one, and no 0 before another: a lone 0 is a number
abbrev pub is_number : List ℕ → Bool
is_number [] = false
is_number (c ∷ []) = is_decimal c
is_number (c ∷ d ∷ cs) = nat_le 49 c && all_decimal (c ∷ d ∷ cs)

-- the number that the digits write behind n; one too large for 32 bits counts as the largest of 32 bits
abbrev pub read_on : ℕ → List ℕ → ℕ
read_on n [] = n
read_on n (c ∷ cs) = read_on (min (n * 10 + (c - 48)) 4294967295) cs

abbrev pub number_in : List ℕ → Option ℕ
number_in cs = cond (is_number cs) (Some (read_on 0 cs)) None
