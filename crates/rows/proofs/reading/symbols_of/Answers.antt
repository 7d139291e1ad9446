use Rattle.std.proofs.Common.{◌≡◌, ℕ, ◌+◌, ◌-◌, ◌*◌, ◌<◌, ◌≤◌, List, get_or, length, take, drop, ap, ◌∙◌, arith}
use Rattle.std.proofs.lemmas.List.{get_or-drop, get_or-take, length-take-le, length-drop}
use Rattle.systems.specs.System.{rows}
use Rattle.rows.proofs.Places.{row_within}
use Rattle.rows.proofs.reading.symbols_of.Goals as goal

-- a piece of l elements of a list, and what it holds
piece_length : {X : Type 0} (xs : List X) (start m l : ℕ) → m ≡ l → start + l ≤ length xs → length (take m (drop start xs)) ≡ l
piece_length xs start m l e h = length-take-le m (drop start xs) (let long = length-drop start xs in omega arith) ∙ e

piece_at : {X : Type 0} (xs : List X) (start m l p : ℕ) (d : X) → m ≡ l → p < l → get_or (take m (drop start xs)) p d ≡ get_or xs (start + p) d
piece_at xs start m l p d e h = get_or-take m (drop start xs) p d (omega arith) ∙ get_or-drop start xs p d

pub slice_bounds-result-end : goal.slice_bounds-result-end
slice_bounds-result-end g c =
    let z = c.args.size.now in
    rw (c.symbols.ensures.value, c.symbols-2.ensures.value)
    (row_within c.args.row (rows z) z.symbols (length c.args.symbols.now) c.requires.within c.requires.room)

pub returns-clause-whole : goal.returns-clause-whole
returns-clause-whole g c =
    let z = c.args.size.now in
    let start = c.args.row * c.symbols.result in
    let within : start + z.symbols ≤ length c.args.symbols.now =
    rw c.symbols.ensures.value (row_within c.args.row (rows z) z.symbols (length c.args.symbols.now) c.requires.within c.requires.room) in
    piece_length c.args.symbols.now start (start + c.symbols-2.result - start) z.symbols (omega arith) within

pub returns-clause-each : goal.returns-clause-each
returns-clause-each g c p h =
    let z = c.args.size.now in
    let none = g.A.Arithmetic.operations.symbols.zero in
    let start = c.args.row * c.symbols.result in
    piece_at c.args.symbols.now start (start + c.symbols-2.result - start) z.symbols p none (omega arith) h
    ∙ ap (λ (l : ℕ). get_or c.args.symbols.now (c.args.row * l + p) none) c.symbols.ensures.value
