use Rattle.systems.specs.System.{rows}
use Rattle.rows.proofs.Places.{row_within}
use Rattle.solver.proofs.kept.is_empty.Goals as goal

pub is_zero-requires : goal.is_zero-requires
is_zero-requires g c =
    let z = c.args.size.now in
    rw (c.unknowns-n.ensures.value) (record { within = row_within c.args.row (rows z) z.unknowns _ c.requires.within c.requires.room.coefficients })

pub is_zero-requires-then-is_zero : goal.is_zero-requires-then-is_zero
is_zero-requires-then-is_zero g c =
    let z = c.args.size.now in
    rw (c.symbols-l.ensures.value) (record { within = row_within c.args.row (rows z) z.symbols _ c.requires.within c.requires.room.symbols })
