use Rattle.systems.specs.System.{rows}
use Rattle.rows.proofs.Places.{row_within}
use Rattle.rows.proofs.memory.Memory.first_column.Goals as goal

pub first_other-requires : goal.first_other-requires
first_other-requires g c =
    let z = c.args.self.now.size in
    rw (c.unknowns-n.ensures.value)
    (record { within = row_within c.args.row (rows z) z.unknowns _ c.requires.within c.args.self.now.room.coefficients })
