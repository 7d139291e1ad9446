use Rattle.systems.specs.System.{rows}
use Rattle.rows.proofs.Places.{row_within}
use Rattle.rows.proofs.memory.Memory.symbols_are_zero.Goals as goal

pub first_other-requires : goal.first_other-requires
first_other-requires g c =
    let z = c.args.self.now.size in
    rw (c.symbols-l.ensures.value)
    (record { within = row_within c.args.row (rows z) z.symbols _ c.requires.within c.args.self.now.room.symbols })
