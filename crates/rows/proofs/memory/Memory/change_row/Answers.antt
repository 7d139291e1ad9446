use Rattle.systems.specs.System.{rows}
use Rattle.rows.proofs.Places.{row_within}
use Rattle.rows.proofs.Written.{other_rows}
use Rattle.rows.proofs.memory.Memory.change_row.Goals as goal

pub change-requires-2-clause-within : goal.change-requires-2-clause-within
change-requires-2-clause-within g c =
    let z = c.args.self.now.size in
    rw (c.symbols-l.ensures.value) (row_within c.args.row (rows z) z.symbols _ c.requires.within c.args.self.now.room.symbols)

pub returns-clause-others : goal.returns-clause-others
returns-clause-others g c o =
    let old = c.args.self.now in
    other_rows o old.size c.args.row c.unknowns-n.result c.symbols-l.result old.coefficients.now c.change.new.items old.symbols.now c.change-2.new.items
    c.unknowns-n.ensures.value c.symbols-l.ensures.value c.change.ensures.others c.change-2.ensures.others
