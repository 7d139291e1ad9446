use Rattle.systems.specs.System.{rows}
use Rattle.rows.proofs.Places.{row_within, rows_apart}
use Rattle.rows.proofs.Written.{other_rows}
use Rattle.rows.proofs.memory.Memory.combine_rows.Goals as goal

pub combine-requires-clause-within : goal.combine-requires-clause-within
combine-requires-clause-within g c =
    let z = c.args.self.now.size in
    rw (c.unknowns-n.ensures.value) (
      row_within c.args.to (rows z) z.unknowns _ c.requires.within.0 c.args.self.now.room.coefficients,
      row_within c.args.source (rows z) z.unknowns _ c.requires.within.1 c.args.self.now.room.coefficients,
    )

pub combine-requires-clause-apart : goal.combine-requires-clause-apart
combine-requires-clause-apart g c = rows_apart c.args.to c.args.source c.unknowns-n.result c.requires.apart

pub combine-requires-2-clause-within : goal.combine-requires-2-clause-within
combine-requires-2-clause-within g c =
    let z = c.args.self.now.size in
    rw (c.symbols-l.ensures.value) (
      row_within c.args.to (rows z) z.symbols _ c.requires.within.0 c.args.self.now.room.symbols,
      row_within c.args.source (rows z) z.symbols _ c.requires.within.1 c.args.self.now.room.symbols,
    )

pub combine-requires-2-clause-apart : goal.combine-requires-2-clause-apart
combine-requires-2-clause-apart g c = rows_apart c.args.to c.args.source c.symbols-l.result c.requires.apart

pub returns-clause-others : goal.returns-clause-others
returns-clause-others g c o =
    let old = c.args.self.now in
    other_rows o old.size c.args.to c.unknowns-n.result c.symbols-l.result old.coefficients.now c.combine.new.items old.symbols.now c.combine-2.new.items
    c.unknowns-n.ensures.value c.symbols-l.ensures.value c.combine.ensures.others c.combine-2.ensures.others
