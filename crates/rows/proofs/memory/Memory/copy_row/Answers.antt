use Rattle.std.proofs.Common.{arith, of_calls}
use Rattle.systems.specs.System.{rows}
use Rattle.rows.proofs.Places.{row_within}
use Rattle.rows.proofs.Written.{other_rows}
use Rattle.rows.proofs.memory.Memory.copy_row.Goals as goal

pub combine_with-requires-clause-within : goal.combine_with-requires-clause-within
combine_with-requires-clause-within g c =
    let z = c.args.self.now.size in
    rw (c.unknowns-n.ensures.value)
    (row_within c.args.to (rows z) z.unknowns _ c.requires.within c.args.self.now.room.coefficients, c.requires.equations.0)

pub combine_with-requires-2-clause-within : goal.combine_with-requires-2-clause-within
combine_with-requires-2-clause-within g c =
    let z = c.args.self.now.size in
    rw (c.symbols-l.ensures.value)
    (row_within c.args.to (rows z) z.symbols _ c.requires.within c.args.self.now.room.symbols, c.requires.equations.1)

pub returns-clause-copied : goal.returns-clause-copied
returns-clause-copied g c =
    let o = g.A.Arithmetic.operations in
    let old = c.args.self.now in
    record {
      coefficients = λ u h. let e = c.combine_with.ensures.combined u o.coefficients.zero (omega (arith, h)) in search of_calls;
      symbols = λ p h. let e = c.combine_with-2.ensures.combined p o.symbols.zero (omega (arith, h)) in search of_calls;
      others = other_rows o old.size c.args.to c.unknowns-n.result c.symbols-l.result old.coefficients.now c.combine_with.new.items
          old.symbols.now c.combine_with-2.new.items c.unknowns-n.ensures.value c.symbols-l.ensures.value
          c.combine_with.ensures.others c.combine_with-2.ensures.others;
    }
