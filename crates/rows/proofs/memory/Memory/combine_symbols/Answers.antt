use Rattle.std.proofs.Common.{refl, arith}
use Rattle.systems.specs.System.{rows}
use Rattle.rows.proofs.Places.{row_within, outside_row}
use Rattle.rows.proofs.memory.Memory.combine_symbols.Goals as goal

pub combine_with-requires-clause-within : goal.combine_with-requires-clause-within
combine_with-requires-clause-within g c =
    let z = c.args.self.now.size in
    rw (c.symbols-l.ensures.value)
    (row_within c.args.row (rows z) z.symbols _ c.requires.within c.args.self.now.room.symbols, omega (arith, c.requires.enough))

pub returns-clause-rest : goal.returns-clause-rest
returns-clause-rest g c o = record {
  coefficients = λ u h. refl;
  symbols = λ p h. refl;
  others = λ q other. record {
    coefficients = λ u h. refl;
    symbols = λ p h. let z = c.args.self.now.size in
        c.combine_with.ensures.others _ o.symbols.zero (rw (c.symbols-l.ensures.value) (outside_row q c.args.row z.symbols p other h));
  };
}
