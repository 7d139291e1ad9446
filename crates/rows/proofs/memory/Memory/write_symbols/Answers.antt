use Rattle.std.proofs.Common.{of_calls}
use Rattle.rows.proofs.memory.Memory.write_symbols.Goals as goal

pub returns-clause-written : goal.returns-clause-written
returns-clause-written g c =
    let o = g.A.Arithmetic.operations in
    record {
      coefficients = (c.combine_symbols.ensures.rest o).coefficients;
      symbols = λ p h. let e = c.combine_symbols.ensures.symbols o p h in search of_calls;
      others = (c.combine_symbols.ensures.rest o).others;
    }
