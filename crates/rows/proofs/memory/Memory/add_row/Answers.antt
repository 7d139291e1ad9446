use Rattle.std.proofs.Common.{of_calls}
use Rattle.rows.proofs.memory.Memory.add_row.Goals as goal

pub returns-clause-added : goal.returns-clause-added
returns-clause-added g c =
    let o = g.A.Arithmetic.operations in
    record {
      coefficients = λ u h. let e = c.combine_rows.ensures.coefficients o u h in search of_calls;
      symbols = λ p h. let e = c.combine_rows.ensures.symbols o p h in search of_calls;
      others = λ r h. c.combine_rows.ensures.others o r h;
    }
