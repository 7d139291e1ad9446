use Rattle.std.proofs.Common.{of_calls}
use Rattle.rows.proofs.memory.Memory.scale_row.Goals as goal

pub returns-clause-scaled : goal.returns-clause-scaled
returns-clause-scaled g c =
    let o = g.A.Arithmetic.operations in
    record {
      coefficients = λ u h. let e = c.change_row.ensures.coefficients o u h in search of_calls;
      symbols = λ p h. let e = c.change_row.ensures.symbols o p h in search of_calls;
      others = λ r h. c.change_row.ensures.others o r h;
    }
