use Rattle.std.proofs.Common.{subst, of_calls}
use Rattle.systems.specs.System.{Size}
use Rattle.systems.specs.Steps.{Emptied}
use Rattle.systems.proofs.Steps.{copied_emptied}
use Rattle.rows.specs.Lent.{system_of}
use Rattle.rows.proofs.memory.Memory.move_row.Goals as goal

pub returns-clause-moved : goal.returns-clause-moved
returns-clause-moved g c =
    let o = g.A.Arithmetic.operations in
    copied_emptied {old = system_of o c.args.self.now} {s = system_of o c.combine_rows.new.self} {new = system_of o c.empty_row.new.self}
    (record {
      coefficients = λ u h. let e = c.combine_rows.ensures.coefficients o u h in search of_calls;
      symbols = λ p h. let e = c.combine_rows.ensures.symbols o p h in search of_calls;
      others = λ r h. c.combine_rows.ensures.others o r h;
    })
    (subst (λ (z : Size). Emptied o z (system_of o c.combine_rows.new.self) (system_of o c.empty_row.new.self) c.args.source)
    c.combine_rows.ensures.same.size c.empty_row.ensures.emptied)
    c.requires.apart
