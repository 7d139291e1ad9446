use Rattle.systems.specs.System.{rows}
use Rattle.rows.proofs.Places.{place_within}
use Rattle.rows.proofs.Written.{coefficient_written}
use Rattle.rows.proofs.memory.Memory.write_coefficient.Goals as goal

pub write-requires : goal.write-requires
write-requires g c =
    let z = c.args.self.now.size in
    rw (c.unknowns.ensures.value)
    (record { within = place_within c.args.row (rows z) z.unknowns _ c.args.column c.requires.within.0 c.args.self.now.room.coefficients c.requires.within.1 })

pub returns-clause-written : goal.returns-clause-written
returns-clause-written g c =
    let z = c.args.self.now.size in
    coefficient_written g.A.Arithmetic.operations z c.args.self.now.coefficients.now c.write.new.items c.args.self.now.symbols.now c.args.row c.args.column c.args.c
    c.requires.within.0 c.requires.within.1 c.args.self.now.room.coefficients (rw (c.unknowns.ensures.value) at c.write.ensures)
