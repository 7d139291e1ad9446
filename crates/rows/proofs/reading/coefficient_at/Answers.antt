use Rattle.std.proofs.Common.{◌+◌}
use Rattle.rows.proofs.Places.{place_within}
use Rattle.rows.proofs.reading.coefficient_at.Goals as goal

pub read-requires : goal.read-requires
read-requires g c =
    let z = c.args.size.now in
    rw (c.unknowns.ensures.value)
    (record { within = place_within c.args.row (z.unknowns + z.spare) z.unknowns _ c.args.column c.requires.within.0 c.requires.room c.requires.within.1 })

pub returns : goal.returns
returns g c = rw (c.unknowns.ensures.value) at (c.read.ensures g.A.Arithmetic.operations.coefficients.zero)
