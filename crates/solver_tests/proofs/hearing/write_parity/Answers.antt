use Rattle.solver_tests.proofs.Front.{written_then}
use Rattle.solver_tests.proofs.hearing.write_parity.Goals as goal

pub loop-column-preserved : goal.loop-column-preserved
loop-column-preserved g c =
    let (from, within) = c.requires.spare in
    written_then c.loop-column.invariant c.write_coefficient.ensures.same c.write_coefficient.ensures.written from within

pub returns : goal.returns
returns g c =
    let (from, within) = c.requires.spare in
    let first = written_then c.loop-column.invariant c.write_symbols.ensures.same c.write_symbols.ensures.written from within in
    let second = written_then first c.add_symbols.ensures.same c.add_symbols.ensures.written from within in
    written_then second c.add_symbols-2.ensures.same c.add_symbols-2.ensures.written from within
