use Rattle.std.proofs.Common.{ℕ, ◌<◌, List, length, ap, arith, rules}
use Rattle.linktext.specs.Fields.{lines_of}
use Rattle.linktext.proofs.Cutting.{lines_cut, some_left}
use Rattle.transcript.proofs.lines.LinesIterator.next.Goals as goal

pub returns-clause-steps : goal.returns-clause-steps
returns-clause-steps c =
    let rest = c.args.self.now.rest.now in
    lines_cut rest c.cut.result.0.now c.cut.result.1.now (some_left rest c.if-is_empty.ensures) c.cut.ensures.first c.cut.ensures.rest

pub returns-clause-goes : goal.returns-clause-goes
returns-clause-goes c =
    let step = ap (length {A = List ℕ}) (returns-clause-steps c) in
    let nearer : length (lines_of c.cut.result.1.now) < length (lines_of c.args.self.now.rest.now) = omega (arith, step) in
    search rules
