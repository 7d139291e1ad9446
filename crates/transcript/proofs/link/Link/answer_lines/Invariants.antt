use Rattle.std.proofs.Common.{string_bytes}
use Rattle.codes.specs.Link.{link_of}
use Rattle.linktext.specs.Fields.{lines_of}
use Rattle.transcript.specs.Steps.{PrintedFrom}
use Rattle.transcript.proofs.Turns.{Turned}
use Rattle.transcript.proofs.link.Link.answer_lines.Given as goal

abbrev pub invariant-loop-line : goal.invariant-loop-line
invariant-loop-line g l =
    let b = g.A.Arithmetic.bytes in
    let link = link_of g.A.Arithmetic.operations g.C.Code.shape g.C.Code.coefficients in
    let first = l.initial.self in
    let now = l.self in
    Turned (link now.sender.code now.sender.symbols) b
    (PrintedFrom (link first.sender.code first.sender.symbols) b first.history.items first.sender.next (lines_of l.lines.rest.now))
    now.history.items now.sender.next (lines_of l.line-iterator.rest.now) (string_bytes l.out)
