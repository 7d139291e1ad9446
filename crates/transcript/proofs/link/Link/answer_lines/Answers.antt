use Rattle.std.proofs.Common.{◌≡◌, ◌+◌, string_bytes, ◌∙◌}
use Rattle.std.specs.declared.alloc.Global.{Global}
use Rattle.std.proofs.lemmas.Result.{IfOk-weaker}
use Rattle.codes.specs.Link.{link_of}
use Rattle.linktext.specs.Fields.{lines_of}
use Rattle.transcript.specs.Steps.{Ends, PrintedFrom}
use Rattle.transcript.proofs.Turns.{turn, break_off, done}
use Rattle.transcript.proofs.link.Link.answer_lines.Goals as goal

pub loop-line-init : goal.loop-line-init
loop-line-init g c more run = rw c.new-out.ensures.bytes (rw c.into_iter-line-iterator.ensures.into_iter_gives at run)

pub loop-line-preserved : goal.loop-line-preserved
loop-line-preserved g c =
    let b = g.A.Arithmetic.bytes in
    let link = link_of g.A.Arithmetic.operations g.C.Code.shape g.C.Code.coefficients in
    let self = c.args.self.now in
    let all = PrintedFrom (link self.sender.code self.sender.symbols) b self.history.items self.sender.next (lines_of c.args.lines.rest.now) in
    let sender = c.loop-line.self.sender in
    let answer = c.in-Ok.ensures in
    λ more run.
    turn (link sender.code sender.symbols) b all g.met.A.Arithmetic.laws
    (string_bytes c.loop-line.out) c.in-Some.ensures.steps answer.answers answer.next c.in_ok-writeln-in-Ok.ensures.bytes c.loop-line.invariant
    more (rw (answer.code, answer.symbols) at run)

pub returns-in-Err : goal.returns-in-Err
returns-in-Err g c =
    let b = g.A.Arithmetic.bytes in
    let link = link_of g.A.Arithmetic.operations g.C.Code.shape g.C.Code.coefficients in
    let self = c.args.self.now in
    let all = PrintedFrom (link self.sender.code self.sender.symbols) b self.history.items self.sender.next (lines_of c.args.lines.rest.now) in
    let was = c.loop-line.self in
    let number : c.from-number.result ≡ was.sender.next = c.from-number.ensures ∙ c.next_slot.ensures.value in
    IfOk-weaker c.end_run.result (λ s. Ends c.in-Err.error (c.from-number.result + 2) (string_bytes c.loop-line.out) (string_bytes s)) (λ s. all (string_bytes s))
    (λ s e. break_off (link was.sender.code was.sender.symbols) b all
    (string_bytes {Z = Global}) was.history.items c.answer_line.new.self.history.items was.sender.next c.in-Some.line.now
    (string_bytes c.loop-line.out) (string_bytes s) c.in-Err.error
    c.in-Some.ensures.steps c.in-Err.ensures.answers (rw number at e) c.loop-line.invariant)
    c.end_run.ensures

pub returns : goal.returns
returns g c =
    let b = g.A.Arithmetic.bytes in
    let link = link_of g.A.Arithmetic.operations g.C.Code.shape g.C.Code.coefficients in
    let self = c.args.self.now in
    let all = PrintedFrom (link self.sender.code self.sender.symbols) b self.history.items self.sender.next (lines_of c.args.lines.rest.now) in
    let was = c.loop-line.self in
    done (link was.sender.code was.sender.symbols) b all
    was.history.items was.sender.next (string_bytes c.loop-line.out) c.in-None.ensures.steps.0 c.loop-line.invariant
