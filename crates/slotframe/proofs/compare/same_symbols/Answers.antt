use Rattle.std.proofs.Common.{rules, tests}
use Rattle.std.proofs.lemmas.Iterator.{YieldsList-from_slice, YieldsList-from_zip, same_from_all}
use Rattle.slotframe.proofs.compare.same_symbols.Goals as goal

pub returns-then-read-sent : goal.returns-then-read-sent
returns-then-read-sent g c =
    let read = c.args.read.now in
    let sent = c.args.sent.now in
    same_from_all c.all.new.self _ c.all.result read sent c.all.ensures.ran (YieldsList-from_zip (YieldsList-from_slice read (cc)) (YieldsList-from_slice sent (cc))) c.if-read-sent.true
    (λ x q k. search (rules, tests)) (λ x q k. search (rules, tests))
