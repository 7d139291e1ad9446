use Rattle.std.proofs.Common.{rules, tests, ◌≡◌, ◌+◌, eqb, sym, ◌∙◌}
use Rattle.std.specs.List.{position}
use Rattle.std.proofs.lemmas.Iterator.{YieldsList-from_slice}
use Rattle.std.proofs.lemmas.Iterator.Search.{position_from_yields_List}
use Rattle.std.proofs.lemmas.List.{take_rest}
use Rattle.linktext.proofs.Cutting.{cut_here, no_cut}
use Rattle.linktext.proofs.fields.cut.Goals as goal

pub returns-in-Some : goal.returns-in-Some
returns-in-Some c =
    let line = c.args.line.now in
    let is : c.position.result ≡ position (λ x. eqb x c.args.mark) line =
    position_from_yields_List (λ x. eqb x c.args.mark) _ _ c.position.result c.position.ensures.ran (YieldsList-from_slice line cc) (λ x b q k. search (rules, tests)) in
    let both = cut_here c.args.mark line c.in-Some.i (sym c.in-Some.is ∙ is) in
    record { first = both.0; rest = take_rest line (c.in-Some.i + 1) ∙ both.1 }

pub returns-in-None : goal.returns-in-None
returns-in-None c =
    let line = c.args.line.now in
    let is : c.position.result ≡ position (λ x. eqb x c.args.mark) line =
    position_from_yields_List (λ x. eqb x c.args.mark) _ _ c.position.result c.position.ensures.ran (YieldsList-from_slice line cc) (λ x b q k. search (rules, tests)) in
    let both = no_cut c.args.mark line (sym c.in-None.is ∙ is) in
    record { first = both.0; rest = both.1 }
