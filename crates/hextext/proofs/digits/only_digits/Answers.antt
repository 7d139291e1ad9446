use Rattle.std.proofs.Common.{◌≡◌, ◌&&◌, Bool, ℕ, true, rules, tests, ◌∙◌}
use Rattle.std.specs.List.{fold}
use Rattle.std.proofs.lemmas.Iterator.{YieldsList-from_slice}
use Rattle.std.proofs.lemmas.Iterator.Consumers.{fold_from_yields_List}
use Rattle.hextext.specs.Digits.{is_hex_digit}
use Rattle.hextext.proofs.Checks.{all_folded}
use Rattle.hextext.proofs.digits.only_digits.Goals as goal

pub returns : goal.returns
returns c =
    let text = c.args.text.now in
    let each = λ (t : Bool) (d : ℕ). t && is_hex_digit d in
    let is : c.fold.result ≡ fold each true text =
    fold_from_yields_List _ each true c.fold.result c.fold.ensures.ran (YieldsList-from_slice text cc) (λ t x b q k. search (rules, tests)) in
    is ∙ all_folded text true
