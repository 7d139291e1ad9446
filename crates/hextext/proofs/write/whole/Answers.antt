use Rattle.std.proofs.Common.{string_bytes, sym, refl, ◌∙◌}
use denote.Param.Members.{Once}
use denote.Ref.{MutBor}
use Rattle.std.specs.Fn.{FnOnceReturnsAtMut}
use Rattle.hextext.proofs.Cuts.{at_err, seam, cut_back, kept_whole}
use Rattle.hextext.proofs.write.whole.Goals as goal

-- what the call of `append` left
called : {F T R : Type 0} (g : Once F (MutBor T × Unit {0}) (R × (MutBor T × Unit {0}))) (f : F) (p q : MutBor T) (r : R)
    → g.post f (p, tt) (r, (q, tt)) → FnOnceReturnsAtMut g f p.now r q.now
called g f p q r h = record { shown = p; shows = refl; left = q; met = h; leaves = refl }

pub truncate-requires : goal.truncate-requires
truncate-requires g c =
    let before = c.args.text.now in
    let after = c.append-written.new.arg2 in
    let ran = called g.F.FnOnce c.args.append _ _ _ c.append-written.ensures in
    λ _.
    seam (string_bytes before) (string_bytes after) c.len-end.result (c.len-end.ensures ∙ before.bytes.ok.0) before.ok after.ok
    (at_err c.append-written.result _ _ _ (sym c.is_err.ensures.value ∙ c.if-is_err.true) (c.requires.begun.1 _ _ ran))

pub returns-then-is_err : goal.returns-then-is_err
returns-then-is_err g c =
    let before = c.args.text.now in
    let after = c.append-written.new.arg2 in
    let ran = called g.F.FnOnce c.args.append _ _ _ c.append-written.ensures in
    λ more begun.
    cut_back c.append-written.result more (string_bytes before) (string_bytes after) (string_bytes c.truncate.new.self) c.len-end.result
    (sym c.is_err.ensures.value ∙ c.if-is_err.true) (c.len-end.ensures ∙ before.bytes.ok.0) (begun _ _ ran) c.truncate.ensures.bytes

pub returns-else-is_err : goal.returns-else-is_err
returns-else-is_err g c =
    let before = c.args.text.now in
    let after = c.append-written.new.arg2 in
    let ran = called g.F.FnOnce c.args.append _ _ _ c.append-written.ensures in
    λ more begun. kept_whole c.append-written.result more (string_bytes before) (string_bytes after) (sym c.is_err.ensures.value ∙ c.if-is_err.false) (begun _ _ ran)
