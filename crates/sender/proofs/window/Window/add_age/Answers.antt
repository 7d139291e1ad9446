use Rattle.std.proofs.Common.{◌≡◌, ℕ, ◌+◌, get_or, sym, ap, ◌∙◌, add-one, arith}
use Rattle.arithmetic.specs.Operations.{Sums, Operations}
use Rattle.arithmetic.specs.Laws.{SumLaws, ArithmeticLaws}
use Rattle.arithmetic.specs.Totals.{sum_below}
use Rattle.arithmetic.proofs.Scaling.{scale_by_zero}
use Rattle.arithmetic.proofs.Sums.{plus_zero, sum_zero}
use Rattle.codes.specs.Link.{link_of}
use Rattle.codes.specs.Parity.{term}
use Rattle.sender.specs.Block.{recent}
use Rattle.sender.proofs.window.Window.add_age.Goals.{then-not-same, else-not-same}
use Rattle.sender.proofs.window.Window.add_age.Goals as goal

-- one term more, added to x and what was added to it so far
one_more : {S : Type 0} (s : Sums S) (laws : SumLaws s) (f : ℕ → S) (n : ℕ) (x old new : S)
    → old ≡ s.plus x (sum_below s n f) → new ≡ s.plus old (f n) → new ≡ s.plus x (sum_below s (n + 1) f)
one_more s laws f n x old new so_far more =
    rw (add-one n) (more ∙ ap (λ a. s.plus a (f n)) so_far ∙ laws.assoc x (sum_below s n f) (f n))

module _ {F S : Type 0} (o : Operations F S) (laws : ArithmeticLaws o) (old : S) where
  -- the coefficient and the symbol as they were asked for, and as the term has them
  asked : (b c : F) (x y new : S) → b ≡ c → x ≡ y → new ≡ o.symbols.plus old (o.scale b x) → new ≡ o.symbols.plus old (o.scale c y)
  asked b c x y new d e more = more ∙ ap (λ a. o.symbols.plus old (o.scale a x)) d ∙ ap (λ z. o.symbols.plus old (o.scale c z)) e

  -- a zero adds nothing
  nothing : (b c : F) (x : S) → b ≡ c → b ≡ o.coefficients.zero → old ≡ o.symbols.plus old (o.scale c x)
  nothing b c x d none =
      sym (plus_zero o.symbols laws.symbols old)
      ∙ ap (o.symbols.plus old) (sym (scale_by_zero o laws x) ∙ ap (λ a. o.scale a x) (sym none ∙ d))

pub loop-sub-preserved : goal.loop-sub-preserved
loop-sub-preserved g c i within =
    let self = c.args.self.now in
    let o = g.A.Arithmetic.operations in
    let laws = g.met.A.Arithmetic.laws in
    let link = link_of o g.C.Code.shape g.C.Code.coefficients self.code.now self.symbols in
    let past = recent link self.history.now self.packet.now in
    let f = term link past c.args.parity i c.args.age in
    let sub = c.loop-sub.sub in
    let old = get_or c.loop-sub.row i o.symbols.zero in
    let new = get_or c.if-not-same.row i o.symbols.zero in
    let more : new ≡ o.symbols.plus old (f sub) = elim c.if-not-same.branch [
      | then-not-same w ↦
          asked o laws old c.coefficient-c.result _ _ (past c.args.age sub i) new
          c.coefficient-c.ensures.value (w.recent_row.ensures.symbols i within)
          (ap (λ row. get_or row i o.symbols.zero) w.row-is ∙ w.add_multiple.ensures i o.symbols.zero (omega arith))
      | else-not-same w ↦
          ap (λ row. get_or row i o.symbols.zero) w.row-is
          ∙ nothing o laws old c.coefficient-c.result _ (past c.args.age sub i)
          c.coefficient-c.ensures.value (c.same.ensures.0 w.if-not-same.false ∙ c.zero.ensures)
    ] in
    one_more o.symbols laws.symbols f sub (get_or c.args.row.now i o.symbols.zero) old new (c.loop-sub.invariant i within) more

-- what is scaled by zeros alone adds up to zero
pub returns-then-not-takes_from : goal.returns-then-not-takes_from
returns-then-not-takes_from g c i within =
    let self = c.args.self.now in
    let o = g.A.Arithmetic.operations in
    let laws = g.met.A.Arithmetic.laws in
    let link = link_of o g.C.Code.shape g.C.Code.coefficients self.code.now self.symbols in
    let past = recent link self.history.now self.packet.now in
    let x = get_or c.args.row.now i o.symbols.zero in
    let none = c.takes_from.ensures c.if-not-takes_from.true in
    let zeros = sum_zero o.symbols laws.symbols link.shape.sources (term link past c.args.parity i c.args.age)
    (λ k l. ap (λ a. o.scale a (past c.args.age k i)) (none k l) ∙ scale_by_zero o laws (past c.args.age k i)) in
    sym (plus_zero o.symbols laws.symbols x) ∙ ap (o.symbols.plus x) (sym zeros)
