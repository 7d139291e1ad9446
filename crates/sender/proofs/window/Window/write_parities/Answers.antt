use Rattle.std.proofs.Common.{◌≡◌, ℕ, ◌+◌, ◌-◌, ◌*◌, ◌++◌, drop, length, sym, ap, ap₂, ◌∙◌, add-mul, one-mul, arith}
use Rattle.std.specs.Prelude.{map}
use Rattle.std.specs.List.{range_with_len}
use Rattle.std.proofs.lemmas.Nat.{div-mul-add, mod-mul-add}
use Rattle.codes.specs.Link.{link_of}
use Rattle.codes.specs.Parity.{parity}
use Rattle.sender.specs.Block.{recent, symbol_of_parity}
use Rattle.sender.proofs.Rows.{row_more}
use Rattle.sender.proofs.window.Window.write_parities.Goals as goal

pub loop-parity-preserved : goal.loop-parity-preserved
loop-parity-preserved g c =
    let self = c.args.self.now in
    let link = link_of g.A.Arithmetic.operations g.C.Code.shape g.C.Code.coefficients self.code.now self.symbols in
    let past = recent link self.history.now self.packet.now in
    let f = symbol_of_parity link self.history.now self.packet.now in
    let j = c.loop-parity.parity in
    let l = self.symbols in
    let row = c.write_parity.new.row in
    let width : length row ≡ l = omega arith in
    row_more f (j * l) ((j + 1) * l) row link.operations.symbols.zero (omega (arith, width, add-mul j 1 l, one-mul l))
    (λ i h. let within = rw width at h in c.write_parity.ensures i within ∙ sym (ap₂ (parity link past) (div-mul-add j l i within) (mod-mul-add j l i within)))
    c.loop-parity.out c.args.out.now (j * l + l - j * l) (omega (arith, width)) c.loop-parity.invariant

pub returns : goal.returns
returns g c =
    let self = c.args.self.now in
    let link = link_of g.A.Arithmetic.operations g.C.Code.shape g.C.Code.coefficients self.code.now self.symbols in
    let f = symbol_of_parity link self.history.now self.packet.now in
    let all : c.loop-parity.parity ≡ link.shape.parities = omega arith in
    c.loop-parity.invariant ∙ ap (λ (p : ℕ). map f (range_with_len 0 (p * self.symbols)) ++ drop (p * self.symbols) c.args.out.now) all
