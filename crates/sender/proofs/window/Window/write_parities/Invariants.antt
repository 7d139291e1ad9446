use Rattle.std.proofs.Common.{◌≡◌, ◌*◌, ◌++◌, drop}
use Rattle.std.specs.Prelude.{map}
use Rattle.std.specs.List.{range_with_len}
use Rattle.codes.specs.Link.{link_of}
use Rattle.sender.specs.Block.{symbol_of_parity}
use Rattle.sender.proofs.window.Window.write_parities.Given as goal

abbrev pub invariant-loop-parity : goal.invariant-loop-parity
invariant-loop-parity g l =
    let link = link_of g.A.Arithmetic.operations g.C.Code.shape g.C.Code.coefficients l.self.code.now l.self.symbols in
    let f = symbol_of_parity link l.self.history.now l.self.packet.now in
    let count = l.parity * l.self.symbols in
    l.out ≡ map f (range_with_len 0 count) ++ drop count l.fn.out
