use Rattle.std.proofs.Common.{sym, ap, ◌∙◌}
use Rattle.std.specs.Slice.Iter.{chunks_exact_rest}
use Rattle.hextext.specs.Digits.{all_digits}
use Rattle.hextext.proofs.Checks.{digits_apart}
use Rattle.hextext.proofs.Sizes.{whole_left}
use Rattle.hextext.proofs.Texts.{packet_more}
use Rattle.hextext.proofs.read.read_packet.Goals as goal

pub read_symbol-requires-clause-digits : goal.read_symbol-requires-clause-digits
read_symbol-requires-clause-digits g c =
    let apart = c.in-Some.ensures.steps.1.0 in
    (digits_apart c.in-Some.symbol.now (chunks_exact_rest c.next.new.self) (sym (ap all_digits apart) ∙ c.loop-symbol.invariant.hex)).0

pub loop-symbol-preserved : goal.loop-symbol-preserved
loop-symbol-preserved g c =
    let was = chunks_exact_rest c.loop-symbol.symbol-iterator in
    let front = c.in-Some.symbol.now in
    let rest = chunks_exact_rest c.next.new.self in
    let steps = c.in-Some.ensures.steps in
    let apart = steps.1.0 in
    record {
      size = steps.0 ∙ c.loop-symbol.invariant.size;
      whole = whole_left was front rest _ apart (steps.1.1 ∙ c.loop-symbol.invariant.size) c.loop-symbol.invariant.whole;
      hex = (digits_apart front rest (sym (ap all_digits apart) ∙ c.loop-symbol.invariant.hex)).1;
      so_far =
          packet_more g.A.Arithmetic.bytes c.args.text.now was front rest c.loop-symbol.symbols.items c.push.new.self.items c.read_symbol.result
          c.loop-symbol.invariant.so_far apart c.read_symbol.ensures c.in_ok-push.ensures.items;
    }
