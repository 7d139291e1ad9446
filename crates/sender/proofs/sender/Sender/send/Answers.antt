use Rattle.std.proofs.Common.{◌≡◌, ℕ, ◌*◌, ◌≤◌, ◌++◌, length, take, drop, inl, inr, sym, ap, ◌∙◌, subst, mul-le-mul_right, one-mul, arith, rules}
use Rattle.std.proofs.lemmas.Bool.{cases_eq}
use Rattle.std.proofs.lemmas.List.{length-take-le, take_at}
use Rattle.fills.specs.Over.{written_over}
use Rattle.codes.specs.Shape.{packet_size, block_size}
use Rattle.codes.specs.Link.{link_of}
use Rattle.streams.specs.Streams.{IsBlock}
use Rattle.sender.specs.Block.{history_size, recent, block_of, history_after}
use Rattle.sender.specs.Sending.{FollowsStreams, TakesIn}
use Rattle.sender.proofs.Streams.{block_whole, written_block, takes_in, follows_streams}
use Rattle.sender.proofs.sender.Sender.send.Goals as goal

pub advance-requires : goal.advance-requires
advance-requires g c =
    let sender = c.args.self.now in
    let shape = g.C.Code.shape sender.code in
    let one = packet_size shape sender.symbols in
    let kept = length-take-le c.history_size-kept.result c.args.history.now (omega arith) in
    elim (cases_eq shape.memory 0) [
      | inl none ↦ let e = ap (λ (m : ℕ). m * one) none in inl (omega arith)
      | inr some ↦ let h : 1 * one ≤ shape.memory * one = mul-le-mul_right one (omega arith) in inr (omega (arith, one-mul one))
    ]

pub returns : goal.returns
returns g c =
    let sender = c.args.self.now in
    let link = link_of g.A.Arithmetic.operations g.C.Code.shape g.C.Code.coefficients sender.code sender.symbols in
    let history = c.args.history.now in
    let packet = c.args.packet.now in
    let after = c.advance.new.history ++ drop c.history_size-kept.result history in
    let size = block_size link.shape link.symbols in
    let whole : length packet ≡ packet_size link.shape link.symbols = omega arith in
    let reaches : history_size link.shape link.symbols ≤ length history = omega arith in
    let written : c.write_block.new.out ≡ written_over (block_of link history packet) c.args.out.now = search rules in
    let block : take size c.write_block.new.out ≡ block_of link history packet =
    ap (take size) written
    ∙ take_at (block_of link history packet) _ size (block_whole link history packet reaches whole) in
    let kept : after ≡ history_after link history packet = search rules in
    record {
      refusal = search rules;
      unchanged = tt;
      next = search rules;
      block = written;
      history = kept;
      places = subst (IsBlock link (recent link history packet)) (sym block) (written_block link history packet reaches whole);
      moves = subst (TakesIn link packet history) (sym kept) (takes_in link history packet reaches whole);
      streams =
          subst (λ b. FollowsStreams link c.args.slot packet history b after) (sym block)
          (subst (λ h. FollowsStreams link c.args.slot packet history (block_of link history packet) h) (sym kept)
          (follows_streams link g.met.A.Arithmetic.laws c.args.slot history packet reaches whole));
    }
