-- Some sends, one after the other. Assumes nothing.
use Rattle.std.proofs.Common.{◌≡◌, ℕ, ◌+◌, ◌≤◌, sym, subst, refl, arith}
use Rattle.std.specs.Prelude.{List, [], length, take, None, Ok, Err}
use Rattle.refusal.specs.declared.Refusal.TheVariants.{ShortMemory}
use Rattle.byte.specs.declared.symbol.ByteSymbol.{ByteSymbol}
use Rattle.byte.specs.Laws.{byte_laws}
use Rattle.galois.specs.Product.{product}
use Rattle.plan.specs.Numbers.{PlanNumbers}
use Rattle.sender.specs.State.{SenderState, fresh}
use Rattle.codes.specs.Shape.{packet_size}
use Rattle.streams.specs.Streams.{IsBlock}
use Rattle.sender.specs.Block.{history_size, recent, block_of, history_after}
use Rattle.sender.specs.Limits.{send_refusal}
use Rattle.sender.specs.Sending.{lent, MakeSays, FollowsStreams, SendSays}
use Rattle.sender.specs.Runs.Run.{made, then_sent, then_refused}
use Rattle.sender.proofs.Streams.{zeros_start, written_block, takes_in, follows_streams}
use Rattle.examples.specs.Streams.{plan, link}
use Rattle.examples.specs.Sends.{link_by, first_packet, second_packet, before, between, unwritten, written, SomeRun, RunExamples}

-- the sender at a slot
abbrev at : ℕ → SenderState PlanNumbers
at next = record { code = plan; symbols = 1; next = next }

making : MakeSays link_by plan 1 (Ok (fresh plan 1))
making = record { refusal = refl; made = refl; starts = λ stream behind. zeros_start link stream behind }

-- what a send says that is carried out
carried_out : (next long : ℕ) (history packet : List ByteSymbol)
    → None ≡ send_refusal link.shape 1 next next (length history) (length packet) (length (unwritten long))
    → history_size link.shape 1 ≤ length history → length packet ≡ packet_size link.shape 1
    → take 3 (written long history packet) ≡ block_of link history packet
    → SendSays {X = Unit {0}} link next packet (lent (at next) history (unwritten long))
    (lent (at (next + 1)) (history_after link history packet) (written long history packet)) (Ok tt)
carried_out next long history packet right reaches whole front =
    let block = sym front in
    let follows = follows_streams link byte_laws next history packet reaches whole in
    record {
      refusal = right;
      unchanged = tt;
      next = refl;
      block = refl;
      history = refl;
      places = subst (IsBlock link (recent link history packet)) block (written_block link history packet reaches whole);
      moves = takes_in link history packet reaches whole;
      streams = subst (λ b. FollowsStreams link next packet history b (history_after link history packet)) block follows;
    }

-- what a send says that is lent no history
refused : SendSays {X = Unit {0}} link 1 second_packet (lent (at 1) [] (unwritten 3)) (lent (at 1) [] (unwritten 3)) (Err ShortMemory)
refused = record { refusal = refl; unchanged = refl; next = tt; block = tt; history = tt; places = tt; moves = tt; streams = tt }

some_run : SomeRun
some_run =
    then_sent 1 second_packet between (unwritten 5)
    (then_refused 1 second_packet [] (unwritten 3) ShortMemory
    (then_sent 0 first_packet before (unwritten 3) (made (fresh plan 1) before making refl) refl
    (carried_out 0 3 before first_packet refl (omega arith) refl refl))
    refused)
    refl
    (carried_out 1 5 between second_packet refl (omega arith) refl refl)

pub run : RunExamples
unfolding product
run = record {
  run = some_run;
  first_left = refl;
  second_left = refl;
  history_between = refl;
  history_after_both = refl;
}
