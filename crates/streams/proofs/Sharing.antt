-- What streams that agree share. Assumes nothing.
use Rattle.std.proofs.Common.{ℕ, sym, ◌∙◌}
use Rattle.std.specs.Prelude.{List}
use Rattle.codes.specs.Link.{Link}
use Rattle.streams.specs.Streams.{Stream, past, HasPacket}
use Rattle.streams.specs.Logs.{Log, Agrees, IsKnown, AllShare}
use Rattle.streams.specs.Law.{ShareLaw}
use Rattle.streams.proofs.Looking.{past_now}
use Rattle.streams.proofs.Blocks.{the_block, some_block}

module _ {F S : Type 0} (link : Link F S) where
  -- the block of a slot begins with its packet
  begins : (stream : Stream S) (t : ℕ) → HasPacket link stream t (the_block link (past link stream t))
  begins stream t k i lk li = (some_block link (past link stream t)).packet k i lk li ∙ past_now link stream t k i

  -- what all share is what the stream at hand has
  known_if : (log : Log S) (t : ℕ) (stream : Stream S) → Agrees link log stream → AllShare link log t
      → (packet : List S) × IsKnown link log t packet
  known_if log t stream agrees share =
      (the_block link (past link stream t), λ other also k i lk li. begins stream t k i lk li ∙ share stream other agrees also k i lk li)

  -- and all have what is known
  shared_if : (log : Log S) (t : ℕ) (packet : List S) → IsKnown link log t packet → AllShare link log t
  shared_if log t packet known one other agrees also k i lk li = sym (known one agrees k i lk li) ∙ known other also k i lk li

  -- so what is shared is known, and no two differ in it
  pub share_law : ShareLaw link
  share_law = record {
    known = λ log t stream agrees. (known_if log t stream agrees, λ (packet, known). shared_if log t packet known);
    alike = λ log t share two.
        two.differ (share two.one two.other two.one_agrees two.other_agrees two.sub two.place two.sub_within two.place_within);
  }
