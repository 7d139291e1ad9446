-- A stream with another packet in one slot; what was heard before that slot does not tell. Assumes nothing.
use Rattle.std.proofs.Common.{◌≡◌, ℕ, ◌+◌, ◌-◌, ◌<◌, inl, inr, sym, ap, ◌∙◌, arith, rules}
use Rattle.std.proofs.lemmas.Bool.{cases_lt}
use Rattle.std.specs.Prelude.{List, if◌then◌else◌, ◌==◌, nat_le}
use Rattle.arithmetic.specs.Laws.{ArithmeticLaws}
use Rattle.codes.specs.Link.{Link}
use Rattle.streams.specs.Streams.{Stream, past, last_packet, Sends, SamePackets}
use Rattle.streams.specs.Logs.{Log, settled, Agrees}
use Rattle.streams.specs.Logs.Log.{none, lost, heard}
use Rattle.streams.proofs.Looking.{block_same, last_before}

-- the stream, with another packet in slot n
abbrev pub put : {S : Type 0} → ℕ → (ℕ → ℕ → S) → Stream S → Stream S
put n packet stream t k i = if t == n then packet k i else stream t k i

-- it is there,
pub put_there : {S : Type 0} (n : ℕ) (packet : ℕ → ℕ → S) (stream : Stream S) (t k i : ℕ) → t ≡ n → put n packet stream t k i ≡ packet k i
put_there n packet stream t k i e = search (rules, e)

-- and before that slot the stream is as it was,
pub put_before : {S : Type 0} (n : ℕ) (packet : ℕ → ℕ → S) (stream : Stream S) (t k i : ℕ) → t < n → put n packet stream t k i ≡ stream t k i
put_before n packet stream t k i l = search (rules, l)

-- the packets before the slot are those of the stream as it was
pub last_put : {F S : Type 0} (link : Link F S) (w m v n : ℕ) → m + v < w + n → (packet : ℕ → ℕ → S) (stream : Stream S) (k i : ℕ)
    → last_packet link w (put n packet stream) m v k i ≡ last_packet link w stream m v k i
last_put link w m v n l packet stream k i = elim (cases_lt (m + v) w) [
  | inl early ↦ last_before link w m v early (put n packet stream) k i ∙ sym (last_before link w m v early stream k i)
  | inr late ↦
      ap (λ x. if nat_le w (m + v) then x else link.operations.symbols.zero)
      (put_before n packet stream (m + v - w) k i (omega arith))
]

-- so it has the same packets there
pub put_front : {F S : Type 0} (link : Link F S) (n : ℕ) (packet : ℕ → ℕ → S) (stream : Stream S)
    → SamePackets link n stream (put n packet stream)
put_front link n packet stream t l k i lk li = sym (put_before n packet stream t k i l)

module _ {F S : Type 0} (link : Link F S) (laws : ArithmeticLaws link.operations) where
  -- streams with the same packets up to slot t send the same block there
  pub sends_front : (one other : Stream S) (t : ℕ) (block : List S) → SamePackets link (t + 1) one other
      → Sends link one t block → Sends link other t block
  sends_front one other t block same =
      block_same link laws (past link one t) (past link other t) block (λ a k i la lk li.
      ap (λ x. if nat_le a t then x else link.operations.symbols.zero) (same (t - a) (omega arith) k i lk li))

  -- streams with the same packets in all settled slots agree with the same logs
  pub agrees_front : (log : Log S) (one other : Stream S) → SamePackets link (settled log) one other
      → Agrees link log one → Agrees link log other
  agrees_front none one other same agrees = tt
  agrees_front (lost log) one other same agrees = agrees_front log one other (λ t l. same t (omega arith)) agrees
  agrees_front (heard log block) one other same (agrees, sends) =
      (agrees_front log one other (λ t l. same t (omega arith)) agrees, sends_front one other (settled log) block same sends)
