-- Repair times on a link that is spread: the slots of each remainder by its step are a link of their own, which runs the code itself.
-- Assumes nothing.
use Rattle.std.proofs.Common.{◌≡◌, ℕ, ◌+◌, ◌*◌, ◌/◌, ◌%◌, ◌<◌, ◌≤◌, Bool, false, sym, subst, ◌∙◌, mod-lt, mul-le-mul_right, add-mul, one-mul, arith}
use Rattle.std.proofs.lemmas.Nat.{div-add-mod'}
use Rattle.codes.specs.Link.{Link}
use Rattle.streams.specs.Streams.{Stream}
use Rattle.streams.specs.Logs.{Log, settled, was_lost, Agrees}
use Rattle.parities.specs.Parities.{parity_of, every}
use Rattle.parities.proofs.Parted.{parted}
use Rattle.repair.specs.Losses.{LossRun, losses}
use Rattle.repair.proofs.Telling.{Tells}
use Rattle.repair.proofs.Allowing.{AllowsRuns, Deadline, shortest}
use Rattle.repair.proofs.Unspread.{repaired_short, repaired_every}
use Rattle.repair.proofs.Remainders.{on_remainder, late_on, runs_apart, allows_on, short_on}
use Rattle.repair.proofs.Heard.{both_send, same_packet, same_parity, lost_late}

-- a code of m sub-symbols and a parity, and its spread by b. Where it is not spread, arrivals tell what those of a plan tell, s is the step
-- of its second sum, and d the deadline. Losses are allowed in the numbers of the spread, and two streams agree with what was heard; p is
-- any place of a sub-symbol
module _ {F S : Type 0} (inner : Link F S) (b m s d : ℕ) (some : 1 ≤ b) (wide : 1 ≤ m)
    (sources : inner.shape.sources ≡ m) (parities : inner.shape.parities ≡ 1)
    (parts : (stream : Stream S) (t r j i : ℕ) → r < b
    → parity_of (parted inner b) stream (t * b + r) j i ≡ parity_of inner (every b r stream) t j i)
    (tells : (one other : Stream S) (t i : ℕ) → parity_of inner one t 0 i ≡ parity_of inner other t 0 i
    → Tells m s (λ u k. one u k i ≡ other u k i) t)
    (deadline : Deadline m s d)
    (log : Log S) (allows : AllowsRuns (was_lost log) b (m * b) ((s + 1) * b) (d * b))
    (one other : Stream S) (agrees : Agrees (parted inner b) log one) (also : Agrees (parted inner b) log other)
    (p : ℕ) (within : p < inner.symbols) where
  -- the slots of remainder r; number h of them is settled
  module _ (r h : ℕ) (small : r < b) (known : h * b + r < settled log) where
    -- which of them were lost, and which of their sub-symbols are known
    abbrev lost : ℕ → Bool
    lost = on_remainder (was_lost log) b r

    abbrev Known : ℕ → ℕ → Type 0
    Known u k = one (u * b + r) k p ≡ other (u * b + r) k p

    -- one that was heard is known, and tells what an arrival tells
    arrived : (t : ℕ) → t ≤ h → lost t ≡ false → ((k : ℕ) → k < m → Known t k) × Tells m s Known t
    arrived t early kept =
        let most : t * b ≤ h * b = mul-le-mul_right b early in
        let slot = t * b + r in
        let (block, (sent, sent_too)) = both_send (parted inner b) one other log agrees also slot (omega (arith, most, known)) kept in (
          λ k lk. same_packet (parted inner b) one other slot block sent sent_too k p (omega (arith, sources)) within,
          tells (every b r one) (every b r other) t p
              (sym (parts one t r 0 p small)
              ∙ same_parity (parted inner b) one other slot block sent sent_too 0 p (omega (arith, parities)) within
              ∙ parts other t r 0 p small),
        )

    -- those that are not settled were not lost
    late : (t : ℕ) → settled log ≤ t → lost t ≡ false
    late = late_on (was_lost log) (settled log) b r (lost_late log) some

    -- and what was lost is allowed, in numbers b times smaller
    allowed_there : AllowsRuns lost 1 m (s + 1) d
    allowed_there = allows_on (was_lost log) (settled log) b m (s + 1) d r (lost_late log) wide (shortest m s d deadline) allows

    -- so one that is lost alone is known m of these slots later,
    short_there : (j k : ℕ) → k < m → LossRun lost j j → j + m ≤ h → Known j k
    short_there j k lk run due =
        repaired_short m s d (settled log) h lost late Known arrived deadline allowed_there
        j j j k lk run (omega arith) (omega arith) (omega arith) due

    -- and any one d later
    any_there : (j k : ℕ) → k < m → j + d ≤ h → Known j k
    any_there j k lk due = repaired_every m s d (settled log) h lost late Known arrived deadline allowed_there j k lk due

  -- each slot is one of those of its remainder
  split : (i : ℕ) → i / b * b + i % b ≡ i
  split i = div-add-mod' i b

  -- and that is below b
  rest : (i : ℕ) → i % b < b
  rest i = mod-lt i (omega (arith, some))

  -- a packet of a short run is repaired m * b slots later
  pub of_short : (a e i k : ℕ) → k < m → LossRun (was_lost log) a e → losses a e ≤ b → a ≤ i → i ≤ e → i + m * b < settled log
      → one i k p ≡ other i k p
  of_short a e i k lk run short from to due =
      let w = split i in
      let gap : 1 * b ≤ m * b = mul-le-mul_right b wide in
      let longer : m * b ≤ d * b = mul-le-mul_right b (shortest m s d deadline) in
      let least : b ≤ m * b = omega (arith, gap, one-mul b) in
      let apart = runs_apart (was_lost log) b (m * b) ((s + 1) * b) (d * b) b least (omega (arith, least, longer)) allows in
      let alone =
      short_on (was_lost log) a e run b (i % b) (settled log) (lost_late log) apart short (i / b) (omega (arith, w, from)) (omega (arith, w, to)) in
      subst (λ (n : ℕ). one n k p ≡ other n k p) w
      (short_there (i % b) (i / b + m) (rest i) (omega (arith, w, due, add-mul (i / b) m b)) (i / b) k lk alone (omega arith))

  -- any packet d * b slots later
  pub of_any : (i k : ℕ) → k < m → i + d * b < settled log → one i k p ≡ other i k p
  of_any i k lk due =
      let w = split i in
      subst (λ (n : ℕ). one n k p ≡ other n k p) w
      (any_there (i % b) (i / b + d) (rest i) (omega (arith, w, due, add-mul (i / b) d b)) (i / b) k lk (omega arith))
