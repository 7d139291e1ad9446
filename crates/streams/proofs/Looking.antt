-- Looking back in a stream. Assumes nothing.
use Rattle.std.proofs.Common.{◌≡◌, ℕ, ◌+◌, ◌-◌, ◌<◌, ◌≤◌, inl, inr, sym, ap, ◌∙◌, arith, rules}
use Rattle.std.specs.Prelude.{List, if◌then◌else◌, nat_le}
use Rattle.std.proofs.lemmas.Bool.{cases_lt, cond-true, cond-false}
use Rattle.arithmetic.specs.Laws.{ArithmeticLaws}
use Rattle.arithmetic.proofs.Sums.{sum_same}
use Rattle.codes.specs.Link.{Link}
use Rattle.codes.specs.Parity.{parity}
use Rattle.streams.specs.Streams.{Stream, past, IsBlock, last_packet}

module _ {F S : Type 0} (link : Link F S) where
  -- two ways to look back that are the same as far as the memory reaches have the same parities
  pub parity_same : (laws : ArithmeticLaws link.operations) (f g : ℕ → ℕ → ℕ → S) (j i : ℕ) → ((a k : ℕ) → a ≤ link.shape.memory → k < link.shape.sources → f a k i ≡ g a k i)
      → parity link f j i ≡ parity link g j i
  parity_same laws f g j i same =
      sum_same link.operations.symbols laws.symbols (link.shape.memory + 1) _ _ (λ a la.
      sum_same link.operations.symbols laws.symbols link.shape.sources _ _ (λ k lk. ap (link.operations.scale (link.coefficients j a k)) (same a k (omega arith) lk)))

  -- and the same blocks
  pub block_same : (laws : ArithmeticLaws link.operations) (f g : ℕ → ℕ → ℕ → S) (block : List S)
      → ((a k i : ℕ) → a ≤ link.shape.memory → k < link.shape.sources → i < link.symbols → f a k i ≡ g a k i)
      → IsBlock link f block → IsBlock link g block
  block_same laws f g block same is = record {
    whole = is.whole;
    packet = λ k i lk li. is.packet k i lk li ∙ same 0 k i (omega arith) lk li;
    parities = λ j i lj li. is.parities j i lj li ∙ parity_same laws f g j i (λ a k la lk. same a k i la lk li);
  }

  -- the slot's own packet has age 0
  pub past_now : (stream : Stream S) (t k i : ℕ) → past link stream t 0 k i ≡ stream t k i
  past_now stream t k i =
      let h : 0 ≤ t = omega arith in
      cond-true (nat_le 0 t) (stream (t - 0) k i) link.operations.symbols.zero (search (rules, h)) ∙ ap (λ u. stream u k i) (omega arith)

  -- number v of the last w packets before slot m is the packet a slots before slot n, where both are the same slot
  pub last_is_past : (w m v n a : ℕ) → m + v + a ≡ n + w → (stream : Stream S) (k i : ℕ)
      → last_packet link w stream m v k i ≡ past link stream n a k i
  last_is_past w m v n a e stream k i =
      let zero = link.operations.symbols.zero in
      elim (cases_lt n a) [
        | inl early ↦
            let h : m + v < w = omega arith in
            cond-false (nat_le w (m + v)) (stream (m + v - w) k i) zero (search (rules, h))
            ∙ sym (cond-false (nat_le a n) (stream (n - a) k i) zero (search (rules, early)))
        | inr late ↦
            let h : w ≤ m + v = omega arith in
            let same : m + v - w ≡ n - a = omega arith in
            cond-true (nat_le w (m + v)) (stream (m + v - w) k i) zero (search (rules, h)) ∙ ap (λ t. stream t k i) same
            ∙ sym (cond-true (nat_le a n) (stream (n - a) k i) zero (search (rules, late)))
      ]

  -- a slot later, a packet's number is one less
  pub last_moves : (w n v : ℕ) (stream : Stream S) (k i : ℕ) → last_packet link w stream n (v + 1) k i ≡ last_packet link w stream (n + 1) v k i
  last_moves w n v stream k i =
      let e : n + (v + 1) ≡ n + 1 + v = omega arith in
      ap (λ m. if nat_le w m then stream (m - w) k i else link.operations.symbols.zero) e

  -- below slot 0 all is zero
  pub last_before : (w n v : ℕ) → n + v < w → (stream : Stream S) (k i : ℕ) → last_packet link w stream n v k i ≡ link.operations.symbols.zero
  last_before w n v early stream k i = cond-false (nat_le w (n + v)) (stream (n + v - w) k i) link.operations.symbols.zero (search (rules, early))
