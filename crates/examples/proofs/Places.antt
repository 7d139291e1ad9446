-- Examples place by place. Assumes nothing.
use Rattle.std.proofs.Common.{◌≡◌, ℕ, zero, suc, ◌+◌, ◌<◌, sym, ◌∙◌, arith}
use Rattle.std.specs.Prelude.{List, length}
use Rattle.codes.specs.Link.{Link}
use Rattle.codes.specs.Parity.{parity}
use Rattle.codes.specs.Shape.{block_size}
use Rattle.streams.specs.Streams.{Stream, past, symbol_at, Sends}
use Rattle.streams.proofs.Looking.{past_now}

-- what holds of each number below n, one after the other
abbrev pub Each : ℕ → (ℕ → Type 0) → Type 0
Each zero P = Unit {0}
Each (suc n) P = P 0 × Each n (λ i. P (suc i))

pub each : (n : ℕ) (P : ℕ → Type 0) → Each n P → (i : ℕ) → i < n → P i
each zero P all i li = absurd (omega arith)
each (suc n) P (first, others) zero li = first
each (suc n) P (first, others) (suc i) li = each n (λ i. P (suc i)) others i (omega arith)

-- a block is sent, if the values of its symbols are those of the stream's packet and parities, place by place
pub sends : {F S : Type 0} (value : S → ℕ) → ((x y : S) → value x ≡ value y → x ≡ y)
    → (link : Link F S) (stream : Stream S) (t : ℕ) (block : List S)
    → length block ≡ block_size link.shape link.symbols
    → Each link.shape.sources (λ k. Each link.symbols (λ i. value (symbol_at link block k i) ≡ value (stream t k i)))
    → Each link.shape.parities (λ j. Each link.symbols (λ i. value (symbol_at link block (link.shape.sources + j) i) ≡ value (parity link (past link stream t) j i)))
    → Sends link stream t block
sends value same link stream t block whole packet parities = record {
  whole = whole;
  packet = λ k i lk li.
      let P : ℕ → ℕ → Type 0 = λ k i. value (symbol_at link block k i) ≡ value (stream t k i) in
      same _ _ (each link.symbols (P k) (each link.shape.sources (λ k. Each link.symbols (P k)) packet k lk) i li)
      ∙ sym (past_now link stream t k i);
  parities = λ j i lj li.
      let P : ℕ → ℕ → Type 0 = λ j i. value (symbol_at link block (link.shape.sources + j) i) ≡ value (parity link (past link stream t) j i) in
      same _ _ (each link.symbols (P j) (each link.shape.parities (λ j. Each link.symbols (P j)) parities j lj) i li);
}
