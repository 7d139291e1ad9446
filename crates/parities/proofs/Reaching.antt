-- How far a parity reaches: as far as one likes, from the memory or from the slot itself on. Assumes nothing.
use Rattle.std.proofs.Common.{◌≡◌, ℕ, ◌+◌, ◌-◌, ◌^◌, ◌<◌, ◌≤◌, inl, inr, sym, ap, ◌∙◌, arith, rules}
use Rattle.std.specs.Prelude.{nat_le}
use Rattle.std.proofs.lemmas.Bool.{cases_lt, cond-true, cond-false}
use Rattle.arithmetic.specs.Operations.{Sums}
use Rattle.arithmetic.specs.Laws.{SumLaws, ArithmeticLaws}
use Rattle.arithmetic.specs.Totals.{sum_below}
use Rattle.arithmetic.proofs.Sums.{plus_zero, sum_zero, sum_split}
use Rattle.codes.specs.Link.{Link}
use Rattle.codes.specs.Parity.{sum_of_age}
use Rattle.streams.specs.Streams.{Stream, past}
use Rattle.arithmetic.proofs.Scaling.{scale_nothing, scale_by_zero}
use Rattle.parities.specs.Parities.{parity_of}
use Rattle.parities.specs.Laws.{Bounded}

-- terms that are zero add nothing
pub longer_sum : {X : Type 0} (s : Sums X) (laws : SumLaws s) (m n : ℕ) (f : ℕ → X) → m ≤ n → ((u : ℕ) → m ≤ u → u < n → f u ≡ s.zero)
    → sum_below s n f ≡ sum_below s m f
longer_sum s laws m n f l zeros =
    let all : m + (n - m) ≡ n = omega arith in
    ap (λ k. sum_below s k f) (sym all)
    ∙ sum_split s laws m (n - m) f
    ∙ ap (s.plus (sum_below s m f)) (sum_zero s laws (n - m) (λ u. f (m + u)) (λ u k. zeros (m + u) (omega arith) (omega arith)))
    ∙ plus_zero s laws (sum_below s m f)

module _ {F S : Type 0} (link : Link F S) (laws : ArithmeticLaws link.operations) where
  -- where all sub-symbols are zero, an age adds nothing
  pub age_of_zeros : (ago : ℕ → ℕ → ℕ → S) (j i a : ℕ) → ((k : ℕ) → k < link.shape.sources → ago a k i ≡ link.operations.symbols.zero)
      → sum_of_age link ago j i a ≡ link.operations.symbols.zero
  age_of_zeros ago j i a zeros =
      sum_zero link.operations.symbols laws.symbols link.shape.sources _ (λ k lk.
      ap (link.operations.scale (link.coefficients j a k)) (zeros k lk) ∙ scale_nothing link.operations laws (link.coefficients j a k))

  -- nor does one beyond the memory
  pub age_beyond : Bounded link → (ago : ℕ → ℕ → ℕ → S) (j i a : ℕ) → link.shape.memory < a → a < 2 ^ 32
      → sum_of_age link ago j i a ≡ link.operations.symbols.zero
  age_beyond bounded ago j i a beyond small =
      sum_zero link.operations.symbols laws.symbols link.shape.sources _ (λ k lk.
      ap (λ c. link.operations.scale c (ago a k i)) (bounded j a k small (inr (inr beyond))) ∙ scale_by_zero link.operations laws (ago a k i))

  -- before slot 0 all is zero
  pub before_all : (stream : Stream S) (t a k i : ℕ) → t < a → past link stream t a k i ≡ link.operations.symbols.zero
  before_all stream t a k i early = cond-false (nat_le a t) (stream (t - a) k i) link.operations.symbols.zero (search (rules, early))

  -- the packet a slots ago, where there is one
  pub packet_ago : (stream : Stream S) (t a k i : ℕ) → a ≤ t → past link stream t a k i ≡ stream (t - a) k i
  packet_ago stream t a k i late = cond-true (nat_le a t) (stream (t - a) k i) link.operations.symbols.zero (search (rules, late))

  pub to_age : Bounded link → (stream : Stream S) (t j i n : ℕ) → link.shape.memory ≤ n → n < 2 ^ 32
      → parity_of link stream t j i ≡ sum_below link.operations.symbols (n + 1) (sum_of_age link (past link stream t) j i)
  to_age bounded stream t j i n reaches small =
      sym (longer_sum link.operations.symbols laws.symbols (link.shape.memory + 1) (n + 1) (sum_of_age link (past link stream t) j i) (omega arith)
      (λ a la ln. age_beyond bounded (past link stream t) j i a (omega arith) (omega arith)))

  -- a parity is the sum over the ages that the stream has, whatever the memory
  pub to_slot : Bounded link → (stream : Stream S) (t j i : ℕ) → t < 2 ^ 32
      → parity_of link stream t j i ≡ sum_below link.operations.symbols (t + 1) (sum_of_age link (past link stream t) j i)
  to_slot bounded stream t j i small = elim (cases_lt t link.shape.memory) [
    | inl early ↦
        longer_sum link.operations.symbols laws.symbols (t + 1) (link.shape.memory + 1) (sum_of_age link (past link stream t) j i) (omega arith)
        (λ a la ln. age_of_zeros (past link stream t) j i a (λ k lk. before_all stream t a k i (omega arith)))
    | inr late ↦ to_age bounded stream t j i t late small
  ]
