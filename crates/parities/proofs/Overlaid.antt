-- The parities of an overlay. Assumes nothing.
use Rattle.std.proofs.Common.{◌≡◌, ℕ, ◌+◌, ◌-◌, ◌^◌, ◌<◌, ◌≤◌, inl, inr, sym, ap, ap₂, ◌∙◌, arith, rules}
use Rattle.std.specs.Prelude.{max, nat_le, if◌then◌else◌}
use Rattle.std.proofs.lemmas.Bool.{cases_lt, cond-true, cond-false}
use Rattle.arithmetic.specs.Laws.{ArithmeticLaws}
use Rattle.arithmetic.specs.Totals.{sum_below}
use Rattle.arithmetic.proofs.Sums.{sum_same, sum_zero, sum_plus, sum_split, plus_zero}
use Rattle.codes.specs.Link.{Link}
use Rattle.codes.specs.Parity.{sum_of_age, term}
use Rattle.codes.specs.Coefficients.{overlay, overlay_shape}
use Rattle.codes.specs.Bounded.{overlay_bounded}
use Rattle.streams.specs.Streams.{Stream, past}
use Rattle.arithmetic.proofs.Scaling.{scale_by_zero}
use Rattle.parities.specs.Parities.{parity_of}
use Rattle.parities.specs.Laws.{Bounded, OverlayLaw}
use Rattle.parities.proofs.Reaching.{longer_sum, before_all, packet_ago, to_slot}

-- what two links run, on top of each other, the second delayed by d slots
abbrev pub overlaid : {F S : Type 0} → Link F S → Link F S → ℕ → Link F S
overlaid first second d = record first {
  shape = overlay_shape first.shape second.shape d;
  coefficients = overlay first.operations.coefficients first.coefficients second.coefficients d;
}

module _ {F S : Type 0} (first other : Link F S) (laws : ArithmeticLaws first.operations) (bounded : Bounded first)
    (other_bounded : Bounded (record other { operations = first.operations })) (d : ℕ) where
  abbrev second : Link F S
  second = record other { operations = first.operations }

  abbrev whole : Link F S
  whole = overlaid first second d

  all_bounded : Bounded whole
  all_bounded =
      overlay_bounded first.operations.coefficients laws.coefficients first.shape second.shape first.coefficients second.coefficients d bounded other_bounded

  -- what an age adds for the second code: nothing before the delay
  abbrev later_term : Stream S → ℕ → ℕ → ℕ → ℕ → ℕ → S
  later_term stream t j i a k =
      first.operations.scale (if nat_le d a then second.coefficients j (a - d) k else first.operations.coefficients.zero)
      (past first stream t a k i)

  abbrev later : Stream S → ℕ → ℕ → ℕ → ℕ → S
  later stream t j i a = sum_below first.operations.symbols second.shape.sources (later_term stream t j i a)

  later_zero : (stream : Stream S) (t j i a k : ℕ) → a < d → later_term stream t j i a k ≡ first.operations.symbols.zero
  later_zero stream t j i a k early =
      let zero = first.operations.coefficients.zero in
      ap (λ c. first.operations.scale c (past first stream t a k i))
      (cond-false (nat_le d a) (second.coefficients j (a - d) k) zero (search (rules, early)))
      ∙ scale_by_zero first.operations laws (past first stream t a k i)

  -- from the delay on, it is what the second code adds, looking back from d slots earlier
  later_is : (stream : Stream S) (t j i b : ℕ) → d ≤ t → later stream t j i (d + b) ≡ sum_of_age second (past second stream (t - d)) j i b
  later_is stream t j i b late =
      let zero = first.operations.coefficients.zero in
      let on : d ≤ d + b = omega arith in
      let rest : d + b - d ≡ b = omega arith in
      sum_same first.operations.symbols laws.symbols second.shape.sources _ _ (λ k lk.
      ap₂ first.operations.scale
      (cond-true (nat_le d (d + b)) (second.coefficients j (d + b - d) k) zero (search (rules, on)) ∙ ap (λ a. second.coefficients j a k) rest)
      (same_past stream t b k i late))
    where
      same_past : (stream : Stream S) (t b k i : ℕ) → d ≤ t → past first stream t (d + b) k i ≡ past second stream (t - d) b k i
      same_past stream t b k i late = elim (cases_lt (t - d) b) [
        | inl early ↦
            before_all first laws stream t (d + b) k i (omega arith) ∙ sym (before_all second laws stream (t - d) b k i early)
        | inr there ↦
            let same : t - (d + b) ≡ t - d - b = omega arith in
            packet_ago first laws stream t (d + b) k i (omega arith)
            ∙ ap (λ s. stream s k i) same ∙ sym (packet_ago second laws stream (t - d) b k i there)
      ]

  -- an age adds what it adds for the first code, and what it adds for the second
  both_ages : (stream : Stream S) (t j i a : ℕ) → a < 2 ^ 32
      → sum_of_age whole (past whole stream t) j i a
      ≡ first.operations.symbols.plus (sum_of_age first (past first stream t) j i a) (later stream t j i a)
  both_ages stream t j i a small =
      let s = first.operations.symbols in
      let most = max first.shape.sources second.shape.sources in
      let ours = term first (past first stream t) j i a in
      let theirs = later_term stream t j i a in
      sum_same s laws.symbols most _ _ (λ k lk.
      laws.scaling.over_coefficients (first.coefficients j a k) (if nat_le d a then second.coefficients j (a - d) k else first.operations.coefficients.zero)
      (past first stream t a k i))
      ∙ sum_plus s laws.symbols most ours theirs
      ∙ ap₂ s.plus
      (longer_sum s laws.symbols first.shape.sources most ours (search rules) (λ k beyond lk.
      ap (λ c. first.operations.scale c (past first stream t a k i)) (bounded j a k small (inr (inl beyond)))
      ∙ scale_by_zero first.operations laws (past first stream t a k i)))
      (longer_sum s laws.symbols second.shape.sources most theirs (search rules) (λ k beyond lk. elim (cases_lt a d) [
        | inl early ↦ later_zero stream t j i a k early
        | inr late ↦
            let zero = first.operations.coefficients.zero in
            ap (λ c. first.operations.scale c (past first stream t a k i))
            (cond-true (nat_le d a) (second.coefficients j (a - d) k) zero (search (rules, late))
            ∙ other_bounded j (a - d) k (omega arith) (inr (inl beyond)))
            ∙ scale_by_zero first.operations laws (past first stream t a k i)
      ]))

  -- a parity of the whole
  added_up : (stream : Stream S) (t j i : ℕ) → t < 2 ^ 32
      → parity_of whole stream t j i
      ≡ first.operations.symbols.plus (parity_of first stream t j i) (sum_below first.operations.symbols (t + 1) (later stream t j i))
  added_up stream t j i small =
      let s = first.operations.symbols in
      to_slot whole laws all_bounded stream t j i small
      ∙ sum_same s laws.symbols (t + 1) _ _ (λ a la. both_ages stream t j i a (omega arith))
      ∙ sum_plus s laws.symbols (t + 1) (sum_of_age first (past first stream t) j i) (later stream t j i)
      ∙ ap (λ x. s.plus x (sum_below s (t + 1) (later stream t j i))) (sym (to_slot first laws bounded stream t j i small))

  none_before : (stream : Stream S) (t j i n : ℕ) → n ≤ d → sum_below first.operations.symbols n (later stream t j i) ≡ first.operations.symbols.zero
  none_before stream t j i n early =
      let s = first.operations.symbols in
      sum_zero s laws.symbols n (later stream t j i) (λ a la.
      sum_zero s laws.symbols second.shape.sources _ (λ k lk. later_zero stream t j i a k (omega arith)))

  pub overlay_law : OverlayLaw whole first second d
  overlay_law = record {
    both = λ stream t j i slot late.
        let s = first.operations.symbols in
        let ages : d + (t - d + 1) ≡ t + 1 = omega arith in
        let mine = parity_of first stream t j i in
        added_up stream t j i (omega arith)
        ∙ ap (s.plus mine)
        (ap (λ n. sum_below s n (later stream t j i)) (sym ages)
        ∙ sum_split s laws.symbols d (t - d + 1) (later stream t j i)
        ∙ ap₂ s.plus (none_before stream t j i d (omega arith))
        (sum_same s laws.symbols (t - d + 1) _ _ (λ b lb. later_is stream t j i b late))
        ∙ laws.symbols.zero_plus (sum_below s (t - d + 1) (sum_of_age second (past second stream (t - d)) j i))
        ∙ sym (to_slot second laws other_bounded stream (t - d) j i (omega arith)));
    early = λ stream t j i slot early.
        let s = first.operations.symbols in
        let mine = parity_of first stream t j i in
        added_up stream t j i (omega arith)
        ∙ ap (s.plus mine) (none_before stream t j i (t + 1) (omega arith))
        ∙ plus_zero s laws.symbols mine;
  }
