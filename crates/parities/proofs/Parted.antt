-- The parities of a spread. Assumes nothing.
use Rattle.std.proofs.Common.{◌≡◌, ℕ, zero, suc, ◌+◌, ◌-◌, ◌*◌, ◌/◌, ◌%◌, ◌<◌, ◌≤◌, ◌≢◌, inl, inr, sym, ap, ap₂, ◌∙◌, add-mul, one-mul, mul-one, mul_comm, mul-le-mul_left, mul-le-mul_right, mod-eq_of_lt, arith}
use Rattle.std.specs.Prelude.{◌==◌}
use Rattle.std.proofs.lemmas.Bool.{cases_lt, cond-true, cond-false, eq-eqb, ne_eqb}
use Rattle.std.proofs.lemmas.Nat.{div-mul-add, mod-mul-add}
use Rattle.arithmetic.specs.Operations.{Sums}
use Rattle.arithmetic.specs.Laws.{SumLaws, ArithmeticLaws}
use Rattle.arithmetic.specs.Totals.{sum_below}
use Rattle.arithmetic.proofs.Sums.{sum_same, sum_zero, sum_only, sum_split}
use Rattle.codes.specs.Shape.{capped}
use Rattle.codes.specs.Link.{Link}
use Rattle.codes.specs.Parity.{sum_of_age}
use Rattle.codes.specs.Coefficients.{spread, spread_shape}
use Rattle.codes.specs.Bounded.{spread_bounded}
use Rattle.streams.specs.Streams.{Stream, past}
use Rattle.arithmetic.proofs.Scaling.{scale_by_zero}
use Rattle.parities.specs.Parities.{parity_of, every}
use Rattle.parities.specs.Laws.{Bounded, SpreadLaw}
use Rattle.parities.proofs.Reaching.{age_of_zeros, before_all, packet_ago, to_slot}

-- what lies between two multiples of g is no multiple
between : (q g r : ℕ) → 0 < r → r < g → (q * g + r) % g ≢ 0
between q g r pos l e = let rest = mod-mul-add q g r l in omega arith

-- of a sum whose terms are zero but for each g-th, these are what counts
pub every_term : {X : Type 0} (s : Sums X) (laws : SumLaws s) (g r n : ℕ) (f : ℕ → X) → r < g → ((a : ℕ) → a % g ≢ 0 → f a ≡ s.zero)
    → sum_below s (n * g + r + 1) f ≡ sum_below s (n + 1) (λ b. f (b * g))
every_term s laws g r zero f l zeros =
    ap (λ m. sum_below s m f) (omega arith)
    ∙ sum_only s laws (r + 1) 0 f (omega arith) (λ u lu other. zeros u (inside u (omega arith) (omega arith)))
    ∙ sym (laws.zero_plus (f 0))
    ∙ ap (λ m. s.plus s.zero (f m)) (omega arith) where
      inside : (u : ℕ) → 0 < u → u < g → u % g ≢ 0
      inside u pos lu e = let same = mod-eq_of_lt lu in omega arith
every_term s laws g r (suc n) f l zeros =
    let all : n * g + r + 1 + g ≡ suc n * g + r + 1 = omega (arith, add-mul n 1 g, one-mul g) in
    ap (λ m. sum_below s m f) (sym all)
    ∙ sum_split s laws (n * g + r + 1) g f
    ∙ ap₂ s.plus (every_term s laws g r n f l zeros) last
    ∙ ap (λ m. sum_below s m (λ b. f (b * g))) one_more where
      one_more : suc (n + 1) ≡ suc n + 1
      one_more = omega arith

      last : sum_below s g (λ u. f (n * g + r + 1 + u)) ≡ f ((n + 1) * g)
      last =
          let here : n * g + r + 1 + (g - r - 1) ≡ (n + 1) * g = omega (arith, add-mul n 1 g, one-mul g) in
          sum_only s laws g (g - r - 1) (λ u. f (n * g + r + 1 + u)) (omega arith) (λ u lu other.
          zeros (n * g + r + 1 + u) (apart u lu other))
          ∙ ap f here
        where
          apart : (u : ℕ) → u < g → u ≢ g - r - 1 → (n * g + r + 1 + u) % g ≢ 0
          apart u lu other e = elim (cases_lt (r + 1 + u) g) [
            | inl same ↦
                between n g (r + 1 + u) (omega arith) same (ap (λ (m : ℕ). m % g) (omega arith) ∙ e)
            | inr next ↦
                between (suc n) g (r + 1 + u - g) (omega arith) (omega arith)
                (ap (λ (m : ℕ). m % g) (omega (arith, add-mul n 1 g, one-mul g)) ∙ e)
          ]

-- what a link runs, spread by g
abbrev pub parted : {F S : Type 0} → Link F S → ℕ → Link F S
parted inner g = record inner {
  shape = spread_shape inner.shape g;
  coefficients = spread inner.operations.coefficients inner.coefficients g;
}

module _ {F S : Type 0} (inner : Link F S) (laws : ArithmeticLaws inner.operations) (g : ℕ) where
  abbrev whole : Link F S
  whole = parted inner g

  -- an age between adds nothing
  age_between : (ago : ℕ → ℕ → ℕ → S) (j i a : ℕ) → a % g ≢ 0 → sum_of_age whole ago j i a ≡ inner.operations.symbols.zero
  age_between ago j i a other =
      let none = inner.operations.coefficients.zero in
      sum_zero inner.operations.symbols laws.symbols inner.shape.sources _ (λ k lk.
      ap (λ c. inner.operations.scale c (ago a k i)) (cond-false (a % g == 0) (inner.coefficients j (a / g) k) none (ne_eqb (a % g) 0 other))
      ∙ scale_by_zero inner.operations laws (ago a k i))

  -- a multiple of g adds what the code itself adds, looking back on these slots alone
  age_of_multiple : (stream : Stream S) (t r j i b : ℕ) → r < g → b ≤ t
      → sum_of_age whole (past whole stream (t * g + r)) j i (b * g) ≡ sum_of_age inner (past inner (every g r stream) t) j i b
  age_of_multiple stream t r j i b lr lb =
      let none = inner.operations.coefficients.zero in
      let rest = mod-mul-add b g 0 (omega arith) in
      let times = div-mul-add b g 0 (omega arith) in
      let whole_age : b * g % g ≡ 0 = ap (λ (m : ℕ). m % g) (omega arith) ∙ rest in
      let steps : b * g / g ≡ b = ap (λ (m : ℕ). m / g) (omega arith) ∙ times in
      let most = mul-le-mul_right g lb in
      let parts = add-mul (t - b) b g in
      let split = ap (λ (m : ℕ). m * g) (back_on t b lb) in
      let slot : t * g + r - b * g ≡ (t - b) * g + r = omega arith in
      sum_same inner.operations.symbols laws.symbols inner.shape.sources _ _ (λ k lk.
      ap₂ inner.operations.scale
      (cond-true (b * g % g == 0) (inner.coefficients j (b * g / g) k) none (eq-eqb (b * g % g) 0 whole_age) ∙ ap (λ a. inner.coefficients j a k) steps)
      (packet_ago inner laws stream (t * g + r) (b * g) k i (omega arith)
      ∙ ap (λ u. stream u k i) slot
      ∙ sym (packet_ago inner laws (every g r stream) t b k i lb)))
    where
      back_on : (t b : ℕ) → b ≤ t → t - b + b ≡ t
      back_on t b lb = omega arith

  -- nor does it matter how far back that is: what lies before slot 0 adds nothing to either
  any_multiple : (stream : Stream S) (t r j i b : ℕ) → r < g
      → sum_of_age whole (past whole stream (t * g + r)) j i (b * g) ≡ sum_of_age inner (past inner (every g r stream) t) j i b
  any_multiple stream t r j i b lr = elim (cases_lt t b) [
    | inl early ↦
        let least : (t + 1) * g ≤ b * g = mul-le-mul_right g (omega arith) in
        let split = add-mul t 1 g in
        age_of_zeros whole laws (past whole stream (t * g + r)) j i (b * g)
        (λ k lk. before_all whole laws stream (t * g + r) (b * g) k i (omega (arith, one-mul g)))
        ∙ sym (age_of_zeros inner laws (past inner (every g r stream) t) j i b
        (λ k lk. before_all inner laws (every g r stream) t b k i early))
    | inr late ↦ age_of_multiple stream t r j i b lr late
  ]

  -- a spread whose memory is not capped has, in every slot, the parities that the code has of the slots with the same remainder
  pub spread_parities : g * inner.shape.memory ≤ 4294967295
      → (stream : Stream S) (t r j i : ℕ) → r < g
      → parity_of whole stream (t * g + r) j i ≡ parity_of inner (every g r stream) t j i
  spread_parities fits stream t r j i lr =
      let s = inner.operations.symbols in
      let f = sum_of_age whole (past whole stream (t * g + r)) j i in
      let memory : capped (g * inner.shape.memory) ≡ inner.shape.memory * g + 0 = omega (arith, mul_comm g inner.shape.memory) in
      ap (λ m. sum_below s (m + 1) f) memory
      ∙ every_term s laws.symbols g 0 inner.shape.memory f (omega arith) (age_between (past whole stream (t * g + r)) j i)
      ∙ sum_same s laws.symbols (inner.shape.memory + 1) _ _ (λ b lb. any_multiple stream t r j i b lr)

module _ {F S : Type 0} (inner : Link F S) (laws : ArithmeticLaws inner.operations) (bounded : Bounded inner) (g : ℕ) where
  all_bounded : Bounded (parted inner g)
  all_bounded = spread_bounded inner.operations.coefficients inner.shape inner.coefficients g bounded

  pub spread_law : SpreadLaw (parted inner g) inner g
  spread_law stream t r j i lr slot =
      let s = inner.operations.symbols in
      let whole = parted inner g in
      let early : t ≤ t * g + r = let more : t * 1 ≤ t * g = mul-le-mul_left t (omega arith) in omega (arith, mul-one t) in
      to_slot whole laws all_bounded stream (t * g + r) j i (omega arith)
      ∙ every_term s laws.symbols g r t (sum_of_age whole (past whole stream (t * g + r)) j i) lr
      (age_between inner laws g (past whole stream (t * g + r)) j i)
      ∙ sum_same s laws.symbols (t + 1) _ _ (λ b lb. age_of_multiple inner laws g stream t r j i b lr (omega arith))
      ∙ sym (to_slot inner laws bounded (every g r stream) t j i (omega arith))
