-- A lone symbol in the parities of later slots, and streams that are added up. Assumes nothing.
use Rattle.std.proofs.Common.{◌≡◌, ℕ, ◌+◌, ◌-◌, ◌^◌, ◌<◌, ◌≢◌, ◌⊎◌, inl, inr, sym, ap, ◌∙◌, arith, rules}
use Rattle.std.proofs.lemmas.Bool.{cases_lt}
use Rattle.arithmetic.specs.Laws.{ArithmeticLaws}
use Rattle.arithmetic.proofs.Sums.{sum_same, sum_zero, sum_only, sum_plus}
use Rattle.codes.specs.Link.{Link}
use Rattle.codes.specs.Parity.{sum_of_age, term}
use Rattle.streams.specs.Streams.{Stream, past}
use Rattle.arithmetic.proofs.Scaling.{scale_nothing, scale_by_zero}
use Rattle.parities.specs.Parities.{parity_of, added, lone}
use Rattle.parities.specs.Laws.{Bounded, ParityLaw}
use Rattle.parities.proofs.Reaching.{age_of_zeros, before_all, packet_ago, to_age}

module _ {F S : Type 0} (link : Link F S) (laws : ArithmeticLaws link.operations) (t k i : ℕ) (x : S) where
  -- the symbol itself
  there : (s : ℕ) → s ≡ t → lone link t k i x s k i ≡ x
  there s e = search (rules, e)

  -- all others are zero
  elsewhere : (s l n : ℕ) → (s ≢ t) ⊎ (l ≢ k) ⊎ (n ≢ i) → lone link t k i x s l n ≡ link.operations.symbols.zero
  elsewhere s l n (inl e) = search (rules, e)
  elsewhere s l n (inr (inl e)) = search (rules, e)
  elsewhere s l n (inr (inr e)) = search (rules, e)

  -- so they are when one looks back
  past_elsewhere : (s a l n : ℕ) → (s ≢ t + a) ⊎ (l ≢ k) ⊎ (n ≢ i) → past link (lone link t k i x) s a l n ≡ link.operations.symbols.zero
  past_elsewhere s a l n other = elim (cases_lt s a) [
    | inl early ↦ before_all link laws (lone link t k i x) s a l n early
    | inr late ↦
        packet_ago link laws (lone link t k i x) s a l n late
        ∙ elsewhere (s - a) l n (elim other [ inl e ↦ inl (λ z. e (omega (arith, z))) | inr e ↦ inr e ])
  ]

  pub nothing : (s j n : ℕ) → (s < t) ⊎ (n ≢ i) → parity_of link (lone link t k i x) s j n ≡ link.operations.symbols.zero
  nothing s j n other =
      sum_zero link.operations.symbols laws.symbols (link.shape.memory + 1) _ (λ a la.
      age_of_zeros link laws (past link (lone link t k i x) s) j n a (λ l ll.
      past_elsewhere s a l n (elim other [ inl early ↦ inl (λ z. omega arith) | inr e ↦ inr (inr e) ])))

  -- the age at which the slot of the symbol is looked at adds just this
  age_of_symbol : (a j : ℕ) → k < link.shape.sources
      → sum_of_age link (past link (lone link t k i x) (t + a)) j i a ≡ link.operations.scale (link.coefficients j a k) x
  age_of_symbol a j lk =
      let back : t + a - a ≡ t = omega arith in
      sum_only link.operations.symbols laws.symbols link.shape.sources k (term link (past link (lone link t k i x) (t + a)) j i a) lk
      (λ l ll other.
      ap (link.operations.scale (link.coefficients j a l)) (past_elsewhere (t + a) a l i (inr (inl other)))
      ∙ scale_nothing link.operations laws (link.coefficients j a l))
      ∙ ap (link.operations.scale (link.coefficients j a k))
      (packet_ago link laws (lone link t k i x) (t + a) a k i (omega arith) ∙ there (t + a - a) back)

  pub scaled_by_age : Bounded link → (a j : ℕ) → k < link.shape.sources → a < 2 ^ 32
      → parity_of link (lone link t k i x) (t + a) j i ≡ link.operations.scale (link.coefficients j a k) x
  scaled_by_age bounded a j lk small = elim (cases_lt link.shape.memory a) [
    | inl beyond ↦
        sum_zero link.operations.symbols laws.symbols (link.shape.memory + 1) _ (λ b lb.
        age_of_zeros link laws (past link (lone link t k i x) (t + a)) j i b (λ l ll.
        past_elsewhere (t + a) b l i (inl (λ z. omega arith))))
        ∙ sym (ap (λ c. link.operations.scale c x) (bounded j a k small (inr (inr beyond))) ∙ scale_by_zero link.operations laws x)
    | inr reached ↦
        sum_only link.operations.symbols laws.symbols (link.shape.memory + 1) a (sum_of_age link (past link (lone link t k i x) (t + a)) j i)
        (omega arith)
        (λ b lb other.
        age_of_zeros link laws (past link (lone link t k i x) (t + a)) j i b (λ l ll.
        past_elsewhere (t + a) b l i (inl (λ z. other (omega (arith, z))))))
        ∙ age_of_symbol a j lk
  ]

module _ {F S : Type 0} (link : Link F S) (laws : ArithmeticLaws link.operations) where
  -- looking back in two streams that are added up
  past_added : (one other : Stream S) (t a k i : ℕ)
      → past link (added link one other) t a k i ≡ link.operations.symbols.plus (past link one t a k i) (past link other t a k i)
  past_added one other t a k i = elim (cases_lt t a) [
    | inl early ↦
        before_all link laws (added link one other) t a k i early
        ∙ sym (laws.symbols.zero_plus link.operations.symbols.zero)
        ∙ sym (ap (λ x. link.operations.symbols.plus x link.operations.symbols.zero) (before_all link laws one t a k i early))
        ∙ sym (ap (link.operations.symbols.plus (past link one t a k i)) (before_all link laws other t a k i early))
    | inr late ↦
        packet_ago link laws (added link one other) t a k i late
        ∙ sym (ap (λ x. link.operations.symbols.plus x (other (t - a) k i)) (packet_ago link laws one t a k i late))
        ∙ sym (ap (link.operations.symbols.plus (past link one t a k i)) (packet_ago link laws other t a k i late))
  ]

  pub parities_add : (one other : Stream S) (t j i : ℕ)
      → parity_of link (added link one other) t j i
      ≡ link.operations.symbols.plus (parity_of link one t j i) (parity_of link other t j i)
  parities_add one other t j i =
      sum_same link.operations.symbols laws.symbols (link.shape.memory + 1) _ _ (λ a la.
      sum_same link.operations.symbols laws.symbols link.shape.sources _ _ (λ k lk.
      ap (link.operations.scale (link.coefficients j a k)) (past_added one other t a k i)
      ∙ laws.scaling.over_symbols (link.coefficients j a k) (past link one t a k i) (past link other t a k i))
      ∙ sum_plus link.operations.symbols laws.symbols link.shape.sources (term link (past link one t) j i a) (term link (past link other t) j i a))
      ∙ sum_plus link.operations.symbols laws.symbols (link.shape.memory + 1) (sum_of_age link (past link one t) j i) (sum_of_age link (past link other t) j i)

  pub parity_law : Bounded link → ParityLaw link
  parity_law bounded = record {
    bounded = bounded;
    ages = λ stream t j i n. to_age link laws bounded stream t j i n;
    own = λ t k i x a j. scaled_by_age link laws t k i x bounded a j;
    others = λ t k i x s j n. nothing link laws t k i x s j n;
    sums = parities_add;
  }
