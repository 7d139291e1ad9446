-- What a parity that two streams share says of the packets that it adds up. Assumes nothing.
use Rattle.std.proofs.Common.{◌≡◌, ℕ, ◌+◌, ◌-◌, ◌*◌, ◌<◌, ◌≤◌, ◌≢◌, ◌⊎◌, inl, inr, sym, subst, refl, ap, ap₂, ◌∙◌, arith, rules, mul-le-mul_left}
use Rattle.std.specs.Prelude.{cond, nat_le}
use Rattle.std.proofs.lemmas.Nat.{mul-le}
use Rattle.std.proofs.lemmas.Bool.{cases_lt, cases_eq}
use Rattle.arithmetic.specs.Operations.{Operations}
use Rattle.arithmetic.specs.Laws.{ArithmeticLaws}
use Rattle.arithmetic.proofs.Sums.{sum_same, same_remaining_term, plus_zero}
use Rattle.arithmetic.proofs.Scaling.{scale_by_zero, scale_cancel}
use Rattle.codes.specs.Link.{Link}
use Rattle.codes.specs.Parity.{term}
use Rattle.codes.specs.Coefficients.{main_shape, main_coefficients, back_shape, back_coefficients, overlay_shape, overlay}
use Rattle.streams.specs.Streams.{Stream, past}
use Rattle.parities.specs.Parities.{parity_of}
use Rattle.parities.proofs.Reaching.{before_all, packet_ago}
use Rattle.repair.proofs.Telling.{Tells}

-- a link run by the main diagonal of width m alone
abbrev pub main_link : {F S : Type 0} → Operations F S → ℕ → ℕ → Link F S
main_link o m l = record {
  operations = o;
  shape = main_shape m;
  coefficients = main_coefficients o.coefficients o.products m;
  symbols = l;
}

-- one run by it, and over it the back diagonal of step s, delayed by m + 1
abbrev pub long_link : {F S : Type 0} → Operations F S → ℕ → ℕ → ℕ → Link F S
long_link o m s l = record {
  operations = o;
  shape = overlay_shape (main_shape m) (back_shape m s) (m + 1);
  coefficients = overlay o.coefficients (main_coefficients o.coefficients o.products m) (back_coefficients o.coefficients o.products m s) (m + 1);
  symbols = l;
}

-- two streams with the same symbol i of parity j in slot t
module _ {F S : Type 0} (link : Link F S) (laws : ArithmeticLaws link.operations) (one other : Stream S) (t j i : ℕ)
    (same : parity_of link one t j i ≡ parity_of link other t j i) where
  -- a term is the same where its coefficient is zero, or else the packet that it scales is the same
  term_same : (a k : ℕ) → (link.coefficients j a k ≢ link.operations.coefficients.zero → (u : ℕ) → u + a ≡ t → one u k i ≡ other u k i)
      → term link (past link one t) j i a k ≡ term link (past link other t) j i a k
  term_same a k known = elim (laws.coefficients.decide (link.coefficients j a k) link.operations.coefficients.zero) [
    | inl none ↦
        let nothing = λ (x : S). ap (λ c. link.operations.scale c x) none ∙ scale_by_zero link.operations laws x in
        nothing (past link one t a k i) ∙ sym (nothing (past link other t a k i))
    | inr some ↦
        ap (link.operations.scale (link.coefficients j a k))
        (elim (cases_lt t a) [
          | inl early ↦ before_all link laws one t a k i early ∙ sym (before_all link laws other t a k i early)
          | inr late ↦
              packet_ago link laws one t a k i late ∙ known some (t - a) (omega arith) ∙ sym (packet_ago link laws other t a k i late)
        ])
  ]

  -- where all that the parity adds up, with a coefficient other than zero, is the same, but for one sub-symbol, that one is too
  left_over : (a k v : ℕ) → a ≤ link.shape.memory → k < link.shape.sources → v + a ≡ t
      → link.coefficients j a k ≢ link.operations.coefficients.zero
      → ((b l u : ℕ) → l < link.shape.sources → u + b ≡ t → link.coefficients j b l ≢ link.operations.coefficients.zero → (b ≡ a → l ≢ k)
      → one u l i ≡ other u l i)
      → one v k i ≡ other v k i
  left_over a k v reached lk there some others =
      let s = link.operations.symbols in
      let slot : t - a ≡ v = omega arith in
      let ages = same_remaining_term s laws.symbols (link.shape.memory + 1) a _ _ (omega arith)
      (λ b lb apart. sum_same s laws.symbols link.shape.sources _ _
      (λ l ll. term_same b l (λ h u e. others b l u ll e h (λ z. absurd (apart z))))) same in
      let terms = same_remaining_term s laws.symbols link.shape.sources k _ _ lk
      (λ l ll apart. term_same a l (λ h u e. others a l u ll e h (λ _. apart))) ages in
      subst (λ u. one u k i ≡ other u k i) slot
      (sym (packet_ago link laws one t a k i (omega arith))
      ∙ scale_cancel link.operations laws (link.coefficients j a k) _ _ some terms ∙ packet_ago link laws other t a k i (omega arith))

module _ {F S : Type 0} (o : Operations F S) (laws : ArithmeticLaws o) where
  -- a coefficient that is one is not zero
  not_zero : (c : F) → c ≡ o.products.one → c ≢ o.coefficients.zero
  not_zero c is_one is_zero = laws.products.one_not_zero (sym is_one ∙ is_zero)

  -- which coefficients of the main diagonal are not zero
  module _ (m : ℕ) where
    abbrev main : ℕ → ℕ → F
    main = main_coefficients o.coefficients o.products m 0

    -- it adds up sub-symbol k at age m - k,
    main_one : (a k : ℕ) → k < m → a + k ≡ m → main a k ≡ o.products.one
    main_one a k l e = search (rules, l, e)

    -- at no other age
    pub main_zero : (a k : ℕ) → a + k ≢ m → main a k ≡ o.coefficients.zero
    main_zero a k apart = search (rules, apart)

    -- so where its coefficient is not zero, it is that age
    main_adds : (a k : ℕ) → main a k ≢ o.coefficients.zero → a + k ≡ m
    main_adds a k some = elim (cases_eq (a + k) m) [ inl e ↦ e | inr apart ↦ absurd (some (main_zero a k apart)) ]

  -- which of the back diagonal, delayed, and of both together
  module _ (m s : ℕ) where
    abbrev back : ℕ → ℕ → F
    back a k = cond (nat_le (m + 1) a) (back_coefficients o.coefficients o.products m s 0 (a - (m + 1)) k) o.coefficients.zero

    abbrev long : ℕ → ℕ → F
    long = overlay o.coefficients (main_coefficients o.coefficients o.products m) (back_coefficients o.coefficients o.products m s) (m + 1) 0

    -- the back diagonal adds it up at age m + 1 + s * (k + 1),
    back_one : (a k : ℕ) → k < m → a ≡ m + 1 + s * (k + 1) → back a k ≡ o.products.one
    back_one a k l e = search (rules, l, e)

    -- at no other age
    back_zero : (a k : ℕ) → a ≢ m + 1 + s * (k + 1) → back a k ≡ o.coefficients.zero
    back_zero a k apart = search (rules, apart)

    -- both together add it up at the age of the main diagonal,
    first_one : (a k : ℕ) → k < m → a + k ≡ m → long a k ≡ o.products.one
    first_one a k l e =
        ap₂ o.coefficients.plus (main_one m a k l e) (back_zero a k (λ z. omega arith)) ∙ plus_zero o.coefficients laws.coefficients o.products.one

    -- and at that of the back diagonal: the two never meet
    second_one : (a k : ℕ) → k < m → a ≡ m + 1 + s * (k + 1) → long a k ≡ o.products.one
    second_one a k l e =
        ap₂ o.coefficients.plus (main_zero m a k (λ z. omega arith)) (back_one a k l e) ∙ laws.coefficients.zero_plus o.products.one

    -- and at no other age,
    pub long_zero : (a k : ℕ) → a + k ≢ m → a ≢ m + 1 + s * (k + 1) → long a k ≡ o.coefficients.zero
    long_zero a k apart far = ap₂ o.coefficients.plus (main_zero m a k apart) (back_zero a k far) ∙ laws.coefficients.zero_plus o.coefficients.zero

    -- so where their coefficient is not zero, it is one of these ages
    long_adds : (a k : ℕ) → long a k ≢ o.coefficients.zero → (a + k ≡ m) ⊎ (a ≡ m + 1 + s * (k + 1))
    long_adds a k some = elim (cases_eq (a + k) m) [
      | inl e ↦ inl e
      | inr apart ↦ elim (cases_eq a (m + 1 + s * (k + 1))) [
        | inl e ↦ inr e
        | inr far ↦ absurd (some (long_zero a k apart far))
      ]
    ]

  -- what an arrival tells of two streams that share its parity, where the code is the main diagonal alone,
  pub main_tells : (m l : ℕ) (one other : Stream S) (t i : ℕ)
      → parity_of (main_link o m l) one t 0 i ≡ parity_of (main_link o m l) other t 0 i
      → Tells m 0 (λ u k. one u k i ≡ other u k i) t
  main_tells m l one other t i same = record {
    first = λ k lk first second v there.
        left_over (main_link o m l) laws one other t 0 i same (m - k) k v (omega arith) lk (omega arith)
        (not_zero _ (main_one m (m - k) k lk (omega arith)))
        (λ b n u ln e some apart. let h = main_adds m b n some in first u n ln (λ z. apart (omega arith) z) (omega arith));
    second = λ steps. absurd (omega arith);
  }

  -- and where it is both diagonals; m and s are so small that no memory is cut off
  pub long_tells : (m s l : ℕ) → m ≤ 8 → s ≤ 7 → (one other : Stream S) (t i : ℕ)
      → parity_of (long_link o m s l) one t 0 i ≡ parity_of (long_link o m s l) other t 0 i
      → Tells m s (λ u k. one u k i ≡ other u k i) t
  long_tells m s l hm hs one other t i same = record {
    first = λ k lk first second v there.
        left_over (long_link o m s l) laws one other t 0 i same (m - k) k v (omega arith) (omega arith) (omega arith)
        (not_zero _ (first_one m s (m - k) k lk (omega arith)))
        (λ b n u ln e some apart. elim (long_adds m s b n some) [
          | inl h ↦ first u n (omega arith) (λ z. apart (omega arith) z) (omega arith)
          | inr h ↦ second u n (omega arith) (omega arith)
        ]);
    second = λ steps k lk first second v there.
        let age = m + 1 + s * (k + 1) in
        let far : s * (k + 1) ≤ s * m = mul-le-mul_left s (omega arith) in
        let small : s * m ≤ 56 = mul-le s m 7 8 hs hm in
        left_over (long_link o m s l) laws one other t 0 i same age k v (omega arith) (omega arith) there
        (not_zero _ (second_one m s age k lk refl))
        (λ b n u ln e some apart. elim (long_adds m s b n some) [
          | inl h ↦ first u n (omega arith) (omega arith)
          | inr h ↦ second u n (omega arith) (λ z. apart (h ∙ ap (λ x. m + 1 + s * (x + 1)) z) z) (omega arith)
        ]);
  }
