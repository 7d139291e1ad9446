-- A symbol that no block heard so far shows. Assumes nothing.
use Rattle.std.proofs.Common.{◌≡◌, ℕ, zero, suc, ◌+◌, ◌-◌, ◌*◌, ◌^◌, ◌<◌, ◌≤◌, ◌≢◌, ◌⊎◌, inl, inr, sym, subst, refl, ap, ap₂, ◌∙◌, arith, rules}
use Rattle.std.specs.Prelude.{Bool, true, false, List, replicate}
use Rattle.std.proofs.lemmas.Bool.{both_ways, cases_lt, cases_eq}
use Rattle.std.proofs.lemmas.List.{length-replicate, get_or-replicate}
use Rattle.arithmetic.specs.Laws.{ArithmeticLaws}
use Rattle.arithmetic.proofs.Scaling.{scale_by_zero}
use Rattle.codes.specs.Link.{Link}
use Rattle.codes.specs.Shape.{block_size}
use Rattle.codes.proofs.Places.{below}
use Rattle.streams.specs.Streams.{Stream, symbol_at, Sends}
use Rattle.streams.specs.Logs.{Log, settled, was_lost, Agrees}
use Rattle.streams.specs.Logs.Log.{none, lost, heard}
use Rattle.streams.proofs.Looking.{past_now}
use Rattle.parities.specs.Parities.{parity_of, lone}
use Rattle.parities.specs.Laws.{Bounded}
use Rattle.parities.proofs.Lone.{parity_law}
use Rattle.plan.specs.Numbers.{PlanNumbers}
use Rattle.repair.specs.Losses.{LossRun, Followed, Short, Long, Allows}
use Rattle.repair.specs.Tight.{Undecided}
use Rattle.repair.proofs.Heard.{lost_late}

-- just slots 0 to e were lost
module _ (missing : ℕ → Bool) (e : ℕ) (inside : (t : ℕ) → t ≤ e → missing t ≡ true) (kept : (t : ℕ) → e < t → missing t ≡ false) where
  -- they are a run,
  one_run : LossRun missing 0 e
  one_run = record {
    order = omega arith;
    inside = λ t from to. inside t to;
    before = λ t eq. absurd (omega arith);
    behind = kept (e + 1) (omega arith);
  }

  -- a slot that was lost is one of them,
  if_gone : (t : ℕ) → missing t ≡ true → t ≤ e
  if_gone t h = elim (cases_lt e t) [ inl past ↦ absurd (both_ways (missing t) (kept t past) h) | inr there ↦ there ]

  -- and one that was not is none
  if_kept : (t : ℕ) → missing t ≡ false → e < t
  if_kept t h = elim (cases_lt e t) [ inl past ↦ past | inr there ↦ absurd (both_ways (missing t) h (inside t there)) ]

  -- so there is no other run
  no_other : (a f : ℕ) → LossRun missing a f → (a ≡ 0) × (f ≡ e)
  no_other a f run =
      let last = if_gone f (run.inside f run.order (omega arith)) in
      let next = if_kept (f + 1) run.behind in
      let order = run.order in
      elim (cases_eq a 0) [
        | inl first ↦ (first, omega arith)
        | inr later ↦ let early = if_kept (a - 1) (run.before (a - 1) (omega arith)) in absurd (omega arith)
      ]

  -- which a plan allows if it is not too long
  allowed_run : (plan : PlanNumbers) → Short plan 0 e ⊎ Long plan 0 e → Allows plan missing
  allowed_run plan fits a f run =
      let (first, last) = no_other a f run in
      let followed : (d : ℕ) → Followed missing f d = λ d t more most. kept t (omega arith) in
      elim fits [
        | inl few ↦ inl (omega arith, followed _)
        | inr (many, few) ↦ inr ((omega arith, omega arith), followed _)
      ]

-- l lost slots
abbrev gone : {S : Type 0} → ℕ → Log S
gone zero = none
gone (suc l) = lost (gone l)

-- and n slots behind them whose block was heard, the same each time
abbrev behind : {S : Type 0} → List S → ℕ → ℕ → Log S
behind block l zero = gone l
behind block l (suc n) = heard (behind block l n) block

module _ {F S : Type 0} (link : Link F S) (block : List S) where
  -- l slots are settled,
  gone_settled : (l : ℕ) → settled (gone {S = S} l) ≡ l
  gone_settled zero = refl
  gone_settled (suc l) = let before = gone_settled l in omega arith

  -- and n behind them;
  all_settled : (l n : ℕ) → settled (behind block l n) ≡ l + n
  all_settled l zero = gone_settled l ∙ omega arith
  all_settled l (suc n) = let before = all_settled l n in omega arith

  -- the first l were lost,
  lost_there : (l n t : ℕ) → t < l → was_lost (behind block l n) t ≡ true
  lost_there zero zero t within = absurd (omega arith)
  lost_there (suc l) zero t within = elim (cases_eq t l) [
    | inl last ↦ search (rules, last, gone_settled l)
    | inr before ↦ let h = lost_there l zero t (omega arith) in search (rules, h)
  ]
  lost_there l (suc n) t within = lost_there l n t within

  -- and no other
  not_lost : (l n t : ℕ) → l ≤ t → was_lost (behind block l n) t ≡ false
  not_lost l zero t past = lost_late (gone l) t (omega (arith, gone_settled l))
  not_lost l (suc n) t past = not_lost l n t past

  -- a stream that would have sent each of the blocks agrees
  agrees_behind : (stream : Stream S) (l n : ℕ) → ((t : ℕ) → l ≤ t → t < l + n → Sends link stream t block) → Agrees link (behind block l n) stream
  agrees_behind stream zero zero sends = tt
  agrees_behind stream (suc l) zero sends = agrees_behind stream l zero (λ t from to. absurd (omega arith))
  agrees_behind stream l (suc n) sends = (
    agrees_behind stream l n (λ t from to. sends t from (omega arith)),
    subst (λ (t : ℕ). Sends link stream t block) (sym (all_settled l n)) (sends (l + n) (omega arith) (omega arith)),
  )

-- a sub-symbol of slot 0 that no parity of the slots behind slot e, and before slot n, adds up
module _ {F S : Type 0} (link : Link F S) (laws : ArithmeticLaws link.operations) (bounded : Bounded link)
    (single : link.shape.parities ≡ 1) (some : 1 ≤ link.symbols)
    (k e n : ℕ) (within : k < link.shape.sources) (later : e < n) (small : n < 2 ^ 32)
    (unseen : (a : ℕ) → e < a → a < n → link.coefficients 0 a k ≡ link.operations.coefficients.zero) where
  abbrev zero_symbol : S
  zero_symbol = link.operations.symbols.zero

  -- a stream of zeros, but for the first symbol of that sub-symbol, which is x
  abbrev stream_of : S → Stream S
  stream_of x = lone link 0 k 0 x

  -- the symbol itself
  first_symbol : (x : S) → stream_of x 0 k 0 ≡ x
  first_symbol x = search rules

  -- behind slot e all is zero,
  zero_later : (x : S) (t l i : ℕ) → e < t → stream_of x t l i ≡ zero_symbol
  zero_later x t l i past = let apart : t ≢ 0 = (λ z. omega arith) in search (rules, apart)

  -- and the parities are, up to slot n
  zero_parity : (x : S) (t i : ℕ) → e < t → t < n → parity_of link (stream_of x) t 0 i ≡ zero_symbol
  zero_parity x t i past soon = elim (cases_eq i 0) [
    | inl first ↦
        let slot : t ≡ 0 + t = omega arith in
        ap₂ (λ (s n : ℕ). parity_of link (stream_of x) s 0 n) slot first
        ∙ (parity_law link laws bounded).own 0 k 0 x t 0 within (omega arith)
        ∙ ap (λ c. link.operations.scale c x) (unseen t past soon)
        ∙ scale_by_zero link.operations laws x
    | inr other ↦ (parity_law link laws bounded).others 0 k 0 x t 0 i (inr other)
  ]

  -- a block of zeros
  abbrev zeros : List S
  zeros = replicate (block_size link.shape link.symbols) zero_symbol

  -- each symbol of it is zero
  zero_at : (m i : ℕ) → m < link.shape.sources + link.shape.parities → i < link.symbols → symbol_at link zeros m i ≡ zero_symbol
  zero_at m i lm li =
      get_or-replicate (block_size link.shape link.symbols) (m * link.symbols + i) zero_symbol zero_symbol
      (below (link.shape.sources + link.shape.parities) link.symbols m i lm li)

  -- so that is what the stream sends there, whatever x is
  sends_zeros : (x : S) (t : ℕ) → e < t → t < n → Sends link (stream_of x) t zeros
  sends_zeros x t past soon = record {
    whole = length-replicate (block_size link.shape link.symbols) zero_symbol;
    packet = λ l i ll li. zero_at l i (omega arith) li ∙ sym (past_now link (stream_of x) t l i ∙ zero_later x t l i past);
    parities = λ j i lj li.
        let first : 0 ≡ j = omega arith in
        zero_at (link.shape.sources + j) i (omega arith) li
        ∙ sym (subst (λ (j : ℕ). parity_of link (stream_of x) t j i ≡ zero_symbol) first (zero_parity x t i past soon));
  }

  -- and a log of slots 0 to e, lost, and blocks of zeros behind them, up to slot n, leaves packet 0 open
  pub undecided : (plan : PlanNumbers) → Short plan 0 e ⊎ Long plan 0 e → Undecided link plan e n
  undecided plan fits =
      let rest = n - (e + 1) in
      let missing = was_lost (behind zeros (e + 1) rest) in
      let gone_there : (t : ℕ) → t ≤ e → missing t ≡ true = λ t to. lost_there link zeros (e + 1) rest t (omega arith) in
      let kept : (t : ℕ) → e < t → missing t ≡ false = λ t past. not_lost link zeros (e + 1) rest t (omega arith) in
      let agrees = λ (x : S). agrees_behind link zeros (stream_of x) (e + 1) rest (λ t from to. sends_zeros x t (omega arith) (omega arith)) in
      record {
        log = behind zeros (e + 1) rest;
        allowed = allowed_run missing e gone_there kept plan fits;
        run = one_run missing e gone_there kept;
        so_far = all_settled link zeros (e + 1) rest ∙ omega arith;
        differ = record {
          one = stream_of link.operations.mark;
          other = stream_of zero_symbol;
          one_agrees = agrees link.operations.mark;
          other_agrees = agrees zero_symbol;
          sub = k;
          place = 0;
          sub_within = within;
          place_within = omega arith;
          differ = λ same. laws.scaling.mark_not_zero (sym (first_symbol link.operations.mark) ∙ same ∙ first_symbol zero_symbol);
        };
      }
