-- A stream sends one block in each slot. Assumes nothing.
use Rattle.std.proofs.Common.{◌≡◌, ℕ, ◌+◌, ◌-◌, ◌*◌, ◌/◌, ◌%◌, ◌<◌, ◌≤◌, inl, inr, sym, ap, ap₂, ◌∙◌, subst, arith, rules}
use Rattle.std.specs.Prelude.{List, map, if◌then◌else◌, nat_lt, get_or}
use Rattle.std.specs.List.{range_with_len}
use Rattle.std.proofs.lemmas.Bool.{cases_lt, cond-true, cond-false}
use Rattle.std.proofs.lemmas.Nat.{div-mul-add, mod-mul-add}
use Rattle.std.proofs.lemmas.List.{ext_get_or}
use Rattle.std.proofs.lemmas.List.FromFn.{get_or-map-range_with_len, length-map-range_with_len}
use Rattle.arithmetic.specs.Laws.{ArithmeticLaws}
use Rattle.codes.specs.Link.{Link}
use Rattle.codes.specs.Parity.{parity}
use Rattle.codes.specs.Shape.{block_size}
use Rattle.codes.proofs.Places.{below, each_place}
use Rattle.streams.specs.Streams.{symbol_at, past, IsBlock}
use Rattle.streams.specs.Law.{StreamLaw}
use Rattle.streams.proofs.Putting.{sends_front}

module _ {F S : Type 0} (link : Link F S) (ago : ℕ → ℕ → ℕ → S) where
  -- symbol i of sub-symbol or parity n
  symbol_of : ℕ → ℕ → S
  symbol_of n i = if nat_lt n link.shape.sources then ago 0 n i else parity link ago (n - link.shape.sources) i

  -- and of place p of a block
  abbrev at_place : ℕ → S
  at_place p = symbol_of (p / link.symbols) (p % link.symbols)

  pub the_block : List S
  the_block = map at_place (range_with_len 0 (block_size link.shape link.symbols))

  there : (n i : ℕ) → n < link.shape.sources + link.shape.parities → i < link.symbols → symbol_at link the_block n i ≡ symbol_of n i
  unfolding the_block
  there n i ln li =
      let p = n * link.symbols + i in
      get_or-map-range_with_len at_place 0 (block_size link.shape link.symbols) p p link.operations.symbols.zero
      (below (link.shape.sources + link.shape.parities) link.symbols n i ln li) (omega arith)
      ∙ ap₂ symbol_of (div-mul-add n link.symbols i li) (mod-mul-add n link.symbols i li)

  pub some_block : IsBlock link ago the_block
  unfolding the_block symbol_of
  some_block = record {
    whole = length-map-range_with_len at_place 0 (block_size link.shape link.symbols);
    packet = λ k i lk li.
        there k i (omega arith) li
        ∙ cond-true (nat_lt k link.shape.sources) (ago 0 k i) (parity link ago (k - link.shape.sources) i) (search (rules, lk));
    parities = λ j i lj li.
        let n = link.shape.sources + j in
        let behind : link.shape.sources ≤ n = omega arith in
        there n i (omega arith) li
        ∙ cond-false (nat_lt n link.shape.sources) (ago 0 n i) (parity link ago (n - link.shape.sources) i) (search (rules, behind))
        ∙ ap (λ m. parity link ago m i) (omega arith);
  }

  pub one_block : (block other : List S) → IsBlock link ago block → IsBlock link ago other → block ≡ other
  one_block block other is also =
      let zero = link.operations.symbols.zero in
      ext_get_or zero block other (is.whole ∙ sym also.whole) (λ p lp.
      each_place (link.shape.sources + link.shape.parities) link.symbols (λ p. get_or block p zero ≡ get_or other p zero)
      (λ n i ln li. elim (cases_lt n link.shape.sources) [
        | inl packet ↦ is.packet n i packet li ∙ sym (also.packet n i packet li)
        | inr parity ↦
            let j = n - link.shape.sources in
            let at : link.shape.sources + j ≡ n = omega arith in
            subst (λ m. symbol_at link block m i ≡ symbol_at link other m i) at
            (is.parities j i (omega arith) li ∙ sym (also.parities j i (omega arith) li))
      ])
      p (omega (arith, is.whole)))

-- a block in each slot
pub stream_law : {F S : Type 0} (link : Link F S) → ArithmeticLaws link.operations → StreamLaw link
stream_law link laws = record {
  some = λ stream t. (the_block link (past link stream t), some_block link (past link stream t));
  one = λ stream t. one_block link (past link stream t);
  front = sends_front link laws;
}
