-- What the stream of the plan sends. Assumes nothing.
use Rattle.std.proofs.Common.{◌≡◌, ℕ, zero, suc, ◌+◌, ◌-◌, ◌*◌, ◌<◌, ◌≤◌, sym, ap, ◌∙◌, refl, arith, rules}
use Rattle.std.specs.Prelude.{List, [], ◌∷◌, nat_le}
use Rattle.std.proofs.lemmas.Bool.{cond-false}
use Rattle.galois.specs.Product.{product}
use Rattle.byte.specs.declared.symbol.ByteSymbol.{ByteSymbol}
use Rattle.byte.specs.Equal.{same_symbol}
use Rattle.byte.specs.Symbols.{symbol, value_of_symbol}
use Rattle.byte.specs.Laws.{byte_laws}
use Rattle.word.specs.Laws.{word_numbers}
use Rattle.word.specs.Words.{word, value_of}
use Rattle.codes.specs.Parity.{parity}
use Rattle.streams.specs.Streams.{Stream, past, symbol_at, Sends, HasHistory, last_packet}
use Rattle.streams.specs.Logs.{Agrees}
use Rattle.streams.specs.Logs.Log.{none, heard}
use Rattle.streams.proofs.Looking.{parity_same}
use Rattle.streams.proofs.Putting.{put}
use Rattle.streams.proofs.Blocks.{one_block}
use Rattle.examples.specs.Streams.{StreamExamples, link, counting, block, word_link, words, history}
use Rattle.examples.proofs.Places.{Each, each, sends}

-- a packet of two symbols and its parity are sent, if these three are the stream's
pub slot : (stream : Stream ByteSymbol) (t a b p : ℕ) → (symbol a).value ≡ (stream t 0 0).value → (symbol b).value ≡ (stream t 1 0).value
    → (symbol p).value ≡ (parity link (past link stream t) 0 0).value → Sends link stream t (block a b p)
slot stream t a b p first second last =
    sends value_of_symbol same_symbol link stream t (block a b p) refl ((first, tt), ((second, tt), tt)) ((last, tt), tt)

slot_0 : Sends link counting 0 (block 1 2 0)
unfolding product
slot_0 = slot counting 0 1 2 0 refl refl refl

pub slot_1 : Sends link counting 1 (block 3 4 2)
unfolding product
slot_1 = slot counting 1 3 4 2 refl refl refl

pub slot_2 : Sends link counting 2 (block 5 6 5)
unfolding product
slot_2 = slot counting 2 5 6 5 refl refl refl

slot_3 : Sends link counting 3 (block 7 8 5)
unfolding product
slot_3 = slot counting 3 7 8 5 refl refl refl

slot_4 : Sends link counting 4 (block 9 10 12)
unfolding product
slot_4 = slot counting 4 9 10 12 refl refl refl

pub slot_5 : Sends link counting 5 (block 11 12 12)
unfolding product
slot_5 = slot counting 5 11 12 12 refl refl refl

-- the parity of slot 1 is 2
parity_1 : (parity link (past link counting 1) 0 0).value ≡ 2
unfolding product
parity_1 = refl

only : (other : List ByteSymbol) → Sends link counting 1 other → other ≡ block 3 4 2
only other s = one_block link (past link counting 1) other (block 3 4 2) s slot_1

-- two slots before slot 1 and further back all is zero
before_slot_0 : (stream : Stream ByteSymbol) (a k : ℕ) → past link stream 1 (suc (suc a)) k 0 ≡ symbol 0
before_slot_0 stream a k =
    let early : 1 < suc (suc a) = omega arith in
    cond-false (nat_le (suc (suc a)) 1) (stream (1 - suc (suc a)) k 0) (symbol 0) (search (rules, early))

-- a stream with the packets (1,2) and (3,4) has the parity 2 in slot 1
same_past : (stream : Stream ByteSymbol) → Sends link stream 0 (block 1 2 0) → Sends link stream 1 (block 3 4 3)
    → (a k : ℕ) → a ≤ 5 → k < 2 → past link stream 1 a k 0 ≡ past link counting 1 a k 0
same_past stream s t zero zero la lk = sym (t.packet 0 0 (omega arith) (omega arith))
same_past stream s t zero (suc zero) la lk = sym (t.packet 1 0 (omega arith) (omega arith))
same_past stream s t zero (suc (suc k)) la lk = absurd (omega arith)
same_past stream s t (suc zero) zero la lk = sym (s.packet 0 0 (omega arith) (omega arith))
same_past stream s t (suc zero) (suc zero) la lk = sym (s.packet 1 0 (omega arith) (omega arith))
same_past stream s t (suc zero) (suc (suc k)) la lk = absurd (omega arith)
same_past stream s t (suc (suc a)) k la lk = before_slot_0 stream a k ∙ sym (before_slot_0 counting a k)

against : (stream : Stream ByteSymbol) → Agrees link (heard (heard none (block 1 2 0)) (block 3 4 3)) stream → ⊥
against stream ((_, s), t) =
    let same = parity_same link byte_laws (past link stream 1) (past link counting 1) 0 0 (same_past stream s t) in
    let e : ◌≡◌ {A = ℕ} 3 2 = ap value_of_symbol (t.parities 0 0 (omega arith) (omega arith) ∙ same) ∙ parity_1 in
    omega arith

-- the stream that had 3 in place of 2 in slot 0
changed : Stream ByteSymbol
changed = put 0 (λ k i. symbol (2 * k + 1)) counting

for_some : Sends link changed 1 (block 3 4 3)
unfolding product changed
for_some = slot changed 1 3 4 3 refl refl refl

before_slot_2 : HasHistory link counting 2 history
before_slot_2 v k i lv lk li =
    let P : ℕ → ℕ → ℕ → Type 0 = λ v k i. symbol_at link history (v * 2 + k) i ≡ last_packet link 5 counting 2 v k i in
    let two : (v : ℕ) → P v 0 0 → P v 1 0 → Each 2 (λ k. Each 1 (P v k)) = λ v a b. ((a, tt), ((b, tt), tt)) in
    let all : Each 5 (λ v. Each 2 (λ k. Each 1 (P v k))) =
    (two 0 refl refl, (two 1 refl refl, (two 2 refl refl, (two 3 refl refl, (two 4 refl refl, tt))))) in
    each 1 (P v k) (each 2 (λ k. Each 1 (P v k)) (each 5 (λ v. Each 2 (λ k. Each 1 (P v k))) all v lv) k lk) i li

-- and so are a word and its parity
word_slot : (t a p : ℕ) → (word a).value ≡ (words t 0 0).value → (word p).value ≡ (parity word_link (past word_link words t) 0 0).value
    → Sends word_link words t (word a ∷ word p ∷ [])
word_slot t a p first last =
    sends value_of word_numbers.same word_link words t (word a ∷ word p ∷ []) refl ((first, tt), tt) ((last, tt), tt)

pub streams : StreamExamples
streams = record {
  slot_0 = slot_0;
  slot_1 = slot_1;
  slot_2 = slot_2;
  slot_3 = slot_3;
  slot_4 = slot_4;
  slot_5 = slot_5;
  only = only;
  both = ((tt, slot_0), slot_1);
  second = (tt, slot_1);
  against = against;
  for_some = (changed, (tt, for_some));
  before_slot_2 = before_slot_2;
  word_slot_0 = word_slot 0 0x01020304 0 refl refl;
  word_slot_1 = word_slot 1 0x05060708 0x01020304 refl refl;
}
