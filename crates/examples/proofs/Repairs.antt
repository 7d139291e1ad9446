-- Which losses plans allow, and packets that are not known yet. Assumes nothing.
use Rattle.std.proofs.Common.{◌≡◌, ℕ, zero, suc, ◌+◌, ◌-◌, ◌*◌, ◌<◌, ◌≤◌, ◌≢◌, refl, sym, subst, ap, ◌∙◌, inl, inr, true, arith}
use Rattle.std.specs.Prelude.{[], ◌∷◌}
use Rattle.std.proofs.lemmas.Bool.{true≢false, cases_lt}
use Rattle.std.proofs.lemmas.List.{get_or_past}
use Rattle.galois.specs.Product.{product}
use Rattle.byte.specs.declared.symbol.ByteSymbol.{ByteSymbol}
use Rattle.byte.specs.Equal.{same_symbol}
use Rattle.byte.specs.Symbols.{symbol, value_of_symbol}
use Rattle.codes.specs.Parity.{parity}
use Rattle.plan.specs.Numbers.{PlanNumbers}
use Rattle.streams.specs.Streams.{Stream, past, Sends}
use Rattle.streams.specs.Logs.{settled, was_lost, Agrees, AllShare, TwoDiffer}
use Rattle.streams.specs.Logs.Log.{lost}
use Rattle.repair.specs.Losses.{LossRun, AllowsLog}
use Rattle.repair.proofs.Heard.{lost_late}
use Rattle.repair.proofs.Limits.{limits}
use Rattle.repair.proofs.Plans.{plan_law}
use Rattle.repair.specs.Law.{RepairsInTime}
use Rattle.repair.proofs.Deciding.{run_if, is_allowed, allowed_if}
use Rattle.examples.specs.Streams.{plan, link, counting, block}
use Rattle.examples.specs.Repairs.{RepairExamples, ByteLog, zeros, up_to_1, up_to_2, up_to_4, up_to_8, up_to_10, before_2, first_one}
use Rattle.examples.specs.Repairs.{single_plan, single_link, single, before_3, single_one, longer_plan, early_link, past_4, two_ones}
use Rattle.examples.specs.Repairs.{wider_plan, drawn, unspread_link, from_4, three_ones}
use Rattle.streams.proofs.Looking.{block_same}
use Rattle.byte.specs.Laws.{byte_laws}
use Rattle.byte.specs.Arithmetic.{byte_operations}
use Rattle.parities.proofs.Reaching.{packet_ago}
use Rattle.examples.proofs.Places.{Each, each, sends}
use Rattle.examples.proofs.Streams.{slot, slot_1, slot_2, slot_5}

-- a symbol is zero
abbrev Zero : ByteSymbol → Type 0
Zero x = ◌≡◌ {A = ℕ} 0 x.value

-- whether a log's losses are allowed is computed
allows : (numbers : PlanNumbers) (log : ByteLog) → is_allowed numbers (was_lost log) (settled log) ≡ true → AllowsLog numbers log
allows numbers log = allowed_if numbers (was_lost log) (settled log) (lost_late log)

-- the blocks of the slots behind those of the streams' examples
slot_6 : Sends link counting 6 (block 13 14 4)
unfolding product
slot_6 = slot counting 6 13 14 4 refl refl refl

slot_7 : Sends link counting 7 (block 15 16 4)
unfolding product
slot_7 = slot counting 7 15 16 4 refl refl refl

slot_8 : Sends link counting 8 (block 17 18 28)
unfolding product
slot_8 = slot counting 8 17 18 28 refl refl refl

slot_9 : Sends link counting 9 (block 19 20 28)
unfolding product
slot_9 = slot counting 9 19 20 28 refl refl refl

-- slot 0 is a run
run_0 : LossRun (was_lost up_to_10) 0 0
run_0 = run_if (was_lost up_to_10) 0 0 refl

-- and slots 3 and 4 are
run_3 : LossRun (was_lost up_to_10) 3 4
run_3 = run_if (was_lost up_to_10) 3 4 refl

-- the plan repairs in time
plan_in_time : RepairsInTime link plan
plan_in_time = plan_law byte_operations byte_laws plan (limits plan refl)

-- so packet 0 is known with slot T
packet_0 : AllShare link up_to_2 0
packet_0 =
    plan_in_time.short up_to_2 (allows plan up_to_2 refl) 0 0 0 (run_if (was_lost up_to_2) 0 0 refl)
    (omega arith) (omega arith) (omega arith) (omega arith)

-- slot 2 is one of the two behind slot 0
few_behind_short : AllowsLog plan (lost up_to_1) → ⊥
few_behind_short all = elim (all 0 0 (run_if (was_lost (lost up_to_1)) 0 0 refl)) [
  | inl short ↦ true≢false (short.1 2 (omega arith) (omega arith))
  | inr long ↦ let more : 1 < 1 = long.0.0 in omega arith
]

-- slot 9 is one of the five behind slot 4
few_behind_long : AllowsLog plan (lost up_to_8) → ⊥
few_behind_long all = elim (all 3 4 (run_if (was_lost (lost up_to_8)) 3 4 refl)) [
  | inl short ↦ let few : 2 ≤ 1 = short.0 in omega arith
  | inr long ↦ true≢false (long.1 9 (omega arith) (omega arith))
]

-- three are more than two
three_lost : AllowsLog plan (lost up_to_4) → ⊥
three_lost all = elim (all 3 5 (run_if (was_lost (lost up_to_4)) 3 5 refl)) [
  | inl short ↦ let few : 3 ≤ 1 = short.0 in omega arith
  | inr long ↦ let few : 3 ≤ 2 = long.0.1 in omega arith
]

-- the symbols 0 and 1 are two
zero_is_not_one : symbol 0 ≢ symbol 1
zero_is_not_one e = let same : ◌≡◌ {A = ℕ} 0 1 = ap value_of_symbol e in omega arith

-- the stream of the packet (1,0) sends zeros in slot 1
short_unknown : TwoDiffer link before_2 0
unfolding product
short_unknown = record {
  one = zeros;
  other = first_one;
  one_agrees = (tt, slot zeros 1 0 0 0 refl refl refl);
  other_agrees = (tt, slot first_one 1 0 0 0 refl refl refl);
  sub = 0;
  place = 0;
  sub_within = omega arith;
  place_within = omega arith;
  differ = zero_is_not_one;
}

-- a stream of packets of one byte agrees, if packet and parity of slot 2 are zero
single_agrees : (stream : Stream ByteSymbol) → Zero (stream 2 0 0) → Zero (parity single_link (past single_link stream 2) 0 0)
    → Agrees single_link before_3 stream
single_agrees stream own last =
    (tt, sends value_of_symbol same_symbol single_link stream 2 (single 0 0) refl ((own, tt), tt) ((last, tt), tt))

-- so they are with 1 in slot 0
long_unknown : TwoDiffer single_link before_3 0
unfolding product
long_unknown = record {
  one = zeros;
  other = single_one;
  one_agrees = single_agrees zeros refl refl;
  other_agrees = single_agrees single_one refl refl;
  sub = 0;
  place = 0;
  sub_within = omega arith;
  place_within = omega arith;
  differ = zero_is_not_one;
}

-- with the early delay zeros are sent, if packet and parity are zero
early_sent : (stream : Stream ByteSymbol) (t : ℕ) → Zero (stream t 0 0) → Zero (parity early_link (past early_link stream t) 0 0)
    → Sends early_link stream t (single 0 0)
early_sent stream t own last =
    sends value_of_symbol same_symbol early_link stream t (single 0 0) refl ((own, tt), tt) ((last, tt), tt)

-- so they are in slots 3 and 4 with 1 in slots 0 and 2
early_unknown : TwoDiffer early_link past_4 0
unfolding product
early_unknown = record {
  one = zeros;
  other = two_ones;
  one_agrees = ((tt, early_sent zeros 3 refl refl), early_sent zeros 4 refl refl);
  other_agrees = ((tt, early_sent two_ones 3 refl refl), early_sent two_ones 4 refl refl);
  sub = 0;
  place = 0;
  sub_within = omega arith;
  place_within = omega arith;
  differ = zero_is_not_one;
}

-- with the delay that is not spread zeros are sent, if packet and parity are zero
unspread_sent : (stream : Stream ByteSymbol) (t : ℕ) → Zero (stream t 0 0) → Zero (stream t 1 0)
    → Zero (parity unspread_link (past unspread_link stream t) 0 0) → Sends unspread_link stream t (block 0 0 0)
unspread_sent stream t first second last =
    sends value_of_symbol same_symbol unspread_link stream t (block 0 0 0) refl ((first, tt), ((second, tt), tt)) ((last, tt), tt)

-- that stream is zero from slot 4 on
three_ones_end : (t k i : ℕ) → 4 ≤ t → three_ones t k i ≡ symbol 0
three_ones_end t k i late =
    ap symbol (get_or_past (0 ∷ 1 ∷ 0 ∷ 1 ∷ 0 ∷ 0 ∷ 1 ∷ 0 ∷ []) ((t * 2 + k) * 1 + i) 0 (omega arith))

-- a parity reaches back seven slots, so from slot 11 on zeros are sent, if the stream is zero from slot 4 on
sent_late : (stream : Stream ByteSymbol) → ((t k i : ℕ) → 4 ≤ t → stream t k i ≡ symbol 0) → (t : ℕ) → 11 ≤ t
    → Sends unspread_link stream t (block 0 0 0)
unfolding product
sent_late stream end t late =
    block_same unspread_link byte_laws (past unspread_link zeros 7) (past unspread_link stream t) (block 0 0 0)
    (λ a k i la lk li.
    packet_ago unspread_link byte_laws zeros 7 a k i (omega arith) ∙ sym (end (t - a) k i (omega arith))
    ∙ sym (packet_ago unspread_link byte_laws stream t a k i (omega arith)))
    (unspread_sent zeros 7 refl refl refl)

-- so zeros are sent from slot 4 on, if they are in slots 4 to 10
module _ (stream : Stream ByteSymbol) (end : (t k i : ℕ) → 4 ≤ t → stream t k i ≡ symbol 0)
    (early : Each 7 (λ u. Sends unspread_link stream (u + 4) (block 0 0 0))) where
  sent_from : (t : ℕ) → 4 ≤ t → Sends unspread_link stream t (block 0 0 0)
  sent_from t late = elim (cases_lt t 11) [
    | inl soon ↦
        let slot : t - 4 + 4 ≡ t = omega arith in
        subst (λ (u : ℕ). Sends unspread_link stream u (block 0 0 0)) slot
        (each 7 (λ u. Sends unspread_link stream (u + 4) (block 0 0 0)) early (t - 4) (omega arith))
    | inr far ↦ sent_late stream end t far
  ]

  -- more slots than those lost are settled
  from_slot_4 : (count : ℕ) → 4 ≤ settled (from_4 count)
  from_slot_4 zero = omega arith
  from_slot_4 (suc count) = omega (arith, from_slot_4 count)

  -- and the stream agrees
  agrees_on : (count : ℕ) → Agrees unspread_link (from_4 count) stream
  agrees_on zero = tt
  agrees_on (suc count) = (agrees_on count, sent_from (settled (from_4 count)) (from_slot_4 count))

-- the stream of zeros agrees
zeros_agree : (count : ℕ) → Agrees unspread_link (from_4 count) zeros
unfolding product
zeros_agree =
    let at = unspread_sent zeros in
    agrees_on zeros (λ t k i late. refl) (
      at 4 refl refl refl,
      (
        at 5 refl refl refl,
        (
          at 6 refl refl refl,
          (
            at 7 refl refl refl,
            (at 8 refl refl refl, (at 9 refl refl refl, (at 10 refl refl refl, tt))),
          ),
        ),
      ),
    )

-- and so does the other
three_ones_agree : (count : ℕ) → Agrees unspread_link (from_4 count) three_ones
unfolding product
three_ones_agree =
    let at = unspread_sent three_ones in
    agrees_on three_ones three_ones_end (
      at 4 refl refl refl,
      (
        at 5 refl refl refl,
        (
          at 6 refl refl refl,
          (
            at 7 refl refl refl,
            (at 8 refl refl refl, (at 9 refl refl refl, (at 10 refl refl refl, tt))),
          ),
        ),
      ),
    )

-- and they differ in slot 0
unspread_unknown : (count : ℕ) → TwoDiffer unspread_link (from_4 count) 0
unspread_unknown count = record {
  one = zeros;
  other = three_ones;
  one_agrees = zeros_agree count;
  other_agrees = three_ones_agree count;
  sub = 1;
  place = 0;
  sub_within = omega arith;
  place_within = omega arith;
  differ = zero_is_not_one;
}

-- whatever is heard behind slot 3, the losses are the same
unspread_allowed : (count : ℕ) → AllowsLog wider_plan (from_4 count)
unspread_allowed zero = allows wider_plan (from_4 0) refl
unspread_allowed (suc count) = unspread_allowed count

-- all of them
pub repairs : RepairExamples
repairs = record {
  is_plan = refl;
  is_single = refl;
  is_longer = refl;
  is_wider = refl;
  run_0 = run_0;
  short_0 = omega arith;
  run_3 = run_3;
  long_3 = (omega arith, omega arith);
  enough = allows plan up_to_10 refl;
  agrees = (((((((tt, slot_1), slot_2), slot_5), slot_6), slot_7), slot_8), slot_9);
  packet_0 = packet_0;
  packet_3 = plan_in_time.all up_to_8 (allows plan up_to_8 refl) 3 (omega arith);
  few_behind_short = few_behind_short;
  few_behind_long = few_behind_long;
  three_lost = three_lost;
  one_is_short = λ long. let more : 1 < 1 = long.0 in omega arith;
  drawn_allowed = allows wider_plan drawn refl;
  short_allowed = allows plan before_2 refl;
  short_next = refl;
  short_unknown = short_unknown;
  long_allowed = allows single_plan before_3 refl;
  long_next = refl;
  long_unknown = long_unknown;
  early_allowed = allows longer_plan past_4 refl;
  early_settled = omega arith;
  early_unknown = early_unknown;
  unspread_allowed = unspread_allowed;
  unspread_unknown = unspread_unknown;
}
