-- What is waited for at each word of a frame. Assumes nothing.
use Rattle.std.proofs.Common.{◌≡◌, ℕ, suc, ◌+◌, ◌-◌, ◌*◌, ◌<◌, ◌≤◌, min, Bool, true, false, not, eqb, ltb, List, length, Some, None, sym, refl, ap, ◌∙◌, subst, mul-pos, arith}
use Rattle.std.proofs.lemmas.Bool.{cond-true, cond-false, cond_both, lt-ltb, le-ltb, ltb-true, ltb-false, or_parts, not-false}
use Rattle.layout.specs.declared.head.Head.{Head}
use Rattle.layout.specs.FaultNumber.{Fault}
use Rattle.layout.specs.Faults.{Place, place_at, kind_at, wrong_at, wrong_head, head_in_words, head_of, word_count, word_fault, frame_fault, first_below, at_fault, place_fault}
use Rattle.layout.specs.Faults.Place.{shape_place, data_place, count_place}
use Rattle.layout.specs.Kinds.{kind_of}
use Rattle.layout.specs.Layout.{byte_count, count_of_data, is_width, outside_shape}
use Rattle.layout.specs.Words.{bits, word_in}
use Rattle.layout.proofs.Limits.{sources_within, symbols_within, width_within}
use Rattle.layout.proofs.First.{first_none_more, first_at}
use Rattle.frame_reader.specs.declared.check.Checked.{Checked}
use Rattle.frame_reader.specs.declared.steps.Expected.{Expected}
use Rattle.frame_reader.specs.declared.steps.Expected.TheVariants.{Slot, Shape, Data, Count}
use Rattle.std.specs.declared.ops.ControlFlow.{ControlFlow}
use Rattle.std.specs.declared.ops.ControlFlow.TheVariants.{Continue, Break}
use Rattle.frame_reader.specs.Checking.{checked_as}
use Rattle.frame_reader.specs.Steps.{next_from, place_of}

-- what is waited for at word i fits the words before it
abbrev pub Waits : List ℕ → ℕ → Expected → Type 0
Waits bs i Slot = i ≡ 0
Waits bs i (Shape slot) = (i ≡ 1) × (slot ≡ (head_of bs).slot)
Waits bs i (Data head left) =
    (head ≡ head_of bs) × ((j : ℕ) × ((i ≡ suc (suc j)) × ((left ≡ byte_count (head_of bs) - 3 * j) × (3 * j < byte_count (head_of bs)))))
Waits bs i (Count head) = (head ≡ head_of bs) × (i ≡ suc (suc (count_of_data (byte_count (head_of bs)))))

-- a step leads to what is waited for at word i, or there to the end
abbrev pub Leads : List ℕ → ℕ → ControlFlow Head Expected → Type 0
Leads bs i (Continue e) = Waits bs i e
Leads bs i (Break head) = (head ≡ head_of bs) × (i ≡ word_count (head_of bs))

-- what is waited for fits, and no word so far is at fault
pub record Reached (bs : List ℕ) (i : ℕ) (e : Expected) : Type 0 where
  pub right : first_below (word_fault bs) i ≡ None
  pub waits : Waits bs i e

pub start : (bs : List ℕ) → Reached bs 0 Slot
start bs = record { right = refl; waits = refl }

data_at : (n i j left : ℕ) → i ≡ suc (suc j) → left ≡ n - 3 * j → 3 * j < n → data_place (min 3 left) ≡ place_at n i
data_at n i j left at is some =
    ap (λ m. data_place (min 3 m)) is ∙ sym (cond-true _ _ _ (lt-ltb j (count_of_data n) (omega arith))) ∙ ap (place_at n) (sym at)

count_at : (n i : ℕ) → i ≡ suc (suc (count_of_data n)) → count_place i ≡ place_at n i
count_at n i at =
    let two : i ≡ 2 + count_of_data n = omega arith in
    ap count_place two ∙ sym (cond-false _ _ _ (le-ltb (count_of_data n) (count_of_data n) (omega arith))) ∙ ap (place_at n) (sym at)

-- a word that is not at fault has its bits right
passed : (l m i : ℕ) (k b : Bool) → at_fault k l i (at_fault b m i None) ≡ None → b ≡ false
passed l m i true b e = let z : ◌≡◌ {A = ℕ} 0 1 = cc in absurd (omega arith)
passed l m i false true e = let z : ◌≡◌ {A = ℕ} 0 1 = cc in absurd (omega arith)
passed l m i false false e = refl

bits_right : (p : Place) (i w : ℕ) → place_fault p i w ≡ None → wrong_at p w ≡ false
bits_right p i w = passed 7 8 i (not (eqb (kind_of w) (kind_at p))) (wrong_at p w)

some_bytes : (h : Head) → wrong_head h ≡ false → 0 < byte_count h
some_bytes h right =
    let parts = or_parts (outside_shape h.shape) (not (is_width h.width)) right in
    let k = sources_within h.shape parts.0 in
    let l = symbols_within h.shape parts.0 in
    let w = width_within h.width (not-false _ parts.1) in
    mul-pos (mul-pos (omega arith) (omega arith)) (omega arith)

module _ (bs : List ℕ) where
  -- the frame does not end before it
  pub waits_lt : (i : ℕ) (e : Expected) → Waits bs i e → i < word_count (head_of bs)
  waits_lt i Slot w = omega arith
  waits_lt i (Shape slot) w = omega (arith, w.0)
  waits_lt i (Data head left) w = let at = w.1.1.0 in let some = w.1.1.1.1 in omega arith
  waits_lt i (Count head) w = omega (arith, w.1)

  -- it is the place that the frame has there
  pub waits_place : (i : ℕ) (e : Expected) → Waits bs i e → place_of e i ≡ place_at (byte_count (head_of bs)) i
  waits_place i Slot w = sym (ap (place_at (byte_count (head_of bs))) w)
  waits_place i (Shape slot) w = sym (ap (place_at (byte_count (head_of bs))) w.0)
  waits_place i (Data head left) w = data_at (byte_count (head_of bs)) i w.1.0 left w.1.1.0 w.1.1.1.0 w.1.1.1.1
  waits_place i (Count head) w = count_at (byte_count (head_of bs)) i w.1

  -- what is wrong with a word that is there is told by the place that is waited for
  fault_there : (i : ℕ) (e : Expected) → Waits bs i e → 4 * i + 4 ≤ length bs → word_fault bs i ≡ place_fault (place_of e i) i (word_in bs i)
  fault_there i e w there =
      cond-false _ _ _ (le-ltb (length bs) (4 * i + 4) there) ∙ ap (λ (p : Place). place_fault p i (word_in bs i)) (sym (waits_place i e w))

  leads : (i : ℕ) (e : Expected) → Waits bs i e → place_fault (place_of e i) i (word_in bs i) ≡ None → Leads bs (suc i) (next_from e (word_in bs i))
  leads i Slot w right = (ap suc w, ap (λ n. bits 27 0 (word_in bs n)) w)
  leads i (Shape slot) w right =
      let head : head_in_words slot (word_in bs i) ≡ head_of bs =
      ap (λ n. head_in_words n (word_in bs i)) w.1 ∙ ap (λ n. head_in_words (head_of bs).slot (word_in bs n)) w.0 in
      let some : 0 < byte_count (head_in_words slot (word_in bs i)) = some_bytes (head_in_words slot (word_in bs i)) (bits_right shape_place i (word_in bs i) right) in
      (head, (0, (ap suc w.0, (omega (arith, ap byte_count head), subst (λ (h : Head). 0 < byte_count h) head some))))
  leads i (Data head left) w right =
      let n = byte_count (head_of bs) in
      let j = w.1.0 in
      let at = w.1.1.0 in
      let is = w.1.1.1.0 in
      let some = w.1.1.1.1 in
      cond_both (ltb 3 left) (Data head (left - 3)) (Count head) (λ (e : Expected). Waits bs (suc i) e)
      (λ t. let more = ltb-true 3 left t in (w.0, (suc j, (omega arith, (omega arith, omega arith)))))
      (λ t. let last = ltb-false 3 left t in (w.0, omega arith))
  leads i (Count head) w right = (w.0, omega (arith, w.1))

  -- the word that is read there
  module _ (i : ℕ) (e : Expected) (w : ℕ) (r : Reached bs i e) (there : 4 * i + 4 ≤ length bs) (is : w ≡ word_in bs i) where
    -- it is at fault
    pub faulty : (fault : Fault) → Some fault ≡ place_fault (place_of e i) i w → frame_fault bs ≡ Some fault
    faulty fault wrong =
        first_at (word_fault bs) i (word_count (head_of bs)) fault r.right
        (fault_there i e r.waits there ∙ ap (place_fault (place_of e i) i) (sym is) ∙ sym wrong) (waits_lt i e r.waits)

    -- it is not, and leads on
    module _ (right : None ≡ place_fault (place_of e i) i w) where
      fine : place_fault (place_of e i) i (word_in bs i) ≡ None
      fine = ap (place_fault (place_of e i) i) (sym is) ∙ sym right

      so_far : first_below (word_fault bs) (suc i) ≡ None
      so_far = first_none_more (word_fault bs) i r.right (fault_there i e r.waits there ∙ fine)

      leads_on : (s : ControlFlow Head Expected) → s ≡ next_from e w → Leads bs (suc i) s
      leads_on s to = subst (λ (t : ControlFlow Head Expected). Leads bs (suc i) t) (sym (to ∙ ap (next_from e) is)) (leads i e r.waits fine)

      -- to the next word
      pub onward : (next : Expected) → Continue next ≡ next_from e w → Reached bs (i + 1) next
      onward next to =
          let one : suc i ≡ i + 1 = omega arith in
          subst (λ n. Reached bs n next) one (record { right = so_far; waits = leads_on (Continue next) to })

      -- to the frame's end
      module _ (last : Head) (to : Break last ≡ next_from e w) where
        pub whole : frame_fault bs ≡ None
        whole = ap (first_below (word_fault bs)) (sym (leads_on (Break last) to).1) ∙ so_far

        pub said : ◌≡◌ {A = Checked} (record { head = last; words = i + 1 }) (checked_as (head_of bs))
        said =
            let words : i + 1 ≡ word_count (head_of bs) = omega (arith, (leads_on (Break last) to).1) in
            λ k. record { head = (leads_on (Break last) to).0 k; words = words k }

  -- the word that is missing
  pub missing : (i : ℕ) (e : Expected) → Reached bs i e → length bs < 4 * i + 4 → frame_fault bs ≡ Some (record { number = 6; word = i })
  missing i e r short =
      first_at (word_fault bs) i (word_count (head_of bs)) (record { number = 6; word = i }) r.right (cond-true _ _ _ (lt-ltb (length bs) (4 * i + 4) short)) (waits_lt i e r.waits)
