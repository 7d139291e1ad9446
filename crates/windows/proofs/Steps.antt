-- What a system stands for, slot by slot. Assumes nothing.
use Rattle.std.proofs.Common.{◌≡◌, ℕ, ◌+◌, ◌-◌, ◌*◌, ◌/◌, ◌%◌, ◌<◌, ◌≤◌, ◌↔◌, inl, inr, sym, ap, ap₂, refl, ◌∙◌, subst, add-mul, one-mul, arith, rules}
use Rattle.std.specs.Prelude.{List, nat_le}
use Rattle.std.proofs.lemmas.Bool.{cases_eq, cases_lt, cond-true}
use Rattle.std.proofs.lemmas.Nat.{div-mul-add, mod-mul-add}
use Rattle.arithmetic.specs.Laws.{ArithmeticLaws}
use Rattle.codes.specs.Link.{Link}
use Rattle.codes.proofs.Places.{below, each_place}
use Rattle.systems.specs.System.{System}
use Rattle.systems.specs.Form.{StandsFor, ZeroContent}
use Rattle.systems.specs.Moving.{Continues}
use Rattle.streams.specs.Streams.{Stream, past, last_packet, Sends, Shows}
use Rattle.streams.specs.Logs.{Log, settled, IsKnown}
use Rattle.streams.specs.Logs.Log.{none, lost, heard}
use Rattle.streams.proofs.Places.{a_packet_on}
use Rattle.streams.proofs.Looking.{block_same, past_now, last_is_past, last_moves, last_before}
use Rattle.streams.proofs.Putting.{put, put_there, put_front, last_put, agrees_front}
use Rattle.windows.specs.Window.{window_size, Seen, window_ago, Carries, HasNumber}
use Rattle.windows.specs.Law.{WindowLaw}

-- the window of a stream at slot n, as unknowns
abbrev window_of : {F S : Type 0} → Link F S → ℕ → Stream S → ℕ → ℕ → ℕ → S
window_of link w stream n u i = last_packet link w stream n (u / link.shape.sources) (u % link.shape.sources) i

-- an unknown behind which there is a packet more lies in the packets before the last
before_last : (w s u : ℕ) → u + s < w * s → u < (w - 1) * s
before_last w s u l = elim (cases_eq w 0) [
  | inl empty ↦ let h = subst (λ (m : ℕ). u + s < m * s) empty l in absurd (omega arith)
  | inr full ↦
      let more : w - 1 + 1 ≡ w = omega arith in
      let all = ap (λ (m : ℕ). m * s) more in
      let parts = add-mul (w - 1) 1 s in
      omega (arith, one-mul s)
]

module _ {F S : Type 0} (link : Link F S) (w : ℕ) where
  window_shows : (stream : Stream S) (n : ℕ) → Shows link w stream n (window_of link w stream n)
  window_shows stream n v k i lv lk li =
      ap₂ (λ q r. last_packet link w stream n q r i) (div-mul-add v link.shape.sources k lk) (mod-mul-add v link.shape.sources k lk)

  -- at first every packet is zero
  pub first_window : (x : ℕ → ℕ → S) → ZeroContent link.operations (window_size link w) x ↔ Seen link w none x
  first_window x = (there, back) where
    there : ZeroContent link.operations (window_size link w) x → Seen link w none x
    there zeros = (
      (λ t k i. link.operations.symbols.zero),
      (
        tt,
        λ v k i lv lk li.
            zeros (v * link.shape.sources + k) i (below w link.shape.sources v k lv lk) li
            ∙ sym (last_before link w 0 v (omega arith) (λ t k i. link.operations.symbols.zero) k i),
      ),
    )

    back : Seen link w none x → ZeroContent link.operations (window_size link w) x
    back (stream, (agrees, shows)) u p lu lp =
        each_place w link.shape.sources (λ (u : ℕ). x u p ≡ link.operations.symbols.zero)
        (λ v k lv lk. shows v k p lv lk lp ∙ last_before link w 0 v (omega arith) stream k p) u lu

  -- what the window shows of a stream after a slot more, it shows of the older packets before
  goes_back : (stream : Stream S) (n : ℕ) (x : ℕ → ℕ → S) → Shows link w stream (n + 1) x
      → (u p : ℕ) → u + link.shape.sources < w * link.shape.sources → p < link.symbols
      → window_of link w stream n (u + link.shape.sources) p ≡ x u p
  goes_back stream n x shows u p lu lp =
      let s = link.shape.sources in
      each_place (w - 1) s (λ (u : ℕ). window_of link w stream n (u + s) p ≡ x u p)
      (λ v k lv lk.
      ap (λ u. window_of link w stream n u p) (a_packet_on v k s)
      ∙ window_shows stream n (v + 1) k p (omega arith) lk lp
      ∙ last_moves link w n v stream k p
      ∙ sym (shows v k p (omega arith) lk lp))
      u (before_last w s u lu)

  -- a stream whose window goes on as x, with x's youngest packet in slot n, has x as its next window
  goes_on : (stream : Stream S) (n : ℕ) (x y : ℕ → ℕ → S) → Shows link w stream n y
      → ((u p : ℕ) → u + link.shape.sources < w * link.shape.sources → p < link.symbols → y (u + link.shape.sources) p ≡ x u p)
      → Shows link w (put n (window_ago link w x 0) stream) (n + 1) x
  goes_on stream n x y shows goes v k p lv lk lp =
      let put_on = put n (window_ago link w x 0) stream in
      elim (cases_lt (v + 1) w) [
        | inl older ↦
            let room = below w link.shape.sources (v + 1) k older lk in
            let next = a_packet_on v k link.shape.sources in
            sym (goes (v * link.shape.sources + k) p (omega arith) lp)
            ∙ ap (λ u. y u p) next
            ∙ shows (v + 1) k p older lk lp
            ∙ last_moves link w n v stream k p
            ∙ sym (last_put link w (n + 1) v n (omega arith) (window_ago link w x 0) stream k p)
        | inr youngest ↦
            let last : v ≡ w - 1 - 0 = omega arith in
            ap (λ u. x (u * link.shape.sources + k) p) last
            ∙ sym (put_there n (window_ago link w x 0) stream n k p refl)
            ∙ sym (past_now link put_on n k p)
            ∙ sym (last_is_past link w (n + 1) v n 0 (omega arith) put_on k p)
      ]

module _ {F S : Type 0} (link : Link F S) (laws : ArithmeticLaws link.operations) (w : ℕ) (reaches : link.shape.memory < w) where
  -- a loss: nothing is learned, and any packet may have been the one that was lost
  pub lost_step : (old : System F S) (log : Log S) → StandsFor link.operations (window_size link w) old (Seen link w log)
      → (x : ℕ → ℕ → S) → Continues link.operations (window_size link w) link.shape.sources old x ↔ Seen link w (lost log) x
  lost_step old log stands x = (there, back) where
    there : Continues link.operations (window_size link w) link.shape.sources old x → Seen link w (lost log) x
    there (y, (solves, goes)) =
        let seen = (stands y).0 solves in
        let n = settled log in
        let packet = window_ago link w x 0 in (
          put n packet seen.0,
          (
            agrees_front link laws log seen.0 (put n packet seen.0) (put_front link n packet seen.0) seen.1.0,
            goes_on link w seen.0 n x y seen.1.1 goes,
          ),
        )

    back : Seen link w (lost log) x → Continues link.operations (window_size link w) link.shape.sources old x
    back (stream, (agrees, shows)) = (
      window_of link w stream (settled log),
      ((stands _).1 (stream, (agrees, window_shows link w stream (settled log))), goes_back link w stream (settled log) x shows),
    )

  -- looking back from slot n is the same in the window and in the stream
  same_past : (stream : Stream S) (n : ℕ) (x : ℕ → ℕ → S) → Shows link w stream (n + 1) x
      → (a k i : ℕ) → a ≤ link.shape.memory → k < link.shape.sources → i < link.symbols
      → window_ago link w x a k i ≡ past link stream n a k i
  same_past stream n x shows a k i la lk li =
      shows (w - 1 - a) k i (omega arith) lk li ∙ last_is_past link w (n + 1) (w - 1 - a) n a (omega arith) stream k i

  carries_sends : (stream : Stream S) (n : ℕ) (block : List S) (x : ℕ → ℕ → S) → Shows link w stream (n + 1) x
      → Carries link w block x ↔ Sends link stream n block
  carries_sends stream n block x shows =
      let same = same_past stream n x shows in (
        block_same link laws (window_ago link w x) (past link stream n) block same,
        block_same link laws (past link stream n) (window_ago link w x) block (λ a k i la lk li. sym (same a k i la lk li)),
      )

  -- a block: the packet that came is the youngest, and its parities tell of the others
  pub heard_step : (old : System F S) (log : Log S) → StandsFor link.operations (window_size link w) old (Seen link w log)
      → (block : List S) (x : ℕ → ℕ → S)
      → (Continues link.operations (window_size link w) link.shape.sources old x × Carries link w block x) ↔ Seen link w (heard log block) x
  heard_step old log stands block x = (there, back) where
    there : Continues link.operations (window_size link w) link.shape.sources old x × Carries link w block x → Seen link w (heard log block) x
    there (goes, carries) =
        let seen = (lost_step old log stands x).0 goes in
        (seen.0, ((seen.1.0, (carries_sends seen.0 (settled log) block x seen.1.1).0 carries), seen.1.1))

    back : Seen link w (heard log block) x → Continues link.operations (window_size link w) link.shape.sources old x × Carries link w block x
    back (stream, ((agrees, sends), shows)) =
        ((lost_step old log stands x).1 (stream, (agrees, shows)), (carries_sends stream (settled log) block x shows).1 sends)

  -- packet number v of all windows that are seen, and the packet of its slot in all streams that agree
  known_packet : (log : Log S) (v : ℕ) (packet : List S) → v < w → w ≤ settled log + v
      → ((x : ℕ → ℕ → S) → Seen link w log x → HasNumber link v packet x) ↔ IsKnown link log (settled log + v - w) packet
  known_packet log v packet lv late = (there, back) where
    its_slot : (stream : Stream S) (k i : ℕ) → last_packet link w stream (settled log) v k i ≡ stream (settled log + v - w) k i
    its_slot stream k i = cond-true (nat_le w (settled log + v)) _ _ (search (rules, late))

    there : ((x : ℕ → ℕ → S) → Seen link w log x → HasNumber link v packet x) → IsKnown link log (settled log + v - w) packet
    there shared stream agrees k i lk li =
        let shows = window_shows link w stream (settled log) in
        shared (window_of link w stream (settled log)) (stream, (agrees, shows)) k i lk li ∙ shows v k i lv lk li ∙ its_slot stream k i

    back : IsKnown link log (settled log + v - w) packet → (x : ℕ → ℕ → S) → Seen link w log x → HasNumber link v packet x
    back known x (stream, (agrees, shows)) k i lk li =
        known stream agrees k i lk li ∙ sym (its_slot stream k i) ∙ sym (shows v k i lv lk li)

  pub window_law : WindowLaw link w
  window_law = record {
    some = λ stream n. (window_of link w stream n, window_shows link w stream n);
    first = first_window link w;
    next = λ old log stands. record { lost = lost_step old log stands; heard = heard_step old log stands };
    known = known_packet;
  }
