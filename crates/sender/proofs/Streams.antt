-- What a sender writes is what a stream sends. Assumes nothing.
use Rattle.std.proofs.Common.{◌≡◌, ℕ, ◌+◌, ◌-◌, ◌*◌, ◌<◌, ◌≤◌, inl, inr, sym, ap, ap₂, ◌∙◌, mul_assoc, add-mul, length-append, length-drop, arith}
use Rattle.std.specs.Prelude.{List, ◌++◌, length, take, drop, replicate, get_or, ◌==◌}
use Rattle.std.proofs.lemmas.Bool.{cases_eq, cases_lt, cond-true, cond-false, eq-eqb, ne_eqb}
use Rattle.std.proofs.lemmas.Nat.{div-mul-add, mod-mul-add}
use Rattle.std.proofs.lemmas.List.{get_or_append_left, get_or-append-add, get_or-drop, get_or-take, get_or-replicate, length-take-le, length-replicate}
use Rattle.std.proofs.lemmas.List.FromFn.{get_or-map-range_with_len, length-map-range_with_len}
use Rattle.arithmetic.specs.Laws.{ArithmeticLaws}
use Rattle.codes.specs.Shape.{packet_size, block_size}
use Rattle.codes.specs.Link.{Link}
use Rattle.codes.specs.Parity.{parity}
use Rattle.codes.proofs.Places.{below}
use Rattle.streams.specs.Streams.{Stream, symbol_at, past, IsBlock, HasPacket, HasHistory, Sends}
use Rattle.streams.proofs.Looking.{block_same, past_now, last_is_past, last_moves, last_before}
use Rattle.sender.specs.Block.{history_size, recent, symbol_of_parity, parities_of, block_of, history_after}
use Rattle.sender.specs.Sending.{FollowsStreams, TakesIn}
use Rattle.sender.proofs.Places.{in_history, packet_on}

-- a history of zeros is every stream's at slot 0
pub zeros_start : {F S : Type 0} (link : Link F S) (stream : Stream S) (behind : List S)
    → HasHistory link stream 0 (replicate (history_size link.shape link.symbols) link.operations.symbols.zero ++ behind)
zeros_start link stream behind v k i lv lk li =
    let zero = link.operations.symbols.zero in
    let all = history_size link.shape link.symbols in
    let n = (v * link.shape.sources + k) * link.symbols + i in
    let place : n < all = in_history link.shape.memory link.shape.sources link.symbols v k i lv lk li in
    get_or_append_left (replicate all zero) behind zero n (omega (arith, length-replicate all zero))
    ∙ get_or-replicate all n zero zero place
    ∙ sym (last_before link link.shape.memory 0 v (omega arith) stream k i)

module _ {F S : Type 0} (link : Link F S) (history packet : List S)
    (reaches : history_size link.shape link.symbols ≤ length history)
    (whole : length packet ≡ packet_size link.shape link.symbols) where
  block_packet : (k i : ℕ) → k < link.shape.sources → i < link.symbols
      → symbol_at link (block_of link history packet) k i ≡ symbol_at link packet k i
  block_packet k i lk li =
      let place = below link.shape.sources link.symbols k i lk li in
      get_or_append_left packet (parities_of link history packet) link.operations.symbols.zero (k * link.symbols + i) (omega arith)

  block_parity : (j i : ℕ) → j < link.shape.parities → i < link.symbols
      → symbol_at link (block_of link history packet) (link.shape.sources + j) i ≡ parity link (recent link history packet) j i
  block_parity j i lj li =
      let zero = link.operations.symbols.zero in
      let l = link.symbols in
      let n = j * l + i in
      let behind : (link.shape.sources + j) * l + i ≡ length packet + n = omega (arith, add-mul link.shape.sources j l) in
      ap (λ m. get_or (block_of link history packet) m zero) behind
      ∙ get_or-append-add packet (parities_of link history packet) n zero
      ∙ get_or-map-range_with_len (symbol_of_parity link history packet) 0 (link.shape.parities * l) n n zero
      (below link.shape.parities l j i lj li) (omega arith)
      ∙ ap₂ (parity link (recent link history packet)) (div-mul-add j l i li) (mod-mul-add j l i li)

  pub block_whole : length (block_of link history packet) ≡ block_size link.shape link.symbols
  block_whole =
      length-append packet (parities_of link history packet)
      ∙ ap₂ (λ a b. a + b) whole (length-map-range_with_len (symbol_of_parity link history packet) 0 (link.shape.parities * link.symbols))
      ∙ sym (add-mul link.shape.sources link.shape.parities link.symbols)

  -- the history afterwards begins in what was kept of it with the packet behind, a packet on
  after_front : (n : ℕ) → n < history_size link.shape link.symbols
      → get_or (history_after link history packet) n link.operations.symbols.zero
      ≡ get_or (take (history_size link.shape link.symbols) history ++ packet) (packet_size link.shape link.symbols + n) link.operations.symbols.zero
  after_front n l =
      let all = history_size link.shape link.symbols in
      let one = packet_size link.shape link.symbols in
      let zero = link.operations.symbols.zero in
      let kept = length-take-le all history reaches in
      let whole_length = length-append (take all history) packet in
      let front_length = length-drop one (take all history ++ packet) in
      get_or_append_left (drop one (take all history ++ packet)) (drop all history) zero n (omega arith)
      ∙ get_or-drop one (take all history ++ packet) n zero

  -- a packet of the history afterwards is the one younger before
  after_older : (v k i : ℕ) → v + 1 < link.shape.memory → k < link.shape.sources → i < link.symbols
      → symbol_at link (history_after link history packet) (v * link.shape.sources + k) i
      ≡ symbol_at link history ((v + 1) * link.shape.sources + k) i
  after_older v k i lv lk li =
      let m = link.shape.memory in
      let s = link.shape.sources in
      let l = link.symbols in
      let all = history_size link.shape link.symbols in
      let zero = link.operations.symbols.zero in
      let kept = length-take-le all history reaches in
      let place = in_history m s l (v + 1) k i lv lk li in
      after_front ((v * s + k) * l + i) (in_history m s l v k i (omega arith) lk li)
      ∙ ap (λ n. get_or (take all history ++ packet) n zero) (packet_on s l v k i)
      ∙ get_or_append_left (take all history) packet zero (((v + 1) * s + k) * l + i) (omega arith)
      ∙ get_or-take all history (((v + 1) * s + k) * l + i) zero place

  -- and the youngest is the one that was sent
  after_youngest : (v k i : ℕ) → v + 1 ≡ link.shape.memory → k < link.shape.sources → i < link.symbols
      → symbol_at link (history_after link history packet) (v * link.shape.sources + k) i ≡ symbol_at link packet k i
  after_youngest v k i e lk li =
      let m = link.shape.memory in
      let s = link.shape.sources in
      let l = link.symbols in
      let all = history_size link.shape link.symbols in
      let zero = link.operations.symbols.zero in
      let kept = length-take-le all history reaches in
      let rows = add-mul ((v + 1) * s) k l in
      let cells = mul_assoc (v + 1) s l in
      let last = ap (λ (n : ℕ). n * (s * l)) e in
      let place : s * l + ((v * s + k) * l + i) ≡ length (take all history) + (k * l + i) = omega (arith, packet_on s l v k i) in
      after_front ((v * s + k) * l + i) (in_history m s l v k i (omega arith) lk li)
      ∙ ap (λ n. get_or (take all history ++ packet) n zero) place
      ∙ get_or-append-add (take all history) packet (k * l + i) zero

  -- what lies behind the history is not touched
  after_behind : (n : ℕ) (x : S) → history_size link.shape link.symbols ≤ n → get_or (history_after link history packet) n x ≡ get_or history n x
  after_behind n x behind =
      let all = history_size link.shape link.symbols in
      let front = drop (packet_size link.shape link.symbols) (take all history ++ packet) in
      let kept = length-take-le all history reaches in
      let whole_length = length-append (take all history) packet in
      let front_length = length-drop (packet_size link.shape link.symbols) (take all history ++ packet) in
      let place : length front + (n - all) ≡ n = omega arith in
      let there : all + (n - all) ≡ n = omega arith in
      ap (λ m. get_or (history_after link history packet) m x) (sym place)
      ∙ get_or-append-add front (drop all history) (n - all) x
      ∙ get_or-drop all history (n - all) x
      ∙ ap (λ m. get_or history m x) there

  after_long : length (history_after link history packet) ≡ length history
  after_long =
      let all = history_size link.shape link.symbols in
      let front = drop (packet_size link.shape link.symbols) (take all history ++ packet) in
      let kept = length-take-le all history reaches in
      let whole_length = length-append (take all history) packet in
      let front_length = length-drop (packet_size link.shape link.symbols) (take all history ++ packet) in
      let rest = length-drop all history in
      length-append front (drop all history) ∙ omega arith

  pub takes_in : TakesIn link packet history (history_after link history packet)
  takes_in = record { last = after_youngest; others = after_older; behind = after_behind; as_long = after_long }

  -- what is written is the block from which the packets ago are those of history and packet
  pub written_block : IsBlock link (recent link history packet) (block_of link history packet)
  written_block = record {
    whole = block_whole;
    packet = λ k i lk li. block_packet k i lk li;
    parities = λ j i lj li. block_parity j i lj li;
  }

  module _ (laws : ArithmeticLaws link.operations) (slot : ℕ) (stream : Stream S)
      (old : HasHistory link stream slot history) (new : HasPacket link stream slot packet) where
    same_past : (a k i : ℕ) → a ≤ link.shape.memory → k < link.shape.sources → i < link.symbols
        → recent link history packet a k i ≡ past link stream slot a k i
    same_past a k i la lk li =
        let m = link.shape.memory in
        let of_packet = symbol_at link packet k i in
        let of_history = symbol_at link history ((m - a) * link.shape.sources + k) i in
        elim (cases_eq a 0) [
          | inl now ↦
              cond-true (a == 0) of_packet of_history (eq-eqb a 0 now)
              ∙ new k i lk li ∙ sym (past_now link stream slot k i)
              ∙ ap (λ b. past link stream slot b k i) (sym now)
          | inr before ↦
              cond-false (a == 0) of_packet of_history (ne_eqb a 0 before)
              ∙ old (m - a) k i (omega arith) lk li
              ∙ last_is_past link m slot (m - a) slot a (omega arith) stream k i
        ]

    sent : Sends link stream slot (block_of link history packet)
    sent = block_same link laws (recent link history packet) (past link stream slot) (block_of link history packet) same_past written_block

    after : HasHistory link stream (slot + 1) (history_after link history packet)
    after v k i lv lk li =
        let m = link.shape.memory in
        elim (cases_lt (v + 1) m) [
          | inl older ↦ after_older v k i older lk li ∙ old (v + 1) k i older lk li ∙ last_moves link m slot v stream k i
          | inr youngest ↦
              after_youngest v k i (omega arith) lk li ∙ new k i lk li ∙ sym (past_now link stream slot k i)
              ∙ sym (last_is_past link m (slot + 1) v slot 0 (omega arith) stream k i)
        ]

-- what a send writes follows the streams
pub follows_streams : {F S : Type 0} (link : Link F S) (laws : ArithmeticLaws link.operations) (slot : ℕ) (history packet : List S)
    → history_size link.shape link.symbols ≤ length history → length packet ≡ packet_size link.shape link.symbols
    → FollowsStreams link slot packet history (block_of link history packet) (history_after link history packet)
follows_streams link laws slot history packet reaches whole stream old new =
    (sent link history packet reaches whole laws slot stream old new, after link history packet reaches whole laws slot stream old new)
