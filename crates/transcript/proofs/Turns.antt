-- A run of lines, taken in one after the other. Assumes nothing.
use Rattle.std.proofs.Common.{◌≡◌, ℕ, ◌+◌, List, [], ◌∷◌, ◌++◌, Some, None, Err, sym, refl, ◌∙◌, append_assoc, append-nil, arith}
use Rattle.arithmetic.specs.Laws.{ArithmeticLaws}
use Rattle.arithmetic.specs.Operations.{Bytes}
use Rattle.codes.specs.Link.{Link}
use Rattle.codes.specs.Shape.{packet_size}
use Rattle.refusal.specs.declared.Refusal.{Refusal}
use Rattle.refusal.specs.Number.{number_of}
use Rattle.streams.specs.Streams.{symbol_at, HasPacket, HasHistory}
use Rattle.streams.proofs.Putting.{put, put_there, put_before, last_put, sends_front}
use Rattle.hextext.specs.declared.error.ReadError.{ReadError}
use Rattle.hextext.specs.declared.error.ReadError.TheVariants.{Refused, NoMemory}
use Rattle.linktext.specs.Lines.{text_of_refusal}
use Rattle.transcript.specs.Lines.{line_refusal, packet_in}
use Rattle.transcript.specs.Lines.HandedIn.{ended, stopped, taken}
use Rattle.transcript.specs.Steps.{Stepped, Answers, Ends, PrintedFrom}

module _ {F S : Type 0} (link : Link F S) (b : Bytes S) where
  -- no line is left
  printed_end : (history : List S) (slot : ℕ) → PrintedFrom link b history slot [] []
  printed_end history slot past has =
      (past, ((λ t k i _ _ _. refl), record { blocks = []; stop = None; sent = tt; packets = ended; text = refl }))

  -- a line is refused
  printed_stop : (history : List S) (slot : ℕ) (line : List ℕ) (lines : List (List ℕ)) (why : Refusal)
      → line_refusal b.width (packet_size link.shape link.symbols) slot line ≡ Some (number_of why)
      → PrintedFrom link b history slot (line ∷ lines) (text_of_refusal why (slot + 2) ++ (10 ∷ []))
  printed_stop history slot line lines why wrong past has =
      (past, ((λ t k i _ _ _. refl), record { blocks = []; stop = Some why; sent = tt; packets = stopped why wrong; text = refl }))

  -- a packet is sent, and the stream goes on with it
  printed_more : (laws : ArithmeticLaws link.operations) (history after : List S) (slot : ℕ) (line : List ℕ) (lines : List (List ℕ)) (shown out : List ℕ)
      → Stepped link b slot line history after shown → PrintedFrom link b after (slot + 1) lines out
      → PrintedFrom link b history slot (line ∷ lines) (shown ++ (10 ∷ out))
  printed_more laws history after slot line lines shown out step run past has =
      let m = link.shape.memory in
      let packet = packet_in link step.block in
      let own : ℕ → ℕ → S = λ k i. symbol_at link packet k i in
      let next = put slot own past in
      let has_history : HasHistory link next slot history =
      λ v k i lv lk li. has v k i lv lk li ∙ sym (last_put link m slot v slot (omega arith) own past k i) in
      let has_packet : HasPacket link next slot packet = λ k i lk li. sym (put_there slot own past slot k i refl) in
      let follows = step.streams next has_history has_packet in
      let rest = run next follows.1 in
      let same = rest.1.0 in
      let prints = rest.1.1 in (
        rest.0,
        (
          (λ t l k i lk li. sym (put_before slot own past t k i l) ∙ same t (omega arith) k i lk li),
          record {
            blocks = step.block ∷ prints.blocks;
            stop = prints.stop;
            sent = (sends_front link laws next rest.0 slot step.block same follows.0, prints.sent);
            packets = taken step.block step.right step.text prints.packets;
            text = rw (step.all_shown, prints.text) refl;
          },
        ),
      )

  -- `All` is what is said of the text for all lines: it holds of what was shown, with whatever the lines that are left show behind it
  abbrev pub Turned : (List ℕ → Type 0) → List S → ℕ → List (List ℕ) → List ℕ → Type 0
  Turned All history slot left out = (more : List ℕ) → PrintedFrom link b history slot left more → All (out ++ more)

  module _ (All : List ℕ → Type 0) where
    -- one line more
    pub turn : ArithmeticLaws link.operations → {history after : List S} {slot next : ℕ} {line : List ℕ} {left rest : List (List ℕ)} {shown now : List ℕ} (out : List ℕ)
        → rest ≡ line ∷ left → Stepped link b slot line history after shown → next ≡ slot + 1 → now ≡ out ++ (shown ++ (10 ∷ []))
        → Turned All history slot rest out → Turned All after next left now
    turn laws {history} {after} {slot} {next} {line} {left} {rest} {shown} {now} out cut step follows pushed before more run =
        let here = printed_more laws history after slot line left shown more step (rw follows at run) in
        let same : now ++ more ≡ out ++ (shown ++ (10 ∷ more)) = rw pushed (simp append_assoc) in
        rw same (before (shown ++ (10 ∷ more)) (rw cut here))

    -- a line ends the run
    pub break_off : {X : Type 0} (read : X → List ℕ) (history after : List S) (slot : ℕ) (line : List ℕ) {left rest : List (List ℕ)} (out text : List ℕ) (error : ReadError)
        → rest ≡ line ∷ left → Answers read link b slot line history after (Err error) → Ends error (slot + 2) out text
        → Turned All history slot rest out → All text
    break_off read history after slot line {left} out text (Refused why) cut wrong end before =
        rw end (before (text_of_refusal why (slot + 2) ++ (10 ∷ [])) (rw cut (printed_stop history slot line left why wrong)))
    break_off read history after slot line out text NoMemory cut wrong end before = absurd end

    -- no line is left
    pub done : (history : List S) (slot : ℕ) (out : List ℕ) {left : List (List ℕ)} → left ≡ []
        → Turned All history slot left out → All out
    done history slot out none before = rw append-nil at (before [] (rw none (printed_end history slot)))
