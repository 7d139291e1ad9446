use Rattle.std.proofs.Common.{◌≡◌, ℕ, List, [], ◌++◌, string_bytes, sym, Option, Some, None, inl, inr, ◌⊎◌, Err, refl}
use Rattle.std.specs.Prelude.{Result}
use Rattle.std.specs.Result.{MatchResult}
use Rattle.std.specs.Option.{ok_or}
use Rattle.std.proofs.lemmas.Result.{IfOk-weaker}
use Rattle.refusal.specs.declared.Refusal.{Refusal}
use Rattle.refusal.specs.declared.Refusal.TheVariants.{BrokenLine}
use Rattle.linktext.specs.Fields.{lines_of}
use Rattle.transcript.specs.Transcript.{Transcript}
use Rattle.transcript.specs.Transcript.Transcript.{nothing, unplanned, planned}
use Rattle.transcript.proofs.whole.transcript.Goals as goal

-- the first line, if there is one, was handed on; where there is none, its want is the refusal
handed_on : {X P : Type 0} (r : Option X) (first : Result X Refusal) (made : Result P Refusal) (Post : X → Type 0)
    → first ≡ ok_or r BrokenLine → MatchResult first Post (λ e. made ≡ Err e)
    → ((r ≡ None) × (made ≡ Err BrokenLine)) ⊎ ((x : X) × ((r ≡ Some x) × Post x))
handed_on None first made Post is m = inl (refl, rw is at m)
handed_on (Some x) first made Post is m = inr (x, (refl, rw is at m))

-- shown for these lines, behind nothing
alone : {lines these : List (List ℕ)} {before out shown : List ℕ} → lines ≡ these → before ≡ [] → out ≡ before ++ shown → Transcript these shown → Transcript lines out
alone same none is run = rw (same, is, none) run

pub returns-in-Err : goal.returns-in-Err
returns-in-Err c =
    let why = c.in-Err.why in
    elim (handed_on c.next.result c.ok_or-first.result c.and_then.result _ c.ok_or-first.ensures.value c.and_then.ensures) [
      | inl n ↦
          let lines = rw (c.new-lines.ensures) at ((rw n.0 at c.next.ensures.steps).0) in
          let broken : why ≡ BrokenLine = cc (n.1, c.in-Err.is) in
          IfOk-weaker c.with_refusal.result _ (λ s. Transcript (lines_of c.args.text.now) (string_bytes s))
          (λ s is. alone lines c.new.ensures.bytes (rw broken at is) nothing) c.with_refusal.ensures
      | inr x ↦
          let lines = rw (c.new-lines.ensures) at (rw x.1.0 at c.next.ensures.steps) in
          let refused = rw c.in-Err.is at x.1.1.0 in
          IfOk-weaker c.with_refusal.result _ (λ s. Transcript (lines_of c.args.text.now) (string_bytes s))
          (λ s is. alone lines c.new.ensures.bytes is (unplanned why (sym refused))) c.with_refusal.ensures
    ]

pub returns : goal.returns
returns c =
    let plan = c.in-Ok.plan in
    elim (handed_on c.next.result c.ok_or-first.result c.and_then.result _ c.ok_or-first.ensures.value c.and_then.ensures) [
      | inl n ↦ absurd (cc (n.1, c.in-Ok.is))
      | inr x ↦
          let lines = rw (c.new-lines.ensures) at (rw x.1.0 at c.next.ensures.steps) in
          let read = rw c.in-Ok.is at x.1.1.0 in
          let says = rw c.in-Ok.is at x.1.1.1 in
          rw (lines, c.in_ok-push_str.ensures.bytes, c.as_str.ensures.value, c.in_ok-out.ensures)
          (planned (string_bytes c.in_ok-send_in.field-0) plan (sym read) says c.in_ok-send_in.ensures)
    ]
