-- What a log says of two streams that agree with it. Assumes nothing.
use Rattle.std.proofs.Common.{◌≡◌, ◌≤◌, ℕ, ◌≢◌, refl, ◌<◌, inl, inr, false, sym, subst, ◌∙◌, arith, rules}
use Rattle.std.specs.Prelude.{List}
use Rattle.std.proofs.lemmas.Bool.{cases_eq}
use Rattle.codes.specs.Link.{Link}
use Rattle.codes.specs.Parity.{parity}
use Rattle.streams.specs.Streams.{Stream, past, Sends, SamePacket}
use Rattle.streams.specs.Logs.{Log, settled, was_lost, Agrees}
use Rattle.streams.specs.Logs.Log.{none, lost, heard}
use Rattle.streams.proofs.Looking.{past_now}

-- what is not settled was not lost
pub lost_late : {S : Type 0} (log : Log S) (t : ℕ) → settled log ≤ t → was_lost log t ≡ false
lost_late none t late = refl
lost_late (lost log) t late =
    let before = lost_late log t (omega arith) in
    let apart : t ≢ settled log = (λ e. omega arith) in
    search (rules, before, apart)
lost_late (heard log block) t late = lost_late log t (omega arith)

module _ {F S : Type 0} (link : Link F S) (one other : Stream S) where
  -- a settled slot that was not lost has a block that both would have sent
  pub both_send : (log : Log S) → Agrees link log one → Agrees link log other → (t : ℕ) → t < settled log → was_lost log t ≡ false
      → (block : List S) × (Sends link one t block × Sends link other t block)
  both_send none agrees also t within kept = absurd (omega arith)
  both_send (lost log) agrees also t within kept =
      elim (cases_eq t (settled log)) [
        | inl last ↦ absurd (search (rules, last, kept))
        | inr before ↦ both_send log agrees also t (omega arith) (search (rules, before, kept))
      ]
  both_send (heard log block) (agrees, sends) (also, sends_too) t within kept =
      elim (cases_eq t (settled log)) [
        | inl last ↦
            (block, (subst (λ (n : ℕ). Sends link one n block) (sym last) sends, subst (λ (n : ℕ). Sends link other n block) (sym last) sends_too))
        | inr before ↦ both_send log agrees also t (omega arith) kept
      ]

  -- so both have the same packet there,
  pub same_packet : (t : ℕ) (block : List S) → Sends link one t block → Sends link other t block → SamePacket link t one other
  same_packet t block sends also k i lk li =
      sym (past_now link one t k i) ∙ sym (sends.packet k i lk li) ∙ also.packet k i lk li ∙ past_now link other t k i

  -- and the same parities
  pub same_parity : (t : ℕ) (block : List S) → Sends link one t block → Sends link other t block
      → (j i : ℕ) → j < link.shape.parities → i < link.symbols → parity link (past link one t) j i ≡ parity link (past link other t) j i
  same_parity t block sends also j i lj li = sym (sends.parities j i lj li) ∙ also.parities j i lj li
