-- What is printed from slot 0 on. Assumes nothing.
use Rattle.std.proofs.Common.{◌≡◌, ℕ, List, [], subst, append-nil}
use Rattle.arithmetic.specs.Operations.{Bytes}
use Rattle.codes.specs.Link.{Link}
use Rattle.streams.specs.Streams.{Stream, HasHistory}
use Rattle.sender.specs.Block.{zero_history}
use Rattle.sender.proofs.Streams.{zeros_start}
use Rattle.transcript.specs.Printed.{Printed}
use Rattle.transcript.specs.Steps.{PrintedFrom}

-- on a history of zeros
pub from_start : {F S : Type 0} (link : Link F S) (b : Bytes S) (history : List S) (slot : ℕ) (lines : List (List ℕ)) (out : List ℕ)
    → history ≡ zero_history link → slot ≡ 0 → PrintedFrom link b history slot lines out → Printed link b lines out
from_start link b history slot lines out zeros first printed =
    let silent : Stream _ = λ t k i. link.operations.symbols.zero in
    let start = subst (λ h. HasHistory link silent 0 h) (append-nil (zero_history link)) (zeros_start link silent []) in
    let run = subst (λ n. PrintedFrom link b (zero_history link) n lines out) first (subst (λ h. PrintedFrom link b h slot lines out) zeros printed) in
    let all = run silent start in
    (all.0, all.1.1)
