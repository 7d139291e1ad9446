-- Where settling begins. Assumes nothing.
use Rattle.std.proofs.Common.{ℕ, ◌<◌, inl, inr, refl, ◌∙◌, arith}
use Rattle.arithmetic.specs.Operations.{Operations}
use Rattle.systems.specs.System.{Size, System}
use Rattle.systems.specs.Kept.{KeptAmong}
use Rattle.systems.specs.Form.{SameRow}
use Rattle.systems.proofs.Rows.{same_empty, same_first_one}
use Rattle.elimination.specs.Progress.{Settled}

-- each unknown's row says nothing or leads, with the one of its own unknown
pub settled_start : {F S : Type 0} (o : Operations F S) (z : Size) (s : System F S) → KeptAmong o z s z.unknowns → Settled o z s s z.unknowns
settled_start o z s kept = record {
  front = λ r h. same r;
  ahead = λ r h. same r;
  led = λ u h. elim (kept u h) [
    | inl nothing ↦ inl nothing
    | inr gives ↦ inr (record { column = u; within = h; first = gives.first; clear = λ q after below. gives.alone q below (omega arith) })
  ];
  means = λ x. (λ h. h, λ h. h);
} where
  same : (r : ℕ) → SameRow z s s r
  same r = record { coefficients = λ u h. refl; symbols = λ p h. refl }
