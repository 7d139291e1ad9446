-- The system that gives each unknown as zero. Assumes nothing.
use Rattle.std.proofs.Common.{◌<◌, inr, sym, ◌∙◌, arith}
use Rattle.arithmetic.specs.Operations.{Operations}
use Rattle.arithmetic.specs.Laws.{ArithmeticLaws}
use Rattle.systems.specs.System.{Size, System, at_place}
use Rattle.systems.specs.Kept.{Kept}
use Rattle.systems.specs.Form.{StandsFor, KeptFormOf, AllZero, ZeroContent}
use Rattle.systems.proofs.Solve.{combined_of_nothing}
use Rattle.systems.proofs.Reading.{shared}
use Rattle.systems.proofs.Unique.{kept_form}

module _ {F S : Type 0} (o : Operations F S) (laws : ArithmeticLaws o) where
  zero_kept : (z : Size) (s : System F S) → AllZero o z s → Kept o z s
  zero_kept z s all = record {
    given = λ u l. inr (record {
      first = record { one = all.diagonal u l; before = λ v before. all.elsewhere u v (omega arith) (omega arith) (λ e. omega arith) };
      alone = λ r in_rows apart. all.elsewhere r u in_rows l apart;
    });
    spare = λ r beyond in_rows. record {
      coefficients = λ u l. all.elsewhere r u in_rows l (λ e. omega arith);
      symbols = λ p place. all.symbols r p in_rows place;
    };
  }

  zero_stands : (z : Size) (s : System F S) → AllZero o z s → StandsFor o z s (ZeroContent o z)
  zero_stands z s all x = (
    λ solves u p l place.
        shared o laws z s u l (all.diagonal u l) (λ v k apart. all.elsewhere u v (omega arith) k (λ e. apart (sym e))) x solves p place
        ∙ all.symbols u p (omega arith) place,
    λ zeros r in_rows p place.
        combined_of_nothing o laws z.unknowns (s.coefficient r) (at_place x p) (λ u l. zeros u p l place) ∙ sym (all.symbols r p in_rows place),
  )

  pub zero_form : (z : Size) (s : System F S) → 0 < z.symbols → AllZero o z s → KeptFormOf o z s (ZeroContent o z)
  zero_form z s place all = kept_form o laws z s place (zero_kept z s all) (ZeroContent o z) (zero_stands z s all)
