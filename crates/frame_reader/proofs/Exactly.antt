-- What is accepted is just what begins with a frame. Assumes nothing.
use Rattle.std.proofs.Common.{◌≡◌, ℕ, List, Some, None, Ok, Option, Result, ap, ◌∙◌, arith}
use Rattle.layout.specs.declared.fault.FrameFault.{FrameFault}
use Rattle.layout.specs.declared.head.Head.{Head}
use Rattle.layout.specs.FaultNumber.{Fault}
use Rattle.layout.specs.Faults.{frame_fault, head_of}
use Rattle.layout.proofs.Right.{right, head_of_frame}
use Rattle.frame_reader.specs.declared.check.Checked.{Checked}
use Rattle.frame_reader.specs.Checking.{AcceptsFrames, checked_as}

-- a fault is not none
pub never : {X : Type 0} (o : Option Fault) (f : Fault) → o ≡ Some f → o ≡ None → X
never (Some x) f some none = let z : ◌≡◌ {A = ℕ} 0 1 = cc in absurd (omega arith)
never None f some none = let z : ◌≡◌ {A = ℕ} 0 1 = cc in absurd (omega arith)

module _ (bs : List ℕ) (r : Result Checked FrameFault) where
  -- where a fault is found, the bytes begin with no frame
  pub no_frame : (f : Fault) → frame_fault bs ≡ Some f → AcceptsFrames bs r
  no_frame f fault h ns begins =
      let none : frame_fault bs ≡ None = ap frame_fault begins.1.1 ∙ right h ns begins.0 begins.1.0 in
      never (frame_fault bs) f fault none

  -- whatever frame they begin with says what the first words say
  pub one_frame : r ≡ Ok (checked_as (head_of bs)) → AcceptsFrames bs r
  one_frame is h ns begins =
      let head : head_of bs ≡ h = ap head_of begins.1.1 ∙ head_of_frame h ns begins.0 begins.1.0 in
      is ∙ ap (λ (k : Head). Ok (checked_as k)) head
