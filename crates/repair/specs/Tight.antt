-- That no deadline of a plan could be earlier. Assumes nothing.
use Rattle.std.specs.Prelude.{◌≡◌, ℕ, ◌-◌, ◌*◌}
use Rattle.codes.specs.Link.{Link}
use Rattle.plan.specs.Numbers.{PlanNumbers}
use Rattle.streams.specs.Logs.{Log, settled, was_lost, TwoDiffer}
use Rattle.repair.specs.Losses.{LossRun, short_deadline, deadline, AllowsLog}

-- after n settled slots, of which 0 to e are a run, packet 0 may still be open: for some such log,
-- which the plan allows, two streams that agree differ in it
pub record Undecided {F S : Type 0} (link : Link F S) (plan : PlanNumbers) (e n : ℕ) : Type 0 where
  pub log : Log S
  pub allowed : AllowsLog plan log
  pub run : LossRun (was_lost log) 0 e
  pub so_far : settled log ≡ n
  pub differ : TwoDiffer link log 0

-- packet 0 may be open as long as its deadline, the slot T or D after its own, is not settled
pub record NoEarlier {F S : Type 0} (link : Link F S) (plan : PlanNumbers) : Type 0 where
  -- though it alone was lost,
  pub short : Undecided link plan 0 (short_deadline plan)
  -- and in a run as long as a long one may be
  pub all : Undecided link plan (plan.stretch * plan.burst - 1) (deadline plan)
