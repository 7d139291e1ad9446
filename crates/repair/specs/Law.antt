-- Repair in time. Assumes nothing.
use Rattle.std.specs.Prelude.{ℕ, ◌+◌, ◌<◌, ◌≤◌}
use Rattle.codes.specs.Link.{Link}
use Rattle.plan.specs.Numbers.{PlanNumbers}
use Rattle.streams.specs.Logs.{Log, settled, was_lost, AllShare}
use Rattle.repair.specs.Losses.{LossRun, Short, short_deadline, deadline, AllowsLog}

-- whatever was heard: where the plan allows what was lost, all streams that agree share
pub record RepairsInTime {F S : Type 0} (link : Link F S) (plan : PlanNumbers) : Type 0 where
  -- each packet of a short run, once the slot T after its own is settled,
  pub short : (log : Log S) → AllowsLog plan log
      → (a e i : ℕ) → LossRun (was_lost log) a e → Short plan a e → a ≤ i → i ≤ e
      → i + short_deadline plan < settled log → AllShare link log i
  -- and every packet, once the slot D after its own is
  pub all : (log : Log S) → AllowsLog plan log
      → (i : ℕ) → i + deadline plan < settled log → AllShare link log i
