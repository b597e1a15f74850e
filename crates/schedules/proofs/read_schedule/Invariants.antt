-- `read_schedule` goes from step to step: what the file comes to is what remains after the steps so far.
use Prim.Native.Nat.{◌≤◌, ◌-◌}
use mathlib.Core.Path.{◌≡◌}
use lib.ListN.{length}
use Rattle.model.specs.Meaning.{topology_of}
use Rattle.schedules.specs.Schedules.{read_schedule, counted}
use Rattle.schedules.proofs.Remaining.{remaining}
use Rattle.schedules.proofs.read_schedule.Given as goal

abbrev pub invariant-loop-step : goal.invariant-loop-step
invariant-loop-step l = record {
  within : l.at ≤ length l.file;
  few : l.steps ≤ 256;
  rest : counted (read_schedule (topology_of l.t) l.events l.file)
      ≡ remaining (topology_of l.t) l.events l.file l.at l.least l.steps;
}

abbrev pub decreases-loop-step : goal.decreases-loop-step
decreases-loop-step l = 256 - l.steps
