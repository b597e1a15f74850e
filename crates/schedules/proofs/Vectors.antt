-- The verdict file of case 4 with two machines, read for logs that it fits and does not fit.
use mathlib.Core.Path.{◌≡◌, refl}
use mathlib.Core.Bool.{true, false}
use mathlib.Core.List.{[], ◌∷◌}
use mathlib.Core.Option.{none, some}
use Rattle.model.specs.Cxl0.{Topology, is_location, owner}
use Rattle.model.specs.Schedule.{in_order}
use Rattle.verdict_file.specs.Fitting.{step_fits, every_step_fits, schedule_fits}
use Rattle.verdict_file.proofs.Vectors.{steps, bytes}
use Rattle.schedules.specs.Schedules.{starts, begins, read_steps, says_allowed, read_allowed, read_schedule}

case4 : Topology
case4 = record { machines = 2; persistent = λ i. true; homes = record { owner = 2; differs = false; initial = 0 } ∷ [] }

read : read_schedule case4 4 bytes ≡ some steps
unfolding case4 steps bytes starts begins read_steps says_allowed read_allowed is_location owner in_order
    step_fits every_step_fits schedule_fits read_schedule
read = refl

-- The step comes after one event, so the file fits no log without events.
unfit : read_schedule case4 0 bytes ≡ none
unfolding case4 bytes starts begins read_steps says_allowed read_allowed is_location owner in_order
    step_fits every_step_fits schedule_fits read_schedule
unfit = refl
