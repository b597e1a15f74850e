-- What the answers of the cursor mean.
use Rattle.std.specs.Prelude.{ℕ, Some, None}
use Rattle.std.specs.Prelude.{Option as Answer}
use Rattle.std.proofs.Math.Option.{Option, none, some}
use Rattle.model.specs.Schedule.{Step}
use Rattle.schedules.specs.declared.Step as step

abbrev pub step_of : step.Step → Step
step_of p = record { before = p.before; location = p.location.0; machine = p.machine.0 }

-- A step and the position after its field.
abbrev pub step_at_of : Answer (step.Step × ℕ) → Option (Step × ℕ)
step_at_of (Some (p, next)) = some (step_of p, next)
step_at_of None = none
