-- Each step that is printed leaves fewer bytes of the file.
use Rattle.std.proofs.Common.{◌-◌, length}
use Rattle.verdict.proofs.Page.put_steps.Given as goal

abbrev pub decreases-loop-step : goal.decreases-loop-step
decreases-loop-step l = length l.file - l.at
