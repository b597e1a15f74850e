-- The steps so far are noted.
use Rattle.blocks.proofs.Stepping.{Underway}
use Rattle.blocks.proofs.treading.pay.Given as goal

abbrev pub invariant-loop-step : goal.invariant-loop-step
invariant-loop-step l = Underway l.site l.b l.l l.m l.q l.t l.t l.initial.at l.initial.w l.at l.w

abbrev pub decreases-loop-step : goal.decreases-loop-step
decreases-loop-step l = l.at.steps
