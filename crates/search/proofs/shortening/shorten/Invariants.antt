-- `shorten` meets its contract. The loop's invariant: the walk is under way, and has come to `at` from the last known
-- place without a silent step. Each turn either goes on from the same known place, or comes to a later one.
use Prim.Native.Nat.{suc, ◌+◌, ◌-◌, ◌*◌}
use Rattle.scratch.specs.Layout.{MOST}
use Rattle.search.proofs.Shortenings.{Walking}
use Rattle.search.proofs.shortening.shorten.Given as goal

abbrev pub invariant-loop-at : goal.invariant-loop-at
invariant-loop-at l = Walking l.site l.events l.count l.initial.w l.known l.at l.w

abbrev pub decreases-loop-at : goal.decreases-loop-at
decreases-loop-at l = (l.events - l.known.gap) * suc MOST + (l.events - l.at.gap)
