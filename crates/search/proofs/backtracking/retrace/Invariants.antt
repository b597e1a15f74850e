-- The pass has come to row t, and that has not the waypoint before event t.
use Rattle.search.proofs.Retracing.{Retracing}
use Rattle.search.proofs.backtracking.retrace.Given as goal

abbrev pub invariant-loop-t : goal.invariant-loop-t
invariant-loop-t l = Retracing l.site l.m l.t l.initial.w l.w l.row
