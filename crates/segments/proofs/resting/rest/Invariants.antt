-- The loop's invariant: to keep the value up to segment l costs `kept`.
use Rattle.segments.proofs.Rests.{Resting}
use Rattle.segments.proofs.resting.rest.Given as goal

abbrev pub invariant-loop-l : goal.invariant-loop-l
invariant-loop-l l = Resting l.w l.b l.from l.m l.never l.l l.kept
