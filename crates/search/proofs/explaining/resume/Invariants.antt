-- `resume` meets its contract. The loop's invariant: after t events, the walk over the rows is under way.
use Rattle.search.proofs.Resuming.{Resuming}
use Rattle.search.proofs.explaining.resume.Given as goal

abbrev pub invariant-loop-t : goal.invariant-loop-t
invariant-loop-t l = Resuming l.site l.from l.m l.initial.w l.t l.p l.w
