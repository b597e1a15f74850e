-- `explain` meets its contract. The loop's invariant: after t events, the walk stands at p.
use Rattle.search.proofs.Explanations.{Explaining}
use Rattle.search.proofs.explaining.explain.Given as goal

abbrev pub invariant-loop-t : goal.invariant-loop-t
invariant-loop-t l = Explaining l.site l.count l.initial.w l.t l.p l.w
