-- `visit_all` visits one location after the other.
use Rattle.weighing.specs.Visiting.{Visited}
use Rattle.weighing.proofs.visiting.visit_all.Given as goal

abbrev pub invariant-loop-x : goal.invariant-loop-x
invariant-loop-x l = Visited l.t l.events l.x l.initial.w l.p l.w
