-- The loop's invariant: from the first gap, where the levels are made, the walk has come to gap t.
use Rattle.blocks.proofs.Stepping.{Underway}
use Rattle.blocks.proofs.treading.tread.Given as goal

abbrev pub invariant-loop-t : goal.invariant-loop-t
invariant-loop-t l = Underway l.site l.b l.l l.m l.q l.initial.t l.t l.initial.at l.initial.w l.at l.w
