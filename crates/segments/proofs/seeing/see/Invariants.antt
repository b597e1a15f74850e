-- The loop's invariant: what is to pay from the gap at hand says what is from the first one.
use Rattle.segments.proofs.Unmoved.{Walked}
use Rattle.segments.proofs.seeing.see.Given as goal

abbrev pub invariant-loop-t : goal.invariant-loop-t
invariant-loop-t l = Walked l.site l.s l.w l.t l.code l.owned
