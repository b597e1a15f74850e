-- The loop cuts one event after another.
use Rattle.blocks.proofs.Splits.{Splitting}
use Rattle.blocks.proofs.splitting.split.Given as goal

abbrev pub invariant-loop-t : goal.invariant-loop-t
invariant-loop-t l = Splitting l.site l.k l.initial.w l.initial.s l.w l.l l.s l.t
