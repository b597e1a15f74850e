-- `masks::one_move` meets its contract. The loop's invariant: r has the codes that the move of a machine below n takes
-- into the set.
use Rattle.masks.specs.Sets.{Exactly}
use Rattle.masks.proofs.OneMove.{MovesBelow}
use Rattle.masks.proofs.one_move.Given as goal

abbrev pub invariant-loop-n : goal.invariant-loop-n
invariant-loop-n l = Exactly l.r (MovesBelow l.k.0 l.m l.n)
