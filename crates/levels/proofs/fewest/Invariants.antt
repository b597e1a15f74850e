-- `fewest` meets its contract. The loop's invariant: the levels below the one at hand have been tried.
use Rattle.levels.proofs.Counting.{Tried}
use Rattle.levels.proofs.fewest.Given as goal

abbrev pub invariant-loop-level : goal.invariant-loop-level
invariant-loop-level l = Tried l.q l.from l.c l.level l.initial.w l.w
