-- `build` meets its contract. The loop's invariant: the passes below the level are made, and none at r or above.
use Prim.Native.Nat.{◌≤◌, ◌<◌}
use Rattle.levels.proofs.Counting.{Reached}
use Rattle.levels.proofs.build.Given as goal

abbrev pub invariant-loop-level : goal.invariant-loop-level
invariant-loop-level l = Reached l.q l.from l.level l.initial.w l.w × (l.q.low < l.r → l.level ≤ l.r)
