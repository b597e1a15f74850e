-- The loop's invariant: no move of a machine below n leads into the set.
use Rattle.std.proofs.Common.{ℕ, ◌≤◌, ◌<◌, Bool, not, ◌&&◌, T, eqb}
use Rattle.model.specs.Cxl0.{Machine}
use Rattle.model.specs.Sharers.{has}
use Rattle.model.specs.OneLocation.{moved}
use Rattle.masks.specs.Sets.{In}
use Rattle.blocks.specs.Treading.{STAY}
use Rattle.blocks.proofs.treading.least_move.Given as goal

-- Machine i can move its copy to the owner k.
abbrev pub movable : Machine → ℕ → Machine → Bool
movable k c i = not (eqb i k) && has i c

-- No move of a machine below n leads into the set.
abbrev pub NoneBelow : Machine → (c into n : ℕ) → Type 0
NoneBelow k c into n = (j : Machine) → j < n → T (movable k c j) → ¬ In (moved k j c) into

abbrev pub invariant-loop-n : goal.invariant-loop-n
invariant-loop-n l = (1 ≤ l.n) × (l.n ≤ STAY) × NoneBelow l.owner.0 l.c l.into l.n
