-- `least_move` meets its contract.
use Rattle.std.proofs.Common.{ℕ, zero, suc, not, eqb, arith}
use Rattle.model.specs.Cxl0.{Machine}
use Rattle.model.specs.Sharers.{has}
use Rattle.model.proofs.Tests.{and_r}
use Rattle.blocks.proofs.treading.least_move.Invariants.{NoneBelow}
use Rattle.blocks.proofs.treading.least_move.Goals as goal

-- Machine 0 has no copy.
none_first : (k : Machine) (c into : ℕ) → NoneBelow k c into 1
unfolding has
none_first k c into zero h can = absurd (and_r (not (eqb 0 k)) (has 0 c) can)
none_first k c into (suc j) h can = absurd (omega arith)

pub loop-n-init : goal.loop-n-init
loop-n-init c = (omega arith, omega arith, none_first _ _ _)
