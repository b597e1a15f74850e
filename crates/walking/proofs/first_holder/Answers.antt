-- `first_holder` meets its contract: the machine of the least bit of the code.
use native.Mathlib.Omega.{arith}
use Rattle.walking.proofs.Holders.{least_low, least_first}
use Rattle.walking.proofs.first_holder.Goals as goal

pub overflow_add-result : goal.overflow_add-result
overflow_add-result c = omega (arith, least_low c.lowest.result c.args.c (omega arith) c.lowest.ensures)

pub returns : goal.returns
returns c = least_first c.lowest.result c.args.c c.lowest.ensures
