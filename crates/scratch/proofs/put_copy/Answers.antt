-- `scratch::put_copy` meets its contract.
use native.Mathlib.Omega.{arith}
use Rattle.scratch.proofs.Access.{copy_put}
use Rattle.scratch.proofs.put_copy.Goals as goal

pub returns : goal.returns
returns c = copy_put c.args.w.now (omega arith) c.args.t c.args.u (omega arith) (omega arith)
