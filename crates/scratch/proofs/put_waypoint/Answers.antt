-- `scratch::put_waypoint` meets its contract.
use native.Mathlib.Omega.{arith}
use Rattle.scratch.proofs.Access.{waypoint_put}
use Rattle.scratch.proofs.put_waypoint.Goals as goal

pub returns : goal.returns
returns c =
    let a = c.args in
    waypoint_put a.w.now (omega arith) a.t a.p (omega arith) (omega arith) (omega arith)
