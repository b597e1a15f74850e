-- `levels::onward` meets its contract, at the last gap and at the others.
use Prim.Native.Nat.{◌<◌}
use native.Mathlib.Omega.{arith}
use Rattle.levels.proofs.Gaps.{onward_inner}
use Rattle.levels.proofs.onward.Goals as goal

pub returns : goal.returns
returns c =
    let inside : c.args.t < c.args.q.end = omega (arith, c.if-t-q.false, c.requires.order) in
    onward_inner c.requires c.args.level c.args.rest c.over.result inside
    (rw (c.get_event.ensures, c.reads.ensures) at c.over.ensures)
