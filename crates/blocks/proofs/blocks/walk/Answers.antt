-- `walk` meets its contract.
use native.Mathlib.Omega.{arith}
use Rattle.blocks.proofs.Walking.{come_none, come_more, behind_all, through}
use Rattle.blocks.proofs.blocks.walk.Goals as goal

pub loop-l-init : goal.loop-l-init
loop-l-init c = come_none c.requires

pub cross-at-requires : goal.cross-at-requires
cross-at-requires c = (c.loop-l.invariant.ahead (omega arith)).0

pub loop-l-preserved : goal.loop-l-preserved
loop-l-preserved c =
    come_more c.requires c.loop-l.invariant (omega arith) c.cross-at.ensures

pub returns-then-at-eq0 : goal.returns-then-at-eq0
returns-then-at-eq0 c =
    through c.requires c.loop-l.invariant (omega arith)

pub returns-after-loop-l : goal.returns-after-loop-l
returns-after-loop-l c =
    let come = c.loop-l.invariant in
    through c.requires come (behind_all c.requires come c.loop-l-test.false)
