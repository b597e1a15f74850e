-- `build` meets its contract. The loop's invariant: the passes below the level are made, and none at r or above.
use native.Mathlib.Omega.{arith}
use Rattle.levels.proofs.Counting.{passable, reached_more, built}
use Rattle.levels.proofs.build.Goals as goal

pub pass-requires : goal.pass-requires
pass-requires c =
    passable c.requires.0 c.loop-level.invariant.0 (omega arith)

pub loop-level-preserved : goal.loop-level-preserved
loop-level-preserved c =
    let ready = c.requires.0 in
    (reached_more ready c.loop-level.invariant.0 c.pass.ensures, λ h. omega (arith, c.loop-level-test.true))

pub returns : goal.returns
returns c =
    built c.loop-level.invariant.0 c.args.r c.loop-level-test.false c.loop-level.invariant.1
