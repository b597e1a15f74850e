-- `pay` meets its contract: each turn takes the step that was chosen.
use Prim.Native.Nat.{◌<◌}
use native.Mathlib.Omega.{arith}
use Rattle.blocks.proofs.Stepping.{underway_none, underway_step, underway_still, takeable}
use Rattle.blocks.proofs.treading.pay.Goals as goal

pub loop-step-init : goal.loop-step-init
loop-step-init c = underway_none c.requires.0 c.requires.1

pub choose-requires : goal.choose-requires
choose-requires c = (c.loop-step.invariant.payable, c.loop-step.invariant.standing)

pub take_step-at-requires : goal.take_step-at-requires
take_step-at-requires c =
    takeable c.loop-step.invariant.payable c.loop-step.invariant.standing c.in-Some.ensures

pub loop-step-preserved : goal.loop-step-preserved
loop-step-preserved c =
    let small : c.args.site.location.0 < 256 = omega arith in
    underway_step c.requires.1.low c.loop-step.invariant small c.in-Some.ensures
    (rw c.requires.2 at c.take_step-at.ensures)

pub returns : goal.returns
returns c =
    let under = c.loop-step.invariant in
    record {
      frame = under.frame;
      standing = under.standing;
      walked = under.walked;
      still = underway_still c.requires.1.low under c.in_default.ensures;
    }
