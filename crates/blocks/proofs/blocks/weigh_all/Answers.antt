-- `weigh_all` meets its contract.
use native.Mathlib.Omega.{arith}
use Rattle.blocks.proofs.Pricing.{pricing_none, weighable, pricing_more, priced}
use Rattle.blocks.proofs.blocks.weigh_all.Goals as goal

pub loop-l-init : goal.loop-l-init
loop-l-init c = pricing_none c.requires

pub weigh-least-requires : goal.weigh-least-requires
weigh-least-requires c =
    weighable c.requires c.loop-l.invariant c.loop-l-test.true

pub loop-l-smaller : goal.loop-l-smaller
loop-l-smaller c = omega (arith, c.loop-l-test.true)

pub loop-l-preserved : goal.loop-l-preserved
loop-l-preserved c =
    pricing_more c.requires c.loop-l.invariant c.loop-l-test.true c.weigh-least.ensures

pub returns : goal.returns
returns c =
    priced c.requires c.loop-l.invariant c.loop-l-test.false
