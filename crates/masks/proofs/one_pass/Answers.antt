-- `masks::one_pass` meets its contract. The loop's invariant: the pass is at machine i, for every owner k
-- such that `near` began with the codes that are in m once they gain k.
use native.Mathlib.Omega.{arith}
use mathlib.Core.Path.{◌≡◌}
use Rattle.masks.proofs.OnePass.{led_none, led_more, led_all}
use Rattle.masks.proofs.one_pass.Goals as goal

pub loop-i-init : goal.loop-i-init
loop-i-init c = λ k o n. led_none k o c.args.m c.gaining-near.result n

pub loop-i-preserved : goal.loop-i-preserved
loop-i-preserved c =
    let m = c.args.m in
    let at = c.loop-i in
    let more = c.giving_up-more in
    λ k o n. led_more k o m at.i at.r at.near more.result (at.invariant k o n) more.ensures

pub returns : goal.returns
returns c =
    let at = c.loop-i in
    let k = c.args.k.0 in
    let last : at.i ≡ 7 = omega arith in
    let led = at.invariant k c.requires c.gaining-near.ensures in
    led_all k c.requires c.args.m at.r at.near (rw last at led)
