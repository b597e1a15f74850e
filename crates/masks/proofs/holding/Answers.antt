-- `masks::holding` meets its contract: each of its six masks is tried at every code.
use native.Mathlib.Omega.{arith}
use mathlib.Core.Path.{◌≡◌}
use Rattle.model.specs.Sharers.{has}
use Rattle.masks.proofs.Constants.{every, exactly}
use Rattle.masks.proofs.holding.Goals as goal

pub returns-in-1 : goal.returns-in-1
unfolding has every
returns-in-1 c = rw c.in-1.is (exactly _ (has 1) tt)

pub returns-in-2 : goal.returns-in-2
unfolding has every
returns-in-2 c = rw c.in-2.is (exactly _ (has 2) tt)

pub returns-in-3 : goal.returns-in-3
unfolding has every
returns-in-3 c = rw c.in-3.is (exactly _ (has 3) tt)

pub returns-in-4 : goal.returns-in-4
unfolding has every
returns-in-4 c = rw c.in-4.is (exactly _ (has 4) tt)

pub returns-in-5 : goal.returns-in-5
unfolding has every
returns-in-5 c = rw c.in-5.is (exactly _ (has 5) tt)

pub returns-in_default : goal.returns-in_default
unfolding has every
returns-in_default c =
    let e : c.args.i.0 ≡ 6 = omega arith in
    rw e (exactly _ (has 6) tt)
