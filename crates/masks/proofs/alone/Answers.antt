-- `masks::alone` meets its contract: the shift is tried for each of the six machines.
use Prim.Native.Nat.{◌-◌, ◌*◌, ◌%◌, ◌^◌}
use native.Mathlib.Omega.{arith}
use mathlib.Core.Path.{◌≡◌}
use lib.Dec.{eqb, eqb→eq}
use Rattle.model.specs.Cxl0.{every_machine}
use Rattle.model.specs.Sharers.{insert}
use Rattle.model.proofs.Machines.{every_e}
use Rattle.masks.proofs.Codes.{insert_fits}
use Rattle.masks.proofs.alone.Goals as goal

pub returns : goal.returns
unfolding every_machine insert
returns c =
    let i = c.args.i.0 in
    let pre = c.requires in
    let right = every_e 6 (λ j. eqb (1 * 2 ^ (j - 1) % 256) (insert j 0)) tt i pre.0 pre.1 in
    let e : 1 * 2 ^ (i - 1) % 256 ≡ insert i 0 = eqb→eq _ _ right in
    (e, rw e (insert_fits i 0 pre (omega arith)))
