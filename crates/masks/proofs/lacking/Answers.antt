-- `masks::lacking` meets its contract: the intersection with the complement of the machine's codes.
use Prim.Native.Nat.{◌-◌, ◌^◌}
use borrow.Author.Rules.{rules}
use mathlib.Core.Logic.Iff
use lib.Dec.{T_not, not_T}
use Rattle.model.specs.Sharers.{has}
use Rattle.masks.proofs.Sets.{in_and, in_not}
use Rattle.masks.proofs.lacking.Goals as goal

pub returns : goal.returns
returns c t h =
    let m = c.args.m in
    let r = c.holding.result in
    let i = c.args.i.0 in
    let outside = Iff.trans (in_not 64 r t h (search rules)) (Iff.not (c.holding.ensures t h)) in
    Iff.trans (in_and m (2 ^ 64 - 1 - r) t)
    (Iff.and Iff.rfl (Iff.trans outside (not_T (has i t), T_not (has i t))))
