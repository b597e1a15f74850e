-- `moves::each_exchanged` meets its contract: it is the delta swap of the codes with machine 1 and without k.
use native.Mathlib.Omega.{arith}
use mathlib.Core.Logic.Iff
use mathlib.Core.Bool.{not}
use Rattle.model.specs.Sharers.{has, insert}
use Rattle.model.proofs.Tests.{and_iff}
use Rattle.model.proofs.SilentSteps.{has→some}
use Rattle.masks.proofs.Codes.{has_itself}
use Rattle.moves.proofs.Swaps.{swapped}
use Rattle.moves.proofs.each_exchanged.Goals as goal

pub overflow_sub-s : goal.overflow_sub-s
overflow_sub-s c =
    let k = c.args.k.0 in
    omega (arith, has→some k (insert k 0) (has_itself k 0 c.requires.0), c.alone-s.ensures.0)

pub returns : goal.returns
returns c =
    let k = c.args.k.0 in
    let hold = c.holding in
    let lack = c.lacking-low in
    rw c.alone-s.ensures.0
    (swapped k c.requires c.args.m lack.result
    (λ t h.
    Iff.trans (lack.ensures t h)
    (Iff.trans (Iff.and (hold.ensures t h) Iff.rfl) (Iff.symm (and_iff (has 1 t) (not (has k t)))))))
