-- `masks::one_move` meets its contract. The loop's invariant: r has the codes that the move of a machine below n takes
-- into the set.
use native.Mathlib.Omega.{arith}
use mathlib.Core.Path.{◌≡◌, sym, ◌∙◌}
use mathlib.Core.Logic.{◌≢◌}
use borrow.Author.Tests.{eqb-true, eqb-false, not-true, not-false}
use Rattle.masks.proofs.OneMove.{below_first, below_more, below_owner, below_last, to_none}
use Rattle.masks.proofs.one_move.Goals as goal
use Rattle.masks.proofs.one_move.Goals.{then-ne, else-ne}

pub returns-then-m-le1 : goal.returns-then-m-le1
returns-then-m-le1 c = to_none _ c.requires _ c.if-m-le1.true

pub loop-n-init : goal.loop-n-init
loop-n-init c =
    below_first _ c.requires _

pub loop-n-preserved : goal.loop-n-preserved
loop-n-preserved c =
    let m = c.args.m in
    let k = c.args.k.0 in
    let s = c.loop-n.invariant in
    let near = c.gaining-near in
    let at = c.loop-n in
    elim c.if-ne.branch [
      | then-ne w ↦
          let other : at.n ≢ k = eqb-false _ _ (not-true _ (sym c.ne.ensures ∙ w.if-ne.true)) in
          let more = w.giving_up-r in
          rw w.r-is
          (below_more k c.requires m at.n at.r s near.result more.result other near.ensures more.ensures)
      | else-ne w ↦
          let owner = eqb-true _ _ (not-false _ (sym c.ne.ensures ∙ w.if-ne.false)) in
          rw w.r-is (below_owner k c.requires m at.n at.r s owner)
    ]

pub returns : goal.returns
returns c =
    let at = c.loop-n in
    let last : at.n ≡ 7 = omega arith in
    below_last _ c.requires _ at.r (rw last at at.invariant)
