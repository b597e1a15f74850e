-- `masks::losing_all` meets its contract. The loop's invariant: the machines of the set below n are lost.
use native.Mathlib.Numerals.{add-one}
use native.Mathlib.Omega.{arith}
use mathlib.Core.Path.{◌≡◌, sym, ◌∙◌}
use Rattle.masks.proofs.Losses.{lost_more, lost_stays, lost_all}
use Rattle.masks.proofs.losing_all.Goals as goal
use Rattle.masks.proofs.losing_all.Goals.{then-holds, else-holds}

pub loop-n-preserved : goal.loop-n-preserved
loop-n-preserved c =
    let a = c.args in
    rw add-one
    (elim c.if-holds.branch [
      | then-holds w ↦ rw w.r-is
          (lost_more a.m a.d c.loop-n.invariant (sym c.holds.ensures ∙ w.if-holds.true) w.losing-r.ensures)
      | else-holds w ↦ rw w.r-is
          (lost_stays a.m a.d c.loop-n.invariant (sym c.holds.ensures ∙ w.if-holds.false))
    ])

pub returns : goal.returns
returns c =
    let a = c.args in
    let last : c.loop-n.n ≡ 7 = omega arith in
    lost_all a.m a.d (rw last at c.loop-n.invariant)
