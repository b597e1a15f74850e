-- `resume` meets its contract. The loop's invariant: after t events, the walk over the rows is under way.
use native.Mathlib.Omega.{arith}
use mathlib.Core.Path.{◌≡◌, subst, sym}
use Rattle.scratch.specs.declared.Waypoint.{Waypoint}
use Rattle.search.proofs.Resuming.{Resuming, resuming_none, resuming_short, resuming_stands}
use Rattle.search.proofs.Resuming.{resuming_more, resuming_all}
use Rattle.search.proofs.explaining.resume.Goals as goal

pub get_waypoint-p-requires : goal.get_waypoint-p-requires
get_waypoint-p-requires c =
    let can = c.requires in
    omega (arith, can.ready.room, can.ready.few, can.below)

pub loop-t-init : goal.loop-t-init
loop-t-init c =
    let a = c.args in
    subst (λ (p : Waypoint). Resuming a.site a.from a.m a.w.now a.from p a.w.now)
    (sym c.get_waypoint-p.ensures)
    (resuming_none a.site a.from a.m a.w.now c.requires)

pub put_waypoint-requires : goal.put_waypoint-requires
put_waypoint-requires c =
    let a = c.args in
    let can = c.requires in
    let taken = c.loop-t-test.true in
    let short = resuming_short a.site a.from a.m a.w.now can
    c.loop-t.t c.loop-t.p c.loop-t.w c.loop-t.invariant taken in
    omega (arith, can.ready.room, can.ready.few, taken, c.loop-t.invariant.frame.sized, short)

pub turn-p-requires : goal.turn-p-requires
turn-p-requires c =
    let a = c.args in
    resuming_stands a.site a.from a.m a.w.now c.requires
    c.loop-t.t c.loop-t.p c.loop-t.w c.loop-t.invariant c.loop-t-test.true
    c.put_waypoint.ensures

pub loop-t-preserved : goal.loop-t-preserved
loop-t-preserved c =
    let a = c.args in
    resuming_more a.site a.from a.m a.w.now c.requires
    c.loop-t.t c.loop-t.p c.loop-t.w c.loop-t.invariant c.loop-t-test.true
    c.put_waypoint.ensures (omega arith)
    c.turn-p.result c.turn-p.new.w c.turn-p.ensures

pub returns : goal.returns
returns c =
    let a = c.args in
    let all : c.loop-t.t ≡ a.m = omega (arith, c.loop-t.invariant.bound, c.loop-t-test.false) in
    resuming_all (rw all at c.loop-t.invariant)
