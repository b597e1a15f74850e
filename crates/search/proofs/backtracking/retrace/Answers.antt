-- `search::backtracking::retrace` meets its contract. The loop's invariant: the pass has come to row t, and that
-- has not the waypoint before event t.
use Prim.Native.Nat.{◌-◌, ◌<◌}
use native.Mathlib.Omega.{arith}
use mathlib.Core.Path.{sym, ◌∙◌}
use mathlib.Core.Bool.{true≢false}
use Rattle.search.proofs.Backward.{Written, steppable}
use Rattle.search.proofs.Retracing.{row_room, waypoint_there, written_back, before_end}
use Rattle.search.proofs.Retracing.{retracing_none, retracing_more, put_there}
use Rattle.search.proofs.Retracing.{retraced_here, retraced_empty, retraced_none}
use Rattle.search.proofs.backtracking.retrace.Goals as goal

pub loop-t-init : goal.loop-t-init
loop-t-init c =
    let a = c.args in
    rw c.last_row-row.ensures (retracing_none a.site a.m a.w.now)

pub put_row-requires : goal.put_row-requires
put_row-requires c =
    let room = row_room c.requires c.loop-t.invariant.written in
    (room.0, omega (arith, room.1))

pub step_back-row-requires : goal.step_back-row-requires
step_back-row-requires c =
    steppable c.requires.ready c.loop-t.invariant.written (put_there c.loop-t-test.true c.put_row.ensures) (omega arith)

pub has_waypoint-requires : goal.has_waypoint-requires
has_waypoint-requires c =
    let a = c.args in
    let put = put_there c.loop-t-test.true c.put_row.ensures in
    let made : Written a.site a.m (c.loop-t.t - 1) a.w.now c.put_row.new.w c.step_back-row.result =
    written_back c.requires c.loop-t.invariant c.loop-t-test.true put c.step_back-row.ensures in
    let within : c.loop-t.t - 1 < c.args.m =
    before_end c.requires c.loop-t.invariant c.loop-t-test.true in
    waypoint_there c.requires made within

pub returns-then-has_waypoint : goal.returns-then-has_waypoint
returns-then-has_waypoint c =
    let a = c.args in
    let put = put_there c.loop-t-test.true c.put_row.ensures in
    let made : Written a.site a.m (c.loop-t.t - 1) a.w.now c.put_row.new.w c.step_back-row.result =
    written_back c.requires c.loop-t.invariant c.loop-t-test.true put c.step_back-row.ensures in
    let within : c.loop-t.t - 1 < c.args.m =
    before_end c.requires c.loop-t.invariant c.loop-t-test.true in
    retraced_here c.requires made within
    (c.has_waypoint.ensures.0 c.if-has_waypoint.true)

pub returns-then-is_empty : goal.returns-then-is_empty
returns-then-is_empty c =
    let a = c.args in
    let put = put_there c.loop-t-test.true c.put_row.ensures in
    let made : Written a.site a.m (c.loop-t.t - 1) a.w.now c.put_row.new.w c.step_back-row.result =
    written_back c.requires c.loop-t.invariant c.loop-t-test.true put c.step_back-row.ensures in
    retraced_empty c.requires made
    (c.is_empty.ensures.0 c.if-is_empty.true)

pub loop-t-preserved : goal.loop-t-preserved
loop-t-preserved c =
    let a = c.args in
    let put = put_there c.loop-t-test.true c.put_row.ensures in
    let made : Written a.site a.m (c.loop-t.t - 1) a.w.now c.put_row.new.w c.step_back-row.result =
    written_back c.requires c.loop-t.invariant c.loop-t-test.true put c.step_back-row.ensures in
    let left = c.if-has_waypoint.false in
    retracing_more c.requires made
    (λ has. true≢false (sym (c.has_waypoint.ensures.1 has) ∙ left))

pub returns : goal.returns
returns c =
    retraced_none c.requires c.loop-t.invariant c.loop-t-test.false
