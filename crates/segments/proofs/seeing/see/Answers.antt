-- `see` meets its contract.
use Rattle.scratch.proofs.Events.{meant_read}
use Rattle.segments.proofs.Unmoved.{walked_none, walked_more, walked_stuck, walked_all}
use Rattle.segments.proofs.seeing.see.Goals as goal

pub loop-t-init : goal.loop-t-init
loop-t-init c = walked_none c.requires c.holds-owned.ensures

-- It is not possible.
pub returns-then-not-made : goal.returns-then-not-made
returns-then-not-made c =
    let read = meant_read c.args.w.now c.loop-t.t c.get_event.result c.get_event.ensures in
    walked_stuck c.requires c.loop-t.invariant c.loop-t-test.true c.unlike-memory.ensures
    (rw read at c.act_at-made.ensures) c.if-not-made.true

pub loop-t-preserved : goal.loop-t-preserved
loop-t-preserved c =
    let read = meant_read c.args.w.now c.loop-t.t c.get_event.result c.get_event.ensures in
    walked_more c.requires c.loop-t.invariant c.loop-t-test.true c.unlike-memory.ensures
    (rw read at c.act_at-made.ensures) c.if-not-made.false c.holds.ensures

-- ---- all events

pub returns-then-other : goal.returns-then-other
returns-then-other c =
    let all = walked_all c.requires c.loop-t.invariant c.loop-t-test.false c.accepts-other.ensures in
    rw c.if-other.true (rw c.if-other.true at all)

pub returns-else-other : goal.returns-else-other
returns-else-other c =
    let all = walked_all c.requires c.loop-t.invariant c.loop-t-test.false c.accepts-other.ensures in
    rw c.if-other.false (rw c.if-other.false at all)
