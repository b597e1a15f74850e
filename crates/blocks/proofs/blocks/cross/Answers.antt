-- `cross` meets its contract.
use Rattle.blocks.proofs.Planning.{few, room}
use Rattle.blocks.proofs.Crossing.{treadable, is_planned, crossable, crossed, crossed_end}
use Rattle.blocks.proofs.blocks.cross.Goals as goal

pub get_segment-s-requires : goal.get_segment-s-requires
get_segment-s-requires c =
    let at = c.requires.numbered in (room at, few at)

pub plan-q-requires : goal.plan-q-requires
plan-q-requires c = (c.requires.numbered, c.get_segment-s.ensures)

pub tread-at-requires : goal.tread-at-requires
tread-at-requires c =
    let pre = c.requires in
    (treadable pre c.plan-q.ensures, is_planned pre c.plan-q.ensures c.get_segment-s.ensures)

pub over_event-requires : goal.over_event-requires
over_event-requires c =
    crossable c.requires c.plan-q.ensures c.get_segment-s.ensures
    c.tread-at.ensures c.if-s-b.true

pub returns-then-s-b : goal.returns-then-s-b
returns-then-s-b c =
    crossed c.requires c.plan-q.ensures c.get_segment-s.ensures
    c.tread-at.ensures c.if-s-b.true c.over_event.ensures

pub returns : goal.returns
returns c =
    crossed_end c.requires c.plan-q.ensures c.get_segment-s.ensures
    c.tread-at.ensures c.if-s-b.false
