-- `weigh` puts the costs of one segment more: each is found in its stretches. The calls before tell what the segment
-- and the numbers behind it are.
use Rattle.std.proofs.Common.{add-one, arith}
use Rattle.levels.specs.Stretches.{FAR}
use Rattle.levels.specs.Tasks.{Fewest}
use Rattle.segments.specs.Words.{segment_in}
use Rattle.segments.specs.Weighing.{OthersOf}
use Rattle.segments.proofs.Weighed.{same_task, other_task, least_far, backable, bounds_far}
use Rattle.segments.proofs.Weighed.{seeable, sameable, otherable, room_there, numbers_fit, weighed}
use Rattle.segments.proofs.weighing.weigh.Goals as goal
use Rattle.segments.proofs.weighing.weigh.Goals.{After-same_cost-same, After-other_costs-others}

-- ---- write-backs

pub fill_backs-bounds-requires : goal.fill_backs-bounds-requires
fill_backs-bounds-requires c = (
  rw (
    c.again.ensures,
    c.cleared-after.ensures,
    c.rest-back.ensures,
    c.get_segment-s.ensures,
    add-one c.args.l,
  )
      (backable c.requires),
  c.get_segment-s.ensures,
  c.requires.owner,
)

-- ---- silent steps

pub see-seen-requires : goal.see-seen-requires
see-seen-requires c = rw c.get_segment-s.ensures (seeable c.requires c.fill_backs-bounds.ensures)

pub task-requires : goal.task-requires
task-requires c = bounds_far c.requires c.fill_backs-bounds.ensures

-- ---- the fewest steps with the value of the copies in memory

pub same_cost-same-requires : goal.same_cost-same-requires
same_cost-same-requires c =
    rw (
      c.task.ensures,
      c.behind.ensures,
      c.cleared-after.ensures,
      c.rest-back.ensures,
      c.get_segment-s.ensures,
      add-one c.args.l,
    )
    (sameable c.requires c.fill_backs-bounds.ensures (rw c.get_segment-s.ensures at c.see-seen.ensures))

-- They are the fewest of the segment's task.
same_found : (c : After-same_cost-same) → let a = c.args in
    let s = segment_in a.w.now a.l in
    Fewest (same_task a.site a.b a.l a.w.now c.fill_backs-bounds.result) s.first s.code FAR
    c.fill_backs-bounds.new.w c.same_cost-same.result c.same_cost-same.new.w
same_found c =
    rw (
      c.task.ensures,
      c.behind.ensures,
      c.cleared-after.ensures,
      c.rest-back.ensures,
      c.get_segment-s.ensures,
      add-one c.args.l,
    )
    at c.same_cost-same.ensures

-- ---- and with an unread value

pub task-requires-2 : goal.task-requires-2
task-requires-2 c = bounds_far c.requires c.fill_backs-bounds.ensures

pub other_costs-others-requires : goal.other_costs-others-requires
other_costs-others-requires c =
    rw (
      c.task-2.ensures,
      c.behind-2.ensures,
      c.cleared-after.ensures,
      c.other-next.ensures,
      c.rest-back.ensures,
      c.get_segment-s.ensures,
      add-one c.args.l,
    )
    (otherable c.requires c.fill_backs-bounds.ensures
    (same_found (goal.at.other_costs-others-requires c).After-same_cost-same)
    (rw c.get_segment-s.ensures at c.see-seen.ensures))

-- They are those of the segment's other task.
others_found : (c : After-other_costs-others) → let a = c.args in
    OthersOf a.site (segment_in a.w.now a.l) (other_task a.site a.b a.l a.w.now c.fill_backs-bounds.result) a.least
    c.same_cost-same.new.w c.other_costs-others.result c.other_costs-others.new.w
others_found c =
    rw (
      c.task-2.ensures,
      c.behind-2.ensures,
      c.cleared-after.ensures,
      c.other-next.ensures,
      c.get_segment-s.ensures,
      add-one c.args.l,
    )
    at c.other_costs-others.ensures

-- ---- the costs

-- They fit their words, for which there is room.
pub put_costs-requires : goal.put_costs-requires
put_costs-requires c =
    let at = goal.at.put_costs-requires c in
    let same = same_found at.After-same_cost-same in
    let others = others_found at.After-other_costs-others in (
      room_there c.requires c.fill_backs-bounds.ensures same others,
      omega (arith, c.requires.here, c.requires.segmented.few),
      rw (c.rest-back.ensures, c.get_segment-s.ensures, add-one c.args.l)
          (numbers_fit c.requires c.fill_backs-bounds.ensures same others),
    )

pub add-requires : goal.add-requires
add-requires c =
    let at = goal.at.add-requires c in
    let same = same_found at.After-same_cost-same in
    let others = others_found at.After-other_costs-others in
    ((numbers_fit c.requires c.fill_backs-bounds.ensures same others).keep, least_far c.requires)

-- They stand in the area, and the least of them is handed back.
pub returns : goal.returns
returns c =
    let at = goal.at.returns c in
    let same = same_found at.After-same_cost-same in
    let others = others_found at.After-other_costs-others in
    let put = rw (c.rest-back.ensures, c.get_segment-s.ensures, add-one c.args.l) at c.put_costs.ensures in
    rw (c.min-2.ensures, c.min.ensures, c.add.ensures)
    (weighed c.requires c.fill_backs-bounds.ensures same others put)
