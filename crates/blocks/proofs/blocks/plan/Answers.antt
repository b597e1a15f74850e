-- `plan` meets its contract.
use native.Mathlib.Numerals.{add-one}
use native.Mathlib.Omega.{arith}
use Rattle.blocks.proofs.Planning.{few, room, restable, backable, least_bound, planned}
use Rattle.blocks.proofs.blocks.plan.Goals as goal

pub get_costs-back-requires : goal.get_costs-back-requires
get_costs-back-requires c =
    let at = c.requires.0 in (room at, few at)

pub cleared-after-requires : goal.cleared-after-requires
cleared-after-requires c = restable c.requires.0

pub overflow_add-l : goal.overflow_add-l
overflow_add-l c = omega (arith, few c.requires.0)

pub rest-kept-requires : goal.rest-kept-requires
rest-kept-requires c = restable c.requires.0

pub fill_backs-bounds-requires : goal.fill_backs-bounds-requires
fill_backs-bounds-requires c =
    let at = c.requires.0 in
    let same = c.requires.1 in (
      rw (c.again.ensures, c.cleared-after.ensures, same, c.get_costs-back.ensures) (backable at),
      same,
      at.costed.laid.owner,
    )

pub task-requires : goal.task-requires
task-requires c =
    least_bound c.requires.0 c.fill_backs-bounds.ensures

pub returns : goal.returns
returns c =
    let l = c.args.l in
    rw (
      c.task.ensures,
      c.behind.ensures,
      c.cleared-after.ensures,
      c.rest-kept.ensures,
      c.requires.1,
      add-one l,
    )
    (planned c.requires.0 c.fill_backs-bounds.ensures c.args.m)
