-- `issue` issues the verdict that was found.
use Prim.Native.Nat.{◌+◌, ◌≤◌}
use native.Mathlib.Omega.{arith}
use lib.ListN.{length}
use Rattle.scratch.specs.Layout.{SORTED}
use Rattle.judge.proofs.Answers.{issuable_steps, issuable_number, part_words}
use Rattle.judge.proofs.issuing.issue.Goals as goal

-- The steps are in the area.
steps-inside : (c : goal.After-issue_allowed-arg-1) → SORTED + c.in-Allowed.steps ≤ length c.args.w.now
steps-inside c =
    issuable_steps c.in-Allowed.is c.args.w.now c.requires

pub overflow_add-steps : goal.overflow_add-steps
overflow_add-steps c = omega (arith, steps-inside c)

pub slice_bounds-issue_allowed-end : goal.slice_bounds-issue_allowed-end
slice_bounds-issue_allowed-end c = steps-inside c

pub overflow_cast-event : goal.overflow_cast-event
overflow_cast-event c =
    omega (arith, issuable_number c.in-Impossible.is c.args.w.now c.requires)

pub returns-in-Allowed : goal.returns-in-Allowed
returns-in-Allowed c =
    rw (c.in-Allowed.is, ← part_words SORTED c.in-Allowed.steps c.args.w.now)
    c.issue_allowed.ensures

pub returns-in-Impossible : goal.returns-in-Impossible
returns-in-Impossible c =
    rw c.in-Impossible.is c.issue_impossible.ensures
