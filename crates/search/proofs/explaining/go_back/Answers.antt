-- `search::explaining::go_back` meets its contract: the rows say from which waypoint the walk can go on.
use native.Mathlib.Omega.{arith}
use Rattle.search.proofs.Continuing.{retraceable, resumable, went_back, went_nowhere}
use Rattle.search.proofs.explaining.go_back.Goals as goal

pub overflow_add-m : goal.overflow_add-m
overflow_add-m c = omega (arith, c.requires.ready.few)

pub retrace-requires : goal.retrace-requires
retrace-requires c = retraceable c.requires

pub resume-requires : goal.resume-requires
resume-requires c = resumable c.requires c.in_ok-from.ensures

pub returns-in_err-from : goal.returns-in_err-from
returns-in_err-from c = rw c.from_residual.ensures (went_nowhere c.requires c.in_err-from.ensures)

pub returns : goal.returns
returns c = went_back c.requires c.in_ok-from.ensures c.resume.ensures
