-- `step_silently`: machine 0 is a write-back, and any other propagates its copy.
use Rattle.model.specs.Schedule.{silent_of}
use Rattle.schedules.specs.Answers.{step_of}
use Rattle.replay.proofs.Going.{propagates}
use Rattle.replay.proofs.walking.step_silently.Goals as goal

pub returns-then-p-eq0 : goal.returns-then-p-eq0
unfolding silent_of
returns-then-p-eq0 c = rw c.if-p-eq0.true c.write_back.ensures.meaning

pub returns-else-p-eq0 : goal.returns-else-p-eq0
returns-else-p-eq0 c = rw (propagates (step_of c.args.p) c.if-p-eq0.false) c.propagate.ensures.meaning
