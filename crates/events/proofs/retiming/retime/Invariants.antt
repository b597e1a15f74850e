-- `retime` retimes the steps one after the other: those from number `from` to number j are retimed, and no other word
-- has changed.
use Rattle.events.specs.Retiming.{Retimed}
use Rattle.events.proofs.retiming.retime.Given as goal

abbrev pub invariant-loop-j : goal.invariant-loop-j
invariant-loop-j l = Retimed l.events l.from l.j l.initial.w l.w
