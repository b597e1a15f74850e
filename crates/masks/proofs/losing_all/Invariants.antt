-- `masks::losing_all` meets its contract. The loop's invariant: the machines of the set below n are lost.
use Rattle.masks.proofs.Losses.{Lost}
use Rattle.masks.proofs.losing_all.Given as goal

abbrev pub invariant-loop-n : goal.invariant-loop-n
invariant-loop-n l = Lost l.m l.d l.n l.r
