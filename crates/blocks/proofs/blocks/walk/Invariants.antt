-- The walk has come to segment l.
use Rattle.blocks.specs.Blocks.{Come}
use Rattle.blocks.proofs.blocks.walk.Given as goal

abbrev pub invariant-loop-l : goal.invariant-loop-l
invariant-loop-l l = Come l.site l.b 0 l.initial.at l.initial.w l.l l.at l.w
