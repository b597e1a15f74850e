-- `weigh_all` meets its contract.
use Rattle.blocks.proofs.Pricing.{Pricing}
use Rattle.blocks.proofs.blocks.weigh_all.Given as goal

abbrev pub invariant-loop-l : goal.invariant-loop-l
invariant-loop-l l = Pricing l.site l.b l.initial.w l.w l.l l.least
