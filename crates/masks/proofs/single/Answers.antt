-- `masks::single` meets its contract.
use Rattle.masks.proofs.Sets.{in_single}
use Rattle.masks.proofs.single.Goals as goal

pub returns : goal.returns
returns c t h = in_single 64 c.args.c t h
