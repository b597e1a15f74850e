-- `masks::lowest` meets its contract.
use borrow.Author.Rules.{rules}
use Rattle.masks.proofs.Sets.{least}
use Rattle.masks.proofs.lowest.Goals as goal

pub returns : goal.returns
returns c = least 64 c.args.m (search rules) c.requires
