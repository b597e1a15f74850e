-- `masks::giving_up` meets its contract, by what a shift up does to the codes that lack the machine.
use Rattle.masks.proofs.Shifts.{shifted_up}
use Rattle.masks.proofs.giving_up.Goals as goal

pub returns : goal.returns
returns c =
    let lack = c.lacking in
    rw c.alone.ensures.0
    (shifted_up c.args.i.0 c.requires c.args.m lack.result lack.ensures)
