-- `act_at` meets its contract.
use Rattle.walking.proofs.Acting.{acts}
use Rattle.walking.proofs.act_at.Goals as goal

pub returns : goal.returns
returns c =
    let a = c.args in
    acts a.site a.e a.u a.p c.act.result c.requires.one_to_six c.requires.known c.requires.code_bound
    c.act.ensures
