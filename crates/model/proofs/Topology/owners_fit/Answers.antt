-- `owners_fit` meets its contract: `all` tests each listed home as the definition does.
use mathlib.Core.Path.{sym, ◌∙◌}
use mathlib.Core.Bool.{Bool, ◌&&◌}
use lib.Dec.{leb}
use lib.ListN.{take}
use borrow.Author.Rules.{rules}
use borrow.Author.Tests.{tests}
use Rattle.std.proofs.lemmas.Iterator.{YieldsList-from_slice}
use Rattle.std.proofs.lemmas.Iterator.Search.{all_from_yields_List}
use Rattle.model.specs.Cxl0.{is_machine}
use Rattle.model.specs.Meaning.{topology_of}
use Rattle.model.specs.declared.Home as home
use Rattle.model.proofs.Limits.{fit_all}
use Rattle.model.proofs.Topology.owners_fit.Goals as goal

pub returns : goal.returns
unfolding is_machine topology_of
returns c =
    let t = c.args.self in
    let listed = take t.locations t.homes in
    let fits : home.Home → Bool = λ h. leb 1 h.owner.0 && leb h.owner.0 t.machines in
    all_from_yields_List fits _ _ _ c.all.ensures.ran (YieldsList-from_slice listed (search rules))
    (λ x b q k. search (rules, tests))
    ∙ sym (fit_all t.machines listed)
