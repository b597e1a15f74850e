-- `visit_all` visits one location after the other.
use native.Mathlib.Numerals.{add-one}
use native.Mathlib.Omega.{arith}
use lib.ListN.{length}
use mathlib.Core.Path.{◌≡◌, ap, ◌∙◌}
use Rattle.model.specs.Cxl0.{owner, initial, is_persistent}
use Rattle.model.specs.OneLocation.{site_of}
use Rattle.model.specs.Meaning.{topology_of}
use Rattle.model.specs.declared.Location.{Location}
use Rattle.model.proofs.Limits.{mapped, home_at, within}
use Rattle.entries.specs.Entries.{site_meant, site_at}
use Rattle.weighing.proofs.Described.{is_listed}
use Rattle.weighing.proofs.AllVisits.{visits_none, visits_can, visits_more}
use Rattle.weighing.proofs.visiting.visit_all.Goals as goal

pub loop-x-init : goal.loop-x-init
loop-x-init c = visits_none c.requires

full : (c : goal.After-at) → length c.args.t.homes ≡ 32
full c = search mapped

pub bounds-t-x : goal.bounds-t-x
bounds-t-x c = omega (arith, (within c.args.t c.requires.limits).locations_few)

-- The site is that of the location whose turn it is.
sited : (c : goal.After-at) →
    site_meant c.at.result ≡ site_of (topology_of c.args.t) c.loop-x.x
unfolding site_at site_of owner initial is_persistent
sited c =
    let t = c.args.t in
    c.at.ensures.0 ∙ ap (site_at (topology_of t)) (home_at t c.loop-x.x (omega arith))

pub visit-p-requires : goal.visit-p-requires
visit-p-requires c =
    let t = c.args.t in
    let x = c.loop-x.x in
    let listed = is_listed t (full c) c.requires.limits x (omega arith) in
    let here = ap (λ (l : Location). l.0) c.at.ensures.1 in
    rw here (visits_can c.requires c.loop-x.invariant listed, sited c)

pub loop-x-preserved : goal.loop-x-preserved
loop-x-preserved c =
    let here = ap (λ (l : Location). l.0) c.at.ensures.1 in
    let visited = rw here at c.visit-p.ensures in
    rw (add-one c.loop-x.x) (visits_more c.requires c.loop-x.invariant visited)

pub returns : goal.returns
returns c =
    let all : c.loop-x.x ≡ c.args.t.locations = omega arith in
    rw all at c.loop-x.invariant
