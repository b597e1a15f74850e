-- `visit` searches one location more.
use native.Mathlib.Omega.{arith}
use Prim.Native.Nat.{ℕ}
use mathlib.Core.List.{List}
use mathlib.Core.Path.{◌≡◌, refl}
use Rattle.model.specs.OneLocation.{site_of}
use Rattle.model.specs.Meaning.{topology_of}
use Rattle.model.specs.declared.Topology.{Topology}
use Rattle.entries.specs.Entries.{site_meant}
use Rattle.entries.specs.declared.Site.{Site}
use Rattle.rows.specs.Sites.{Describes}
use Rattle.weighing.specs.Visiting.{Visitable}
use Rattle.weighing.specs.declared.visiting.Progress.{Progress}
use Rattle.weighing.proofs.Described.{described}
use Rattle.weighing.proofs.Visits.{pick_can, pick_low, visit_none, visit_shortenable, visit_ends}
use Rattle.weighing.proofs.Visits.{visit_same, visit_retimable, visit_extends}
use Rattle.weighing.proofs.visiting.visit.Goals as goal

pub pick_events-count-requires : goal.pick_events-count-requires
pick_events-count-requires c =
    record {
      linked = pick_can c.requires.0;
      x_bound = pick_low c.requires.0;
    }

pub returns-then-count-eq0 : goal.returns-then-count-eq0
returns-then-count-eq0 c = visit_none c.requires.0 c.pick_events-count.ensures c.if-count-eq0.true

-- The site describes its location.
site_describes : {t : Topology} {n : ℕ} {s : Site} {p : Progress} {w : List ℕ} → Visitable t n s.location.0 p w
    → site_meant s ≡ site_of (topology_of t) s.location.0 → Describes (topology_of t) s
site_describes {t} can is = described t refl can.weighable.limits can.listed is

pub shorten-requires : goal.shorten-requires
shorten-requires c =
    let describes = site_describes c.requires.0 c.requires.1 in
    visit_shortenable c.requires.0 c.pick_events-count.ensures refl describes

pub returns-in-First : goal.returns-in-First
returns-in-First c =
    let describes = site_describes c.requires.0 c.requires.1 in
    let found = c.in-First.ensures in
    visit_ends c.requires.0 c.pick_events-count.ensures refl describes found found.steps _ c.index-events.ensures

pub returns-in-All : goal.returns-in-All
returns-in-All c =
    let describes = site_describes c.requires.0 c.requires.1 in
    visit_same c.requires.0 c.pick_events-count.ensures refl describes c.in-All.ensures refl (omega arith)

pub retime-requires : goal.retime-requires
retime-requires c =
    let describes = site_describes c.requires.0 c.requires.1 in
    visit_retimable c.requires.0 c.pick_events-count.ensures refl describes c.in-All.ensures (omega arith)

pub returns-in-All-2 : goal.returns-in-All-2
returns-in-All-2 c =
    let describes = site_describes c.requires.0 c.requires.1 in
    visit_extends c.requires.0 c.pick_events-count.ensures refl describes c.in-All.ensures (omega arith)
    c.retime.ensures
