-- A location's home, looked up in the topology's array if the location is listed.
use mathlib.Core.Path.{◌≡◌, ap, ◌∙◌}
use mathlib.Core.Bool.{Bool, cond, ◌&&◌}
use lib.Dec.{ltb, ltb→lt}
use lib.ListN.{length, get_or}
use Rattle.model.specs.Cxl0.{Location, nowhere, owner, initial, is_persistent}
use Rattle.model.specs.OneLocation.{Site, site_of}
use Rattle.model.specs.Meaning.{home_of, topology_of}
use Rattle.model.specs.declared.Home as home
use Rattle.model.specs.declared.Topology as topology
use Rattle.entries.specs.Entries.{site_at}
use Rattle.model.proofs.Tests.{by_test, T→true, not→false}
use Rattle.model.proofs.Limits.{no_home, listed, home_at, at_nowhere}

module _ (t : topology.Topology) (room : length t.homes ≡ 32) (x : Location) where
  -- Where the location lives.
  pub home_found : cond (ltb x t.locations) (home_of (get_or t.homes x no_home)) nowhere
      ≡ get_or (topology_of t).homes x nowhere
  home_found =
      by_test (ltb x t.locations)
      (λ q. rw (T→true {b = ltb x t.locations} q) (home_at t x (ltb→lt x t.locations q)))
      (λ q.
      let past = not→false {b = ltb x t.locations} q in
      rw past (at_nowhere (topology_of t) x (listed t room x ∙ ap (λ (b : Bool). b && ltb x 32) past)))

  -- And its site.
  pub site_found : {h : home.Home} {k : Site}
      → home_of h ≡ cond (ltb x t.locations) (home_of (get_or t.homes x no_home)) nowhere
      → k ≡ site_at (topology_of t) (home_of h) → k ≡ site_of (topology_of t) x
  unfolding site_at site_of owner initial is_persistent
  site_found f k = k ∙ ap (site_at (topology_of t)) (f ∙ home_found)
