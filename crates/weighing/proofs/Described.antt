-- A site with what the topology says of its location describes the location.
use Prim.Native.Nat.{◌<◌}
use native.Mathlib.Nat.{le_trans}
use mathlib.Core.Path.{◌≡◌, sym, ap}
use lib.Dec.{T, leb, ltb, leb→le, lt→ltb}
use lib.ListN.{length}
use Rattle.model.specs.Cxl0.{Machine, Location, is_machine, is_location}
use Rattle.model.specs.OneLocation
use Rattle.model.specs.OneLocation.{site_of}
use Rattle.model.specs.Meaning.{topology_of, within_limits}
use Rattle.model.specs.declared.Topology as topology
use Rattle.model.proofs.Tests.{and_i, and_l, and_r}
use Rattle.model.proofs.Limits.{within, listed}
use Rattle.masks.specs.Sets.{OneToSix}
use Rattle.entries.specs.Entries.{site_meant}
use Rattle.entries.specs.declared.Site.{Site}
use Rattle.rows.specs.Sites.{Describes}

-- A machine of a system within the limits is one of six.
pub one_to_six : (t : topology.Topology) → T (within_limits t) → (i : Machine)
    → T (is_machine (topology_of t) i) → OneToSix i
unfolding is_machine topology_of
one_to_six t limits i h =
    let low = leb→le 1 i (and_l (leb 1 i) (leb i t.machines) h) in
    let high = leb→le i t.machines (and_r (leb 1 i) (leb i t.machines) h) in
    (low, le_trans high (within t limits).machines_few)

-- Each number below the count of locations is a location of the system.
pub is_listed : (t : topology.Topology) → length t.homes ≡ 32 → T (within_limits t)
    → (x : Location) → x < t.locations → T (is_location (topology_of t) x)
is_listed t full limits x h =
    let few = (within t limits).locations_few in
    rw (listed t full x)
    (and_i (ltb x t.locations) (ltb x 32) (lt→ltb x t.locations h) (lt→ltb x 32 (le_trans h few)))

-- What the topology says of a location is what the search is to know.
pub described : (t : topology.Topology) {s : Site} {x : Location} → s.location.0 ≡ x
    → T (within_limits t) → T (is_location (topology_of t) x) → site_meant s ≡ site_of (topology_of t) x
    → Describes (topology_of t) s
unfolding site_of
described t {x = x} here limits listed meant =
    let owned = ap (λ (k : OneLocation.Site). k.owner) meant in
    record {
      here = rw here (sym meant);
      machine = rw owned (one_to_six t limits _ ((within t limits).well-formed x listed));
    }
