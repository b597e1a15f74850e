-- The steps that were found for the first locations.
use Rattle.std.specs.Prelude.{ℕ, ◌≤◌, ◌<◌, T, length}
use mathlib.Core.List.{List, Memᴰ}
use Rattle.model.specs.Cxl0.{Location, Topology, Event, silent, named}
use Rattle.model.specs.Schedule.{Step, silent_of}
use Rattle.model.specs.ShortestAt.{ShortestAt}
use Rattle.model.specs.Sums.{sum}
use Rattle.model.specs.Allowance.{allowance}
use Rattle.sorting.specs.Ordering.{at_location, LocationsRise}

-- The steps are the shortest schedules of the locations below x for the events, location by location.
pub record Gathered (sys : Topology) (es : List Event) (x : ℕ) (ps : List Step) : Type 0 where
  pub own : (p : Step) → Memᴰ p ps → p.location < x
  pub named : (p : Step) → Memᴰ p ps → T (named sys (silent (silent_of p)))
  pub few : length ps ≤ sum x (λ y. allowance y es)
  pub rise : LocationsRise ps
  pub shortest : (y : Location) → y < x → ShortestAt sys y es (at_location y ps)
