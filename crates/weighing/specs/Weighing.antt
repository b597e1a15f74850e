-- Weighing the events in the scratch area: what it asks, finds and leaves.
use Rattle.std.specs.Prelude.{ℕ, ◌*◌, ◌≤◌, List, map, T}
use Rattle.model.specs.Cxl0.{Topology, Event, event, all_named, FirstImpossible}
use Rattle.model.specs.Shortest.{Shortest}
use Rattle.model.specs.Meaning.{topology_of, within_limits}
use Rattle.model.specs.declared.Topology as topology
use Rattle.scratch.specs.Layout.{SORTED, LOG, OnlyIn}
use Rattle.scratch.specs.Words.{steps_at}
use Rattle.events.specs.Linking.{logged, Linked}
use Rattle.weighing.specs.declared.Weighed.{Weighed}

-- The n events are in the area with their links, and are events of the system, which is within the limits.
pub record Weighable (t : topology.Topology) (n : ℕ) (w : List ℕ) : Type 0 where
  pub linked : Linked (logged n w) w
  pub limits : T (within_limits t)
  pub named : T (all_named (topology_of t) (map event (logged n w)))

-- What was found of a list of events: the steps from SORTED on are the shortest schedule of them, or the event is the
-- first impossible one.
unfoldable pub Finds : Topology → List Event → Weighed → List ℕ → Type 0
Finds sys es (Weighed.Allowed steps) w = Shortest sys es (steps_at SORTED steps w)
Finds sys es (Weighed.Impossible number) w = FirstImpossible sys es number

-- The number of steps.
abbrev pub steps_of : Weighed → ℕ
steps_of (Weighed.Allowed steps) = steps
steps_of (Weighed.Impossible number) = 0

-- The n events were weighed. They stay in the area with their links, and so does all after them: they can be weighed
-- again.
pub record Concluded (t : topology.Topology) (n : ℕ) (w : List ℕ) (found : Weighed) (w' : List ℕ) : Type 0 where
  pub frame : OnlyIn 0 LOG w w'
  pub few : steps_of found ≤ 2 * n
  pub finds : Finds (topology_of t) (logged n w) found w'
