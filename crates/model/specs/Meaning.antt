-- What the program's topology means, and what is asked of an action, in the words of `Cxl0`.
use Rattle.std.specs.Prelude.{ℕ, Bool, true, false, cond, ◌&&◌, List, [], ◌∷◌, map, leb, take}
use Rattle.model.specs.Cxl0
use Rattle.model.specs.Cxl0.{Home, Topology, State, Event, Action, possible, next}
use Rattle.model.specs.Operations.{is_operation, event_of}
use Rattle.model.specs.declared.Event as event
use Rattle.model.specs.Sharers.{has}
use Rattle.model.specs.declared.Home as home
use Rattle.model.specs.declared.Topology as topology

abbrev pub home_of : home.Home → Home
home_of h = record { owner = h.owner.0; differs = h.differs; initial = h.initial }

unfoldable pub topology_of : topology.Topology → Topology
topology_of t =
    record {
      machines = t.machines;
      persistent = λ i. has i t.persistent;
      homes = map home_of (take t.locations t.homes);
    }

unfoldable pub owners_fit : ℕ → List Home → Bool
owners_fit n [] = true
owners_fit n (h ∷ hs) = leb 1 h.owner && leb h.owner n && owners_fit n hs

-- Within the program's limits: 1 to 6 machines, at most 32 locations, each owned by one of the machines.
unfoldable pub within_limits : topology.Topology → Bool
within_limits t =
    leb 1 t.machines && leb t.machines 6 && leb t.locations 32
    && owners_fit t.machines (topology_of t).homes

-- What is asked of an action: whether it is possible, and the state after it or, if it is not, the same state.
pub record Outcome : Type 0 where
  pub possible : Bool
  pub state : State

unfoldable pub attempt : topology.Topology → Action → State → Outcome
attempt t a s =
    cond (within_limits t && possible (topology_of t) a s)
    (record { possible = true; state = next (topology_of t) a s })
    (record { possible = false; state = s })

-- The event that the program's struct stands for.
abbrev pub meant : event.Event → Event
meant e = event_of e.operation e.machine.0 e.location.0 e.value e.written

-- What is asked of an event by its operation number. A number that is no operation's is not possible.
abbrev pub attempt_event : topology.Topology → event.Event → State → Outcome
attempt_event t e s =
    cond (is_operation e.operation)
    (attempt t (Cxl0.event (meant e)) s)
    (record { possible = false; state = s })
