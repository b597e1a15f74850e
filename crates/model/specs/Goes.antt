-- How a state goes to another by a list of events: the arrow of source 000, section 3.3, in which its
-- Proposition 1 is stated; and what other theorems of the model are stated with.
use Rattle.std.specs.Prelude.{◌≡◌, Bool, false, ◌&&◌, ◌||◌, List, [], ◌∷◌, T, eqb}
use Rattle.model.specs.Cxl0.{Machine, Location, Value, MachineSet, Topology, State, Event, Action}
use Rattle.model.specs.Cxl0.{Form, L, R, M, LStore, RStore, MStore, Crash}
use Rattle.model.specs.Cxl0.{runs, after, events, count, is_store}
use Rattle.model.specs.Sharers.{has}
use Rattle.model.specs.OneLocation.{event_at}

-- From s, actions that are each possible in their turn lead to s'; their events are exactly these in this
-- order, with any silent steps, or none, before, between and after them.
abbrev pub Goes : Topology → List Event → State → State → Type 0
Goes sys es s s' = (acts : List Action) × (events acts ≡ es) × T (runs sys acts s) × (after sys acts s ≡ s')

-- The store of a form.
abbrev pub store_of : Form → Machine → Location → Value → Event
store_of L i x v = LStore i x v
store_of R i x v = RStore i x v
store_of M i x v = MStore i x v

-- The events have no store of x.
abbrev pub NoStore : Location → List Event → Type 0
NoStore x es = count (λ e. event_at x e && is_store e) es ≡ 0

-- Machine j is in the list.
unfoldable pub is_in : Machine → List Machine → Bool
is_in j [] = false
is_in j (i ∷ is) = eqb j i || is_in j is

-- The list has the machines of the set and no others, in any order.
abbrev pub Lists : MachineSet → List Machine → Type 0
Lists set is = (j : Machine) → has j set ≡ is_in j is

-- The single crashes of the machines, one after the other.
unfoldable pub crash_row : List Machine → List Event
crash_row [] = []
crash_row (i ∷ is) = Crash i ∷ crash_row is
