-- What the program's states and answers mean, and what an action makes of them, in the words of `Cxl0`.
use Rattle.std.specs.Prelude.{ℕ, zero, suc, ◌≡◌, true, false, cond, ◌&&◌, List, [], ◌∷◌, get_or}
use Rattle.std.specs.Prelude.{Option, Some, None}
use Rattle.std.specs.Bool.{then_some}
use Rattle.model.specs.Cxl0
use Rattle.model.specs.Cxl0.{Location, Topology, initial, State, Action, possible}
use Rattle.model.specs.OneLocation.{Local, expand, concerns, site_of, effect}
use Rattle.model.specs.Operations.{is_operation}
use Rattle.model.specs.Meaning.{topology_of, within_limits, Outcome, attempt, meant}
use Rattle.model.specs.declared.Event as event
use Rattle.model.specs.declared.Topology as topology
use Rattle.entries.specs.Entries.{short_of, entry_of, start_entry, empty_entry, masked_to}
use Rattle.entries.specs.declared.Entry as entry
use Rattle.states.specs.declared.State as state

-- The entry of a location; one past the end is empty.
unfoldable pub entry_at : state.State → Location → entry.Entry
entry_at s x = get_or s.entries x empty_entry

-- The short form that an entry stands for where there are n machines. Bits above those of the machines say nothing.
unfoldable pub local_of : ℕ → entry.Entry → Local
local_of n e = short_of (masked_to n e)

unfoldable pub state_of : topology.Topology → state.State → State
state_of t s = expand (λ x. local_of t.machines (entry_at s x))

-- The answer to an action in the state s: the state after it, or none if it is not possible; then s stays.
abbrev pub outcome_of : topology.Topology → state.State → Option state.State → Outcome
outcome_of t s (Some after) = record { possible = true; state = state_of t after }
outcome_of t s None = record { possible = false; state = state_of t s }

-- At the start: n entries from location x on, and those of all 32 locations.
unfoldable pub start_entries : Topology → (n : ℕ) → Location → List entry.Entry
start_entries sys zero x = []
start_entries sys (suc n) x = start_entry (initial sys x) ∷ start_entries sys n (suc x)

unfoldable pub start_state : topology.Topology → state.State
start_state t = record { entries = start_entries (topology_of t) 32 0 }

-- The entry of location x after an action that concerns it, where it was e.
unfoldable pub entry_after : topology.Topology → Action → Location → entry.Entry → entry.Entry
entry_after t a x e = entry_of (effect (site_of (topology_of t) x) a (local_of t.machines e))

-- The entry of location x after an action, which changes those that it concerns and no others.
abbrev pub next_entry : topology.Topology → Action → Location → entry.Entry → entry.Entry
next_entry t a x e = cond (concerns x a) (entry_after t a x e) e

-- The entries from location x on after an action.
unfoldable pub entries_after : topology.Topology → Action → Location → List entry.Entry → List entry.Entry
entries_after t a x [] = []
entries_after t a x (e ∷ es) = next_entry t a x e ∷ entries_after t a (suc x) es

unfoldable pub state_after : topology.Topology → Action → state.State → state.State
state_after t a s = record { entries = entries_after t a 0 s.entries }

unfoldable pub stepped_of : topology.Topology → Action → state.State → Option state.State
stepped_of t a s = then_some (within_limits t && possible (topology_of t) a (state_of t s)) (state_after t a s)

-- The answer to an event by its operation number. A number that is no operation's is not possible.
abbrev pub applied_of : topology.Topology → event.Event → state.State → Option state.State
applied_of t e s = cond (is_operation e.operation) (stepped_of t (Cxl0.event (meant e)) s) None

-- r answers the action a in the state s: it means what `attempt` says of the whole system, and it has the state after a
-- entry by entry.
pub record Answers (t : topology.Topology) (a : Action) (s : state.State) (r : Option state.State) : Type 0 where
  pub meaning : outcome_of t s r ≡ attempt t a (state_of t s)
  pub whole : r ≡ stepped_of t a s
