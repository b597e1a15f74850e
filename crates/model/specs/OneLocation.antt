-- What one location sees of the model: which machines hold a copy, the value of the copies, and the value in memory.
-- The theorems carry statements on the whole system to statements on this short form and back.
use Rattle.std.specs.Prelude.{ℕ, ◌≡◌, ◌≢◌, ◌⊎◌, Bool, true, false, cond, not, ◌&&◌, List, [], ◌∷◌, T, eqb}
use Rattle.std.proofs.Math.Option.{Option, none, some}
use Rattle.model.specs.Cxl0.{Machine, Location, Value, Topology, owner, initial, is_persistent}
use Rattle.model.specs.Cxl0.{State, crashes, events}
use Rattle.model.specs.Cxl0.{Event, LStore, RStore, MStore, Load, LFlush, RFlush, Crash, SetCrash}
use Rattle.model.specs.Cxl0.{RMW, Form, L, R, M}
use Rattle.model.specs.Cxl0.{Silent, Propagate, WriteBack, Action, event, silent}
use Rattle.model.specs.Sharers.{has, insert, remove, remove_all}

-- The short form of a location. The copies agree in value, so that a code and one value say what every cache holds;
-- where the code is 0, no cache has `copy`.
pub record Local : Type 0 where
  pub code : ℕ
  pub copy : Value
  pub memory : Value

-- The whole state that the short forms of its locations describe.
unfoldable pub expand : (Location → Local) → State
expand f =
    record {
      cache = λ i x. cond (has i (f x).code) (some (f x).copy) none;
      memory = λ x. (f x).memory;
    }

-- The location that an event names; a crash names none.
unfoldable pub location_of : Event → Option Location
location_of (LStore i y v) = some y
location_of (RStore i y v) = some y
location_of (MStore i y v) = some y
location_of (Load i y v) = some y
location_of (LFlush i y) = some y
location_of (RFlush i y) = some y
location_of (Crash i) = none
location_of (SetCrash set) = none
location_of (RMW form i y v w) = some y

abbrev pub is_here : Location → Option Location → Bool
is_here x (some y) = eqb x y
is_here x none = false

abbrev pub is_nowhere : Option Location → Bool
is_nowhere (some y) = false
is_nowhere none = true

abbrev pub is_here_or_nowhere : Location → Option Location → Bool
is_here_or_nowhere x (some y) = eqb x y
is_here_or_nowhere x none = true

-- The event names location x.
unfoldable pub own_event : Location → Event → Bool
own_event x e = is_here x (location_of e)

-- The event names no location.
unfoldable pub is_crash : Event → Bool
is_crash e = is_nowhere (location_of e)

-- The event concerns location x: it names it, or it is a crash, which concerns every location.
unfoldable pub event_at : Location → Event → Bool
event_at x e = is_here_or_nowhere x (location_of e)

unfoldable pub silent_at : Location → Silent → Bool
silent_at x (Propagate i y) = eqb x y
silent_at x (WriteBack y) = eqb x y

-- An action concerns a location if it names it, and a crash concerns every location.
unfoldable pub concerns : Location → Action → Bool
concerns x (event e) = event_at x e
concerns x (silent s) = silent_at x s

-- What an action at a location depends on beside its short form: the location's owner, whether a crash of the owner
-- clears its memory, and the value that memory has at the start and after such a crash.
pub record Site : Type 0 where
  pub owner : Machine
  pub volatile : Bool
  pub initial : Value

unfoldable pub site_of : Topology → Location → Site
site_of sys x =
    record { owner = owner sys x; volatile = not (is_persistent sys x); initial = initial sys x }

-- An event clears the memory of the site: it crashes the owner, and the memory is volatile.
abbrev pub clears_site : Event → Site → Bool
clears_site e k = crashes e k.owner && k.volatile

-- What a load of v asks of a short form.
abbrev pub readable_at : Value → Local → Bool
readable_at v s = cond (eqb s.code 0) (eqb s.memory v) (eqb s.copy v)

-- What an action that concerns a location asks of its short form.
unfoldable pub enabled_at : Site → Action → Local → Bool
enabled_at k (event (LStore i y v)) s = true
enabled_at k (event (RStore i y v)) s = true
enabled_at k (event (MStore i y v)) s = true
enabled_at k (event (Load i y v)) s = readable_at v s
enabled_at k (event (LFlush i y)) s = not (has i s.code)
enabled_at k (event (RFlush i y)) s = eqb s.code 0
enabled_at k (event (Crash i)) s = true
enabled_at k (event (SetCrash set)) s = true
enabled_at k (event (RMW form i y v w)) s = readable_at v s
enabled_at k (silent (Propagate i y)) s = not (eqb i k.owner) && has i s.code
enabled_at k (silent (WriteBack y)) s = has k.owner s.code

-- Machine i has a copy that it may propagate to the owner k.
abbrev pub movable : Machine → Machine → ℕ → Bool
movable k i c = not (eqb i k) && has i c

-- One propagation: machine i's copy goes to the owner k.
unfoldable pub moved : Machine → Machine → ℕ → ℕ
moved k i c = insert k (remove i c)

-- The short form of a location after a store of v by i, and after a load by i.
abbrev pub stored_at : Site → Form → Machine → Value → Local → Local
stored_at k L i v s = record { code = insert i 0; copy = v; memory = s.memory }
stored_at k R i v s = record { code = insert k.owner 0; copy = v; memory = s.memory }
stored_at k M i v s = record { code = 0; copy = s.copy; memory = v }

abbrev pub loaded_at : Machine → Local → Local
loaded_at i s =
    record { code = cond (eqb s.code 0) 0 (insert i s.code); copy = s.copy; memory = s.memory }

-- And after a crash that leaves the copies of code c.
abbrev pub crashed_at : Site → Event → ℕ → Local → Local
crashed_at k e c s =
    record { code = c; copy = s.copy; memory = cond (clears_site e k) k.initial s.memory }

-- The short form of a location after an action that concerns it.
unfoldable pub effect : Site → Action → Local → Local
effect k (event (LStore i y v)) s = stored_at k L i v s
effect k (event (RStore i y v)) s = stored_at k R i v s
effect k (event (MStore i y v)) s = stored_at k M i v s
effect k (event (Load i y v)) s = loaded_at i s
effect k (event (LFlush i y)) s = s
effect k (event (RFlush i y)) s = s
effect k (event (Crash i)) s = crashed_at k (Crash i) (remove i s.code) s
effect k (event (SetCrash set)) s = crashed_at k (SetCrash set) (remove_all set s.code) s
effect k (event (RMW form i y v w)) s = stored_at k form i w (loaded_at i s)
effect k (silent (Propagate i y)) s =
    record { code = moved k.owner i s.code; copy = s.copy; memory = s.memory }
effect k (silent (WriteBack y)) s = record { code = 0; copy = s.copy; memory = s.copy }

-- An action elsewhere is always possible here and changes nothing.
unfoldable pub possible_at : Topology → Location → Action → Local → Bool
possible_at sys x a s = cond (concerns x a) (enabled_at (site_of sys x) a s) true

unfoldable pub next_at : Topology → Location → Action → Local → Local
next_at sys x a s = cond (concerns x a) (effect (site_of sys x) a s) s

unfoldable pub start_at : Topology → Location → Local
start_at sys x = record { code = 0; copy = 0; memory = initial sys x }

-- The list runs at x, from a short form of x.
unfoldable pub runs_at : Topology → Location → List Action → Local → Bool
runs_at sys x [] s = true
runs_at sys x (a ∷ acts) s = possible_at sys x a s && runs_at sys x acts (next_at sys x a s)

-- The short form of x that the list leads to.
unfoldable pub after_at : Topology → Location → List Action → Local → Local
after_at sys x [] s = s
after_at sys x (a ∷ acts) s = after_at sys x acts (next_at sys x a s)

-- All silent steps of the list are steps of x.
unfoldable pub own_steps : Location → List Action → Bool
own_steps x [] = true
own_steps x (event e ∷ acts) = own_steps x acts
own_steps x (silent a ∷ acts) = silent_at x a && own_steps x acts

-- The list with only x's own silent steps.
unfoldable pub own_of : Location → List Action → List Action
own_of x [] = []
own_of x (event e ∷ acts) = event e ∷ own_of x acts
own_of x (silent a ∷ acts) = cond (silent_at x a) (silent a ∷ own_of x acts) (own_of x acts)

-- From the short form s, x has a run of the events with silent steps of its own.
abbrev pub HasRunAt : Topology → Location → List Event → Local → Type 0
HasRunAt sys x es s = (acts : List Action) × (events acts ≡ es) × T (own_steps x acts) × T (runs_at sys x acts s)

-- Code d is reached from code c by a chain of single propagations to the owner k, or by none.
pub data Moves (k : Machine) : ℕ → ℕ → Type 0 where
  stay : {c : ℕ} → Moves k c c
  move : {c d : ℕ} (i : Machine) → T (movable k i c) → Moves k (moved k i c) d → Moves k c d

-- Short form t of x is reached from s by silent steps of x, or by none.
pub data Silently (sys : Topology) (x : Location) : Local → Local → Type 0 where
  still : {s : Local} → Silently sys x s s
  step : {s t : Local} (a : Silent)
      → T (silent_at x a && enabled_at (site_of sys x) (silent a) s)
      → Silently sys x (effect (site_of sys x) (silent a) s) t
      → Silently sys x s t

-- A short form with another code, which is what moves make of it, and with its copies written back.
abbrev pub recoded : ℕ → Local → Local
recoded c s = record { code = c; copy = s.copy; memory = s.memory }

abbrev pub written : Local → Local
written s = record { code = 0; copy = s.copy; memory = s.copy }

-- What silent steps come to where the owner is k: the copies keep their value, and either there were only moves or they
-- are written back.
abbrev pub Reaches : Machine → Local → Local → Type 0
Reaches k s t =
    (t.copy ≡ s.copy)
    × (((t.memory ≡ s.memory) × Moves k s.code t.code)
    ⊎ ((s.code ≢ 0) × (t.code ≡ 0) × (t.memory ≡ s.copy)))
