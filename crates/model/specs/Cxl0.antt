-- CXL0: what a system of machines that share memory over Compute Express Link may do, in the words of document 01,
-- "The model" (from source 000, section 3.3), with the read-modify-writes of request W-201, the initial values of
-- W-202, the set crashes of W-203 and the two kinds of memory of W-206. Malluvom's promises are stated over this page
-- and `Schedule`.
-- A test is a Bool; each event and each silent step has one clause in `enabled` and one in `next`.
use Rattle.std.specs.Prelude.{ℕ, zero, suc, ◌^◌, ◌≤◌, ◌<◌, ◌≡◌, Bool, true, false, cond, not, ◌&&◌, ◌||◌, List, [], ◌∷◌, T, leb, ltb, eqb, length, get_or, take}
use Rattle.std.proofs.Math.Option
use Rattle.std.proofs.Math.Option.{Option, none, some}
use Rattle.model.specs.Sharers.{has}

-- ---- the system

-- A machine's number counts from 1 and a location's from 0. Neither is ever added to or compared with the other.
abbrev pub Machine : Type 0
Machine = ℕ

abbrev pub Location : Type 0
Location = ℕ

abbrev pub Value : Type 0
Value = ℕ

-- A set of machines is a number whose bit i - 1 is set if machine i is in the set (`has` of `Sharers`).
abbrev pub MachineSet : Type 0
MachineSet = ℕ

-- Where a location lives: the machine that owns it, whether its memory there differs in kind, volatile or persistent,
-- from its owner's, and the value that this memory holds at power-on.
pub record Home : Type 0 where
  pub owner : Machine
  pub differs : Bool
  pub initial : Value

-- Where a location lives that is not listed: at no machine, which 0 stands for, and with 0 in memory.
abbrev pub nowhere : Home
nowhere = record { owner = 0; differs = false; initial = 0 }

-- The fixed part of a system (document 01: shelf): the number of machines, which of them have persistent memory (the
-- others' is volatile, and a part may differ), and the locations in the order of their numbers.
pub record Topology : Type 0 where
  pub machines : ℕ
  pub persistent : Machine → Bool
  pub homes : List Home

unfoldable pub is_machine : Topology → Machine → Bool
is_machine sys i = leb 1 i && leb i sys.machines

unfoldable pub is_location : Topology → Location → Bool
is_location sys x = ltb x (length sys.homes)

-- The owner of a location.
unfoldable pub owner : Topology → Location → Machine
owner sys x = (get_or sys.homes x nowhere).owner

-- Each location has one owner, a machine of the system.
abbrev pub WellFormed : Topology → Type 0
WellFormed sys = (x : Location) → T (is_location sys x) → T (is_machine sys (owner sys x))

-- The value that a location's memory holds at the start, and again after a crash that clears it.
unfoldable pub initial : Topology → Location → Value
initial sys x = (get_or sys.homes x nowhere).initial

-- The memory at a home is persistent if its owner's is or, where it differs, if its owner's is not.
unfoldable pub keeps : (Machine → Bool) → Home → Bool
keeps persistent h = cond h.differs (not (persistent h.owner)) (persistent h.owner)

-- The memory of a location is persistent.
unfoldable pub is_persistent : Topology → Location → Bool
is_persistent sys x = keeps sys.persistent (get_or sys.homes x nowhere)

-- ---- the state

-- What each machine's cache holds for each location, a value or nothing, and the value of each location's memory.
pub record State : Type 0 where
  pub cache : Machine → Location → Option Value
  pub memory : Location → Value

-- At the start caches hold nothing and memories hold their initial value.
unfoldable pub start : Topology → State
start sys = record { cache = λ i x. none; memory = initial sys }

abbrev pub holds : Option Value → Bool
holds none = false
holds (some v) = true

-- Nothing, or this value and no other.
abbrev pub agrees : Value → Option Value → Bool
agrees v none = true
agrees v (some u) = eqb u v

-- Of machines 1 to n: some, or every one, passes a test.
unfoldable pub some_machine : ℕ → (Machine → Bool) → Bool
some_machine zero test = false
some_machine (suc n) test = test (suc n) || some_machine n test

unfoldable pub every_machine : ℕ → (Machine → Bool) → Bool
every_machine zero test = true
every_machine (suc n) test = test (suc n) && every_machine n test

-- Some cache holds x.
unfoldable pub cached : Topology → State → Location → Bool
cached sys s x = some_machine sys.machines (λ j. holds (s.cache j x))

-- ---- events and silent steps

-- Where a store puts its value: the cache of the machine that stores, the cache of the owner, or the owner's memory.
pub data Form : Type 0 where
  L R M : Form

-- What a log records: by machine i, on location x, of value v. A read-modify-write (source 000, appendix A: L-RMW,
-- R-RMW and M-RMW, by the form of its store) reads v and writes w. In a set crash all machines of a set crash together.
pub data Event : Type 0 where
  LStore RStore MStore Load : (i : Machine) (x : Location) (v : Value) → Event
  LFlush RFlush : (i : Machine) (x : Location) → Event
  Crash : (i : Machine) → Event
  SetCrash : (set : MachineSet) → Event
  RMW : (form : Form) (i : Machine) (x : Location) (v w : Value) → Event

-- What nobody sees (document 01: silent steps). `Propagate` is its move: i's copy goes to the owner's cache.
pub data Silent : Type 0 where
  Propagate : (i : Machine) (x : Location) → Silent
  WriteBack : (x : Location) → Silent

pub data Action : Type 0 where
  event : Event → Action
  silent : Silent → Action

-- The machines that an event crashes.
unfoldable pub crashes : Event → Machine → Bool
crashes (LStore i x v) j = false
crashes (RStore i x v) j = false
crashes (MStore i x v) j = false
crashes (Load i x v) j = false
crashes (LFlush i x) j = false
crashes (RFlush i x) j = false
crashes (Crash i) j = eqb j i
crashes (SetCrash set) j = has j set
crashes (RMW form i x v w) j = false

-- The memory of a location is lost in a crash of its owner, if it is volatile.
unfoldable pub clears : Topology → Event → Location → Bool
clears sys e x = crashes e (owner sys x) && not (is_persistent sys x)

-- An action names machines and locations of the system.
unfoldable pub named : Topology → Action → Bool
named sys (event (LStore i x v)) = is_machine sys i && is_location sys x
named sys (event (RStore i x v)) = is_machine sys i && is_location sys x
named sys (event (MStore i x v)) = is_machine sys i && is_location sys x
named sys (event (Load i x v)) = is_machine sys i && is_location sys x
named sys (event (LFlush i x)) = is_machine sys i && is_location sys x
named sys (event (RFlush i x)) = is_machine sys i && is_location sys x
named sys (event (Crash i)) = is_machine sys i
-- no machine above the last one is in the set
named sys (event (SetCrash set)) = ltb set (2 ^ sys.machines)
named sys (event (RMW form i x v w)) = is_machine sys i && is_location sys x
named sys (silent (Propagate i x)) = is_machine sys i && is_location sys x
named sys (silent (WriteBack x)) = is_location sys x

-- What a load of v asks of the state: if some cache holds x, it must hold v; if none does, the owner's memory must.
abbrev pub readable : Topology → Location → Value → State → Bool
readable sys x v s =
    cond (cached sys s x) (every_machine sys.machines (λ j. agrees v (s.cache j x))) (eqb (s.memory x) v)

-- What an action asks of the state.
unfoldable pub enabled : Topology → Action → State → Bool
enabled sys (event (LStore i x v)) s = true
enabled sys (event (RStore i x v)) s = true
enabled sys (event (MStore i x v)) s = true
enabled sys (event (Load i x v)) s = readable sys x v s
-- i's cache holds nothing for x
enabled sys (event (LFlush i x)) s = not (holds (s.cache i x))
-- no cache holds x
enabled sys (event (RFlush i x)) s = not (cached sys s x)
enabled sys (event (Crash i)) s = true
enabled sys (event (SetCrash set)) s = true
-- what its load asks: its store asks nothing
enabled sys (event (RMW form i x v w)) s = readable sys x v s
-- i is not the owner, and its cache holds x
enabled sys (silent (Propagate i x)) s = not (eqb i (owner sys x)) && holds (s.cache i x)
-- the owner's cache holds x
enabled sys (silent (WriteBack x)) s = holds (s.cache (owner sys x) x)

-- The caches after machine i's got c for x and every other one lost x.
abbrev pub only : Machine → Location → Option Value → State → Machine → Location → Option Value
only i x c s j y = cond (eqb y x) (cond (eqb j i) c none) (s.cache j y)

-- The caches after machine i's got c for x, the others staying as they are.
abbrev pub also : Machine → Location → Option Value → State → Machine → Location → Option Value
also i x c s j y = cond (eqb y x) (cond (eqb j i) c (s.cache j y)) (s.cache j y)

-- The caches after each one lost x.
abbrev pub without : Location → State → Machine → Location → Option Value
without x s j y = cond (eqb y x) none (s.cache j y)

-- The state after a store of v by i.
abbrev pub stored : Topology → Form → Machine → Location → Value → State → State
-- i's cache gets v; every other cache loses x; memory stays
stored sys L i x v s = record { cache = only i x (some v) s; memory = s.memory }
-- the owner's cache gets v; every other cache loses x; memory stays
stored sys R i x v s = record { cache = only (owner sys x) x (some v) s; memory = s.memory }
-- the owner's memory gets v; every cache loses x
stored sys M i x v s = record { cache = without x s; memory = λ y. cond (eqb y x) v (s.memory y) }

-- The state after a load of v by i: if some cache holds x, i's cache gets v too; if none does, nothing changes.
abbrev pub loaded : Topology → Machine → Location → Value → State → State
loaded sys i x v s = cond (cached sys s x) (record { cache = also i x (some v) s; memory = s.memory }) s

-- The state after a crash, of one machine or of several in one step: the cache of each machine that crashes is emptied;
-- the locations that it owns in volatile memory return to their initial value.
abbrev pub crashed : Topology → Event → State → State
crashed sys e s =
    record {
      cache = λ j y. cond (crashes e j) none (s.cache j y);
      memory = λ y. cond (clears sys e y) (initial sys y) (s.memory y);
    }

-- The state after an action. It is meant only where the action is possible.
unfoldable pub next : Topology → Action → State → State
next sys (event (LStore i x v)) s = stored sys L i x v s
next sys (event (RStore i x v)) s = stored sys R i x v s
next sys (event (MStore i x v)) s = stored sys M i x v s
next sys (event (Load i x v)) s = loaded sys i x v s
next sys (event (LFlush i x)) s = s
next sys (event (RFlush i x)) s = s
next sys (event (Crash i)) s = crashed sys (Crash i) s
next sys (event (SetCrash set)) s = crashed sys (SetCrash set) s
-- a load of v and the store of w, with nothing between them
next sys (event (RMW form i x v w)) s = stored sys form i x w (loaded sys i x v s)
-- i loses x, and the owner's cache gets the value that i's held
next sys (silent (Propagate i x)) s =
    record {
      cache = λ j y. cond (eqb y x)
          (cond (eqb j i) none (cond (eqb j (owner sys x)) (s.cache i y) (s.cache j y)))
          (s.cache j y);
      memory = s.memory;
    }
-- memory gets the value that the owner's cache holds, and every cache loses x
next sys (silent (WriteBack x)) s =
    record {
      cache = without x s;
      memory = λ y. cond (eqb y x) (Option.get_or (s.cache (owner sys x) y) (s.memory y)) (s.memory y);
    }

-- ---- runs

-- An action is possible if it names machines and locations of the system and the state is as it asks.
unfoldable pub possible : Topology → Action → State → Bool
possible sys a s = named sys a && enabled sys a s

-- Every action of the list names machines and locations of the system.
unfoldable pub all_named : Topology → List Action → Bool
all_named sys [] = true
all_named sys (a ∷ acts) = named sys a && all_named sys acts

-- Each action of the list is possible in its turn.
unfoldable pub runs : Topology → List Action → State → Bool
runs sys [] s = true
runs sys (a ∷ acts) s = possible sys a s && runs sys acts (next sys a s)

-- The state that the list leads to.
unfoldable pub after : Topology → List Action → State → State
after sys [] s = s
after sys (a ∷ acts) s = after sys acts (next sys a s)

-- A run: events and silent steps from the start, each possible in its turn.
abbrev pub Run : Topology → List Action → Type 0
Run sys acts = T (runs sys acts (start sys))

-- The events of a list of actions, and its silent steps.
unfoldable pub events : List Action → List Event
events [] = []
events (event e ∷ acts) = e ∷ events acts
events (silent s ∷ acts) = events acts

unfoldable pub silents : List Action → List Silent
silents [] = []
silents (event e ∷ acts) = silents acts
silents (silent s ∷ acts) = s ∷ silents acts

-- A run of a list of events has exactly these events in this order, with any silent steps, or none, before, between and
-- after them.
unfoldable pub HasRun : Topology → List Event → Type 0
HasRun sys es = (acts : List Action) × (events acts ≡ es) × Run sys acts

-- The first impossible event: the least e, counted from 1, such that the first e events have no run.
unfoldable pub FirstImpossible : Topology → List Event → ℕ → Type 0
FirstImpossible sys es e =
    (1 ≤ e) × (e ≤ length es) × ¬ HasRun sys (take e es) × ((d : ℕ) → d < e → HasRun sys (take d es))

-- ---- how many

unfoldable pub count : {A : Type 0} → (A → Bool) → List A → ℕ
count test [] = 0
count test (a ∷ l) = cond (test a) (suc (count test l)) (count test l)

-- Stores are LStore, RStore, MStore and every read-modify-write.
unfoldable pub is_store : Event → Bool
is_store (LStore i x v) = true
is_store (RStore i x v) = true
is_store (MStore i x v) = true
is_store (Load i x v) = false
is_store (LFlush i x) = false
is_store (RFlush i x) = false
is_store (Crash i) = false
is_store (SetCrash set) = false
is_store (RMW form i x v w) = true

unfoldable pub is_load : Event → Bool
is_load (LStore i x v) = false
is_load (RStore i x v) = false
is_load (MStore i x v) = false
is_load (Load i x v) = true
is_load (LFlush i x) = false
is_load (RFlush i x) = false
is_load (Crash i) = false
is_load (SetCrash set) = false
is_load (RMW form i x v w) = false
