-- The theorems of CXL0, over the definitions of `Cxl0` and `Schedule`, each proved by citing the file that does the
-- work. `WellFormed sys` says that each location's owner is a machine of the system.
use Prim.Native.Nat.{ℕ, ◌+◌, ◌*◌, ◌≤◌}
use mathlib.Core.Path.{◌≡◌, refl}
use mathlib.Core.Logic.{◌≢◌, ◌⊎◌, ◌↔◌}
use mathlib.Core.Bool.{Bool, not}
use mathlib.Core.List.{List, ◌∷◌, ◌++◌, map}
use mathlib.Core.Option.{some}
use lib.Dec.{T}
use lib.ListN.{length, take}
use Rattle.model.specs.Cxl0.{Machine, Location, Value, MachineSet, Topology, WellFormed, is_location, owner}
use Rattle.model.specs.Cxl0.{initial, State, start, every_machine, cached, Form, Load, RMW, SetCrash}
use Rattle.model.specs.Cxl0.{Event, Action, event}
use Rattle.model.specs.Cxl0.{next, named, all_named, Run, HasRun, FirstImpossible}
use Rattle.model.specs.Cxl0.{after, events, silents, count, is_store, is_load}
use Rattle.model.specs.Schedule.{Step, weave, schedule, in_order}
use Rattle.model.specs.OneLocation.{Local, start_at, runs_at, HasRunAt, Moves, Silently}
use Rattle.model.specs.Sharers.{has}
use Rattle.model.specs.Goes.{store_of, Lists, crash_row}
use Rattle.model.specs.Earlier as earlier
use Rattle.model.specs.Earlier.{OwnersKinds, WakesAsZero, zeros}
use Rattle.model.specs.MarkedLogs.{AsMarked, logs, pattern_logs, set_crash_logs, kind_logs}
use Rattle.model.proofs.CopiesAgree
use Rattle.model.proofs.Bound
use Rattle.model.proofs.Split
use Rattle.model.proofs.SilentSteps
use Rattle.model.proofs.Decision
use Rattle.model.proofs.Prefixes
use Rattle.model.proofs.Weaving
use Rattle.model.proofs.ReadModifyWrites
use Rattle.model.proofs.SideBySide
use Rattle.model.proofs.SetCrashes
use Rattle.model.proofs.Earlier
use Rattle.model.proofs.MarkedLogs as marked

-- 1. Copies of one location always agree in value, in every state that a run reaches.
pub copies_agree : (sys : Topology) → WellFormed sys → (acts : List Action) → Run sys acts
    → (i j : Machine) (x : Location) (u v : Value)
    → (after sys acts (start sys)).cache i x ≡ some u → (after sys acts (start sys)).cache j x ≡ some v → u ≡ v
copies_agree = CopiesAgree.copies_agree

-- 2. In every run the silent steps number at most twice the stores and once the loads.
pub bound : (sys : Topology) → WellFormed sys → (acts : List Action) → Run sys acts
    → length (silents acts) ≤ 2 * count is_store (events acts) + count is_load (events acts)
bound = Bound.bound

-- So a run of at most 128 events has at most 256 of them.
pub bound_256 : (sys : Topology) → WellFormed sys → (acts : List Action) → Run sys acts
    → length (events acts) ≤ 128 → length (silents acts) ≤ 256
bound_256 = Bound.bound_256

-- 3. Split by location. A list of actions is a run of the whole system exactly when every action names machines and
-- locations of the system and the list runs at every location.
pub split_run : (sys : Topology) → WellFormed sys → (acts : List Action)
    → Run sys acts
    ↔ (T (all_named sys acts) × ((x : Location) → T (is_location sys x) → T (runs_at sys x acts (start_at sys x))))
split_run = Split.split_run

-- A list of events has a run exactly when every event names machines and locations of the system and every location
-- has a run of the list with silent steps of its own.
pub split : (sys : Topology) → WellFormed sys → (es : List Event)
    → HasRun sys es
    ↔ (T (all_named sys (map event es))
    × ((x : Location) → T (is_location sys x) → HasRunAt sys x es (start_at sys x)))
split = Split.split

-- 4. Silent steps at one location: the copies' value stays, and either there were only moves to the owner, or the
-- copies were written back and are gone.
pub normal_form : (sys : Topology) (x : Location) (s t : Local) → 1 ≤ owner sys x
    → Silently sys x s t
    ↔ ((t.copy ≡ s.copy)
    × (((t.memory ≡ s.memory) × Moves (owner sys x) s.code t.code)
    ⊎ ((s.code ≢ 0) × (t.code ≡ 0) × (t.memory ≡ s.copy))))
normal_form = SilentSteps.normal_form

-- 5. A function decides whether a list of events has a run.
pub decide_correct : (sys : Topology) → WellFormed sys → (es : List Event)
    → T (Decision.decide sys es) ↔ HasRun sys es
decide_correct = Decision.decide_correct

-- Having a run is closed under prefixes.
pub has_run_prefix : (sys : Topology) (es : List Event) (d : ℕ) → HasRun sys es → HasRun sys (take d es)
has_run_prefix = Prefixes.has_run_prefix

-- 6. Any choice of silent steps at any places is a schedule: a run is its events woven with its schedule, which is in
-- order.
pub weave_run : (sys : Topology) (acts : List Action) → Run sys acts
    → T (in_order 0 (length (events acts)) (schedule acts)) × (weave (events acts) (schedule acts) ≡ acts)
weave_run sys acts run = (Weaving.schedule_in_order acts, Weaving.weave_run sys acts run)

-- And back: a schedule in order is the schedule of what it weaves with events, and these are the events of that.
pub schedule_weave : (es : List Event) (ps : List Step) → T (in_order 0 (length es) ps)
    → (events (weave es ps) ≡ es) × (schedule (weave es ps) ≡ ps)
schedule_weave es ps order = (Weaving.events_weave es ps, Weaving.schedule_weave es ps order)

-- 7. A list with a read-modify-write is a run exactly where it is one with load and store side by side in its place,
-- with no silent step between; and both lead to the same state.
pub rmw_run : (sys : Topology) (form : Form) (i : Machine) (x : Location) (v w : Value) (before acts : List Action)
    → Run sys (before ++ event (RMW form i x v w) ∷ acts)
    ↔ Run sys (before ++ event (Load i x v) ∷ event (store_of form i x w) ∷ acts)
rmw_run sys form i x v w = ReadModifyWrites.run_both sys i x v w form

pub rmw_after : (sys : Topology) (form : Form) (i : Machine) (x : Location) (v w : Value)
    → (acts : List Action) (s : State)
    → after sys (event (RMW form i x v w) ∷ acts) s
    ≡ after sys (event (Load i x v) ∷ event (store_of form i x w) ∷ acts) s
rmw_after sys form i x v w = ReadModifyWrites.after_both sys i x v w form

-- Silent steps between the two make no difference to what has a run: a read-modify-write rules out only that another
-- event comes between its load and its store.
pub rmw_has_run : (sys : Topology) → WellFormed sys → (form : Form) (i : Machine) (x : Location) (v w : Value)
    → (es fs : List Event)
    → HasRun sys (es ++ RMW form i x v w ∷ fs) ↔ HasRun sys (es ++ Load i x v ∷ store_of form i x w ∷ fs)
rmw_has_run sys wf form i x v w = SideBySide.has_run_both sys form i x v w wf

-- 8. A list with a set crash is a run exactly where it is one with the single crashes of the set's machines in its
-- place, in any order, with no silent step between; and both lead to the same state.
pub set_crash_run : (sys : Topology) (set : MachineSet) (is : List Machine) → Lists set is
    → (before acts : List Action)
    → Run sys (before ++ event (SetCrash set) ∷ acts) ↔ Run sys (before ++ (map event (crash_row is) ++ acts))
set_crash_run = SetCrashes.run_set

pub set_crash_after : (sys : Topology) (set : MachineSet) (is : List Machine) → Lists set is
    → (acts : List Action) (s : State)
    → after sys (event (SetCrash set) ∷ acts) s ≡ after sys (map event (crash_row is) ++ acts) s
set_crash_after = SetCrashes.after_set

-- There is such a row for every set of machines of the system.
pub set_crash_row : (sys : Topology) (set : MachineSet) → T (named sys (event (SetCrash set)))
    → (is : List Machine) × Lists set is
set_crash_row = SetCrashes.some_list

-- So a set crash only ever takes runs away: events that have one with it have one with the row in its place. Not the
-- other way round, since copies may move between single crashes: the request's logs, below, tell the two apart.
pub set_crash_has_run : (sys : Topology) (set : MachineSet) (is : List Machine) → Lists set is
    → (es fs : List Event)
    → HasRun sys (es ++ SetCrash set ∷ fs) → HasRun sys (es ++ (crash_row is ++ fs))
set_crash_has_run = SetCrashes.has_run_row

-- A crash of all machines together leaves every cache empty.
pub set_crash_all : (sys : Topology) (set : MachineSet) → T (every_machine sys.machines (λ j. has j set))
    → (s : State) (x : Location) → T (not (cached sys (next sys (event (SetCrash set)) s) x))
set_crash_all = SetCrashes.all_empty

-- 9. A system in which every location is of its owner's kind is the one of before W-206 (`Earlier`): it starts in the
-- same state, every action leaves the same state, the same lists are runs, and the same events have a run or a first
-- impossible one.
pub kinds_start : (sys : Topology) → OwnersKinds sys → start sys ≡ earlier.start (initial sys)
kinds_start sys kinds = Earlier.same_start sys (initial sys) kinds (λ x. refl)

pub kinds_next : (sys : Topology) → OwnersKinds sys → (a : Action) (s : State)
    → next sys a s ≡ earlier.next sys (initial sys) a s
kinds_next sys kinds = Earlier.same_next sys (initial sys) kinds (λ x. refl)

pub kinds_run : (sys : Topology) → OwnersKinds sys → (acts : List Action)
    → Run sys acts ↔ earlier.Run sys (initial sys) acts
kinds_run sys kinds = Earlier.same_run sys (initial sys) kinds (λ x. refl)

pub kinds_has_run : (sys : Topology) → OwnersKinds sys → (es : List Event)
    → HasRun sys es ↔ earlier.HasRun sys (initial sys) es
kinds_has_run sys kinds = Earlier.same_has_run sys (initial sys) kinds (λ x. refl)

pub kinds_first_impossible : (sys : Topology) → OwnersKinds sys → (es : List Event) (e : ℕ)
    → FirstImpossible sys es e ↔ earlier.FirstImpossible sys (initial sys) es e
kinds_first_impossible sys kinds = Earlier.same_first_impossible sys (initial sys) kinds (λ x. refl)

-- If it wakes up as zero too, it is the one of document 01.
pub zero_start : (sys : Topology) → OwnersKinds sys → WakesAsZero sys → start sys ≡ earlier.start zeros
zero_start sys = Earlier.same_start sys zeros

pub zero_next : (sys : Topology) → OwnersKinds sys → WakesAsZero sys → (a : Action) (s : State)
    → next sys a s ≡ earlier.next sys zeros a s
zero_next sys = Earlier.same_next sys zeros

pub zero_run : (sys : Topology) → OwnersKinds sys → WakesAsZero sys → (acts : List Action)
    → Run sys acts ↔ earlier.Run sys zeros acts
zero_run sys = Earlier.same_run sys zeros

pub zero_has_run : (sys : Topology) → OwnersKinds sys → WakesAsZero sys → (es : List Event)
    → HasRun sys es ↔ earlier.HasRun sys zeros es
zero_has_run sys = Earlier.same_has_run sys zeros

pub zero_first_impossible : (sys : Topology) → OwnersKinds sys → WakesAsZero sys → (es : List Event) (e : ℕ)
    → FirstImpossible sys es e ↔ earlier.FirstImpossible sys zeros es e
zero_first_impossible sys = Earlier.same_first_impossible sys zeros

-- The fourteen marked logs have the verdicts that document 01 gives them, and those of requests W-202, W-203 and W-206
-- theirs.
pub marked_logs : AsMarked logs
marked_logs = marked.marked_logs

pub pattern-logs : AsMarked pattern_logs
pattern-logs = marked.pattern-logs

pub set-crash-logs : (others : Machine → Bool) → AsMarked (set_crash_logs others)
set-crash-logs = marked.set-crash-logs

pub kind-logs : AsMarked kind_logs
kind-logs = marked.kind-logs
