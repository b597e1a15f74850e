-- The marked logs of document 01, and those of requests W-202, W-203 and W-206: for each, its system, its events, and
-- the verdict that it must have.
use Rattle.std.specs.Prelude.{ℕ, zero, suc, Bool, true, false, not, ◌&&◌, eqb}
use mathlib.Core.List.{List, [], ◌∷◌, ◌++◌, map, Memᴰ}
use Rattle.model.specs.Cxl0.{Machine, Location, Value, Home, Topology, WellFormed, HasRun, FirstImpossible}
use Rattle.model.specs.Cxl0.{Event, LStore, RStore, MStore, Load, LFlush, RFlush, Crash, SetCrash}

-- A verdict is a number: 0 says that the events have a run, any other is that of the first impossible event.
unfoldable pub Verdict : Topology → List Event → ℕ → Type 0
Verdict sys es zero = HasRun sys es
Verdict sys es (suc e) = FirstImpossible sys es (suc e)

pub record MarkedLog : Type 0 where
  pub system : Topology
  pub events : List Event
  pub verdict : ℕ

unfoldable pub log : Topology → List Event → ℕ → MarkedLog
log sys es e = record { system = sys; events = es; verdict = e }

-- Each log of the list has a well-formed system and the verdict that it is marked with.
abbrev pub AsMarked : List MarkedLog → Type 0
AsMarked ls =
    (l : MarkedLog) → Memᴰ l ls → WellFormed l.system × Verdict l.system l.events l.verdict

-- A location of machine k whose memory holds v at power-on: of k's kind, or of the other one.
abbrev pub filled : Machine → Value → Home
filled k v = record { owner = k; differs = false; initial = v }

abbrev pub filled_other : Machine → Value → Home
filled_other k v = record { owner = k; differs = true; initial = v }

-- Three machines, whose memories are all persistent or all volatile, and L0, L1 and so on.
unfoldable pub three : Bool → List Home → Topology
three kept homes = record { machines = 3; persistent = λ i. kept; homes = homes }

-- The same by the owners of L0, L1 and so on, whose memories start as zero.
unfoldable pub persistent : List Machine → Topology
persistent owners = three true (map (λ k. filled k 0) owners)

unfoldable pub volatile : List Machine → Topology
volatile owners = three false (map (λ k. filled k 0) owners)

abbrev pub L0 : Location
L0 = 0

abbrev pub L1 : Location
L1 = 1

-- Numbered as in document 01. The first nine are the litmus tests of source 000, figure 3.
unfoldable pub logs : List MarkedLog
logs =
    -- 1. L0 of 1: allowed
    log (persistent (1 ∷ [])) (RStore 1 L0 1 ∷ Crash 1 ∷ Load 1 L0 0 ∷ []) 0
    -- 2. As 1 with MStore: impossible, 3
    ∷ log (persistent (1 ∷ [])) (MStore 1 L0 1 ∷ Crash 1 ∷ Load 1 L0 0 ∷ []) 3
    -- 3. L0 of 1: impossible, 4
    ∷ log (persistent (1 ∷ [])) (LStore 1 L0 1 ∷ LFlush 1 L0 ∷ Crash 1 ∷ Load 1 L0 0 ∷ []) 4
    -- 4. L0 of 2: allowed
    ∷ log (persistent (2 ∷ [])) (LStore 1 L0 1 ∷ LFlush 1 L0 ∷ Crash 2 ∷ Load 1 L0 0 ∷ []) 0
    -- 5. As 4 with RFlush: impossible, 4
    ∷ log (persistent (2 ∷ [])) (LStore 1 L0 1 ∷ RFlush 1 L0 ∷ Crash 2 ∷ Load 1 L0 0 ∷ []) 4
    -- 6. L0 of 3: impossible, 4
    ∷ log (persistent (3 ∷ [])) (LStore 1 L0 1 ∷ Load 2 L0 1 ∷ Crash 1 ∷ Load 2 L0 0 ∷ []) 4
    -- 7. As 6 with LFlush by 2 before the crash and crash 2 after it: impossible, 6
    ∷ log (persistent (3 ∷ []))
    (LStore 1 L0 1 ∷ Load 2 L0 1 ∷ LFlush 2 L0 ∷ Crash 1 ∷ Crash 2 ∷ Load 2 L0 0 ∷ []) 6
    -- 8. L0 of 2, L1 of 1: allowed
    ∷ log (persistent (2 ∷ 1 ∷ []))
    (RStore 1 L0 1 ∷ Load 2 L0 1 ∷ RStore 2 L1 1 ∷ Crash 2 ∷ Load 1 L1 1 ∷ Load 1 L0 0 ∷ []) 0
    -- 9. As 8 with MStore first: impossible, 6
    ∷ log (persistent (2 ∷ 1 ∷ []))
    (MStore 1 L0 1 ∷ Load 2 L0 1 ∷ RStore 2 L1 1 ∷ Crash 2 ∷ Load 1 L1 1 ∷ Load 1 L0 0 ∷ []) 6
    -- 10. No events: allowed
    ∷ log (persistent []) [] 0
    -- 11. L0 of 1, a load of 1 first: impossible, 1
    ∷ log (persistent (1 ∷ [])) (Load 1 L0 1 ∷ []) 1
    -- 12. L0 of 2, all volatile: impossible, 3
    ∷ log (volatile (2 ∷ [])) (MStore 1 L0 1 ∷ Crash 2 ∷ Load 1 L0 1 ∷ []) 3
    -- 13. L0 of 2, all volatile: impossible, 5
    ∷ log (volatile (2 ∷ [])) (LStore 1 L0 1 ∷ Load 2 L0 1 ∷ LFlush 2 L0 ∷ Crash 2 ∷ Load 1 L0 1 ∷ []) 5
    -- 14. L0 of 2: allowed
    ∷ log (persistent (2 ∷ [])) (LStore 1 L0 1 ∷ Crash 1 ∷ Load 2 L0 1 ∷ []) 0
    ∷ []

-- The logs of request W-202: memories that are filled with a pattern at power-on.
unfoldable pub pattern_logs : List MarkedLog
pattern_logs =
    -- The pattern is read back, and nothing else: allowed; impossible, 1
    log (three true (filled 2 7 ∷ [])) (Load 1 L0 7 ∷ []) 0
    ∷ log (three true (filled 2 7 ∷ [])) (Load 1 L0 0 ∷ []) 1
    -- A volatile memory returns to it in a crash of its owner, not to 0, and a persistent one to neither: allowed;
    -- impossible, 3; impossible, 3
    ∷ log (three false (filled 2 7 ∷ [])) (MStore 1 L0 1 ∷ Crash 2 ∷ Load 1 L0 7 ∷ []) 0
    ∷ log (three false (filled 2 7 ∷ [])) (MStore 1 L0 1 ∷ Crash 2 ∷ Load 1 L0 0 ∷ []) 3
    ∷ log (three true (filled 2 7 ∷ [])) (MStore 1 L0 1 ∷ Crash 2 ∷ Load 1 L0 7 ∷ []) 3
    -- In a set crash of 1 and 2 each location returns to its own: allowed; impossible, 5
    ∷ log (three false (filled 1 7 ∷ filled 2 9 ∷ []))
    (MStore 3 L0 1 ∷ MStore 3 L1 1 ∷ SetCrash 3 ∷ Load 3 L0 7 ∷ Load 3 L1 9 ∷ []) 0
    ∷ log (three false (filled 1 7 ∷ filled 2 9 ∷ []))
    (MStore 3 L0 1 ∷ MStore 3 L1 1 ∷ SetCrash 3 ∷ Load 3 L0 7 ∷ Load 3 L1 7 ∷ []) 5
    ∷ []

-- The system of request W-203: machine 1 is volatile and owns L0. Which of the other two are persistent is left open.
unfoldable pub first_volatile : (others : Machine → Bool) → Topology
first_volatile others =
    record { machines = 3; persistent = λ i. not (eqb i 1) && others i; homes = filled 1 0 ∷ [] }

-- The request's logs: single crashes of 1 and 2, allowed, since the copy may move from 2 to 1 between them; and the set
-- of both, whose bits make 3, in their place: impossible at the load, 3.
unfoldable pub set_crash_logs : (others : Machine → Bool) → List MarkedLog
set_crash_logs others =
    log (first_volatile others) (LStore 2 L0 5 ∷ Crash 1 ∷ Crash 2 ∷ Load 2 L0 5 ∷ []) 0
    ∷ log (first_volatile others) (LStore 2 L0 5 ∷ SetCrash 3 ∷ Load 2 L0 5 ∷ []) 3
    ∷ []

-- The logs of request W-206: machine 2 has a journal, L0, in persistent memory and an index, L1, in volatile memory,
-- which wakes up as 7.
abbrev pub journal_logs : Topology → List MarkedLog
journal_logs sys =
    -- What the journal confirmed is there after a crash, and what the index held is not: allowed; impossible, 4, and 5
    log sys (MStore 1 L0 1 ∷ MStore 1 L1 1 ∷ Crash 2 ∷ Load 1 L0 1 ∷ Load 1 L1 7 ∷ []) 0
    ∷ log sys (MStore 1 L0 1 ∷ MStore 1 L1 1 ∷ Crash 2 ∷ Load 1 L0 0 ∷ []) 4
    ∷ log sys (MStore 1 L0 1 ∷ MStore 1 L1 1 ∷ Crash 2 ∷ Load 1 L0 1 ∷ Load 1 L1 1 ∷ []) 5
    -- The same with a set crash of 1 and 2
    ∷ log sys (MStore 1 L0 1 ∷ MStore 1 L1 1 ∷ SetCrash 3 ∷ Load 1 L0 1 ∷ Load 1 L1 7 ∷ []) 0
    ∷ log sys (MStore 1 L0 1 ∷ MStore 1 L1 1 ∷ SetCrash 3 ∷ Load 1 L0 0 ∷ []) 4
    ∷ log sys (MStore 1 L0 1 ∷ MStore 1 L1 1 ∷ SetCrash 3 ∷ Load 1 L0 1 ∷ Load 1 L1 1 ∷ []) 5
    ∷ []

-- The machines' memory is persistent and the index in the other part, or it is volatile and the journal there.
unfoldable pub kind_logs : List MarkedLog
kind_logs =
    journal_logs (three true (filled 2 0 ∷ filled_other 2 7 ∷ []))
    ++ journal_logs (three false (filled_other 2 0 ∷ filled 2 7 ∷ []))
