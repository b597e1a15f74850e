-- For each false shortcut of document 01, and of requests W-201 to W-203, that concerns the model, a list of actions
-- that tells it from CXL0: the list is a run, or is none, by computation from the definitions alone. The checker goes
-- through the modules by their names: with this one first, a wrong definition is told by this test before any law.
use mathlib.Core.Bool.{Bool, true, false, not, ◌&&◌}
use mathlib.Core.List.{List, [], ◌∷◌}
use lib.Dec.{T}
use Rattle.model.specs.Cxl0.{is_machine, is_location, owner, initial, start, some_machine, every_machine, cached}
use Rattle.model.specs.Cxl0.{LStore, MStore, Load, LFlush, Crash, SetCrash, RMW, L, R, M}
use Rattle.model.specs.Cxl0.{Propagate, WriteBack}
use Rattle.model.specs.Sharers.{has}
use Rattle.model.specs.Cxl0.{Topology, keeps, is_persistent}
use Rattle.model.specs.Cxl0.{Action, event, silent, crashes, clears, named, enabled, next}
use Rattle.model.specs.Cxl0.{possible, runs}
use Rattle.model.specs.MarkedLogs.{filled, three, persistent, volatile, L0}

pub record Case : Type 0 where
  pub system : Topology
  pub actions : List Action
  pub is_run : Bool

unfoldable pub case : Topology → List Action → Bool → Case
case sys acts b = record { system = sys; actions = acts; is_run = b }

unfoldable pub cases : List Case
cases =
    -- Flushes that do the write-back themselves: marked log 4 is lost. The copy goes to machine 2, and is lost there.
    case (persistent (2 ∷ []))
    (event (LStore 1 L0 1) ∷ silent (Propagate 1 L0) ∷ event (LFlush 1 L0) ∷ event (Crash 2)
    ∷ event (Load 1 L0 0) ∷ [])
    true
    -- Copies that stay put until a flush needs them gone: marked log 14 is lost.
    ∷ case (persistent (2 ∷ []))
    (event (LStore 1 L0 1) ∷ silent (Propagate 1 L0) ∷ event (Crash 1) ∷ event (Load 2 L0 1) ∷ [])
    true
    -- A load from memory that leaves a copy: it would outlive the memory that it came from.
    ∷ case (volatile (2 ∷ []))
    (event (MStore 1 L0 1) ∷ event (Load 1 L0 1) ∷ event (Crash 2) ∷ event (Load 1 L0 1) ∷ [])
    false
    -- A write-back that clears only the owner's copy: marked log 13 becomes allowed.
    ∷ case (volatile (2 ∷ []))
    (event (LStore 1 L0 1) ∷ event (Load 2 L0 1) ∷ silent (WriteBack L0) ∷ event (LFlush 2 L0) ∷ event (Crash 2)
    ∷ event (Load 1 L0 1) ∷ [])
    false
    -- A read-modify-write that lets a write-back in between: the value that it read would be in memory.
    ∷ case (persistent (2 ∷ []))
    (event (LStore 1 L0 1) ∷ event (RMW L 1 L0 1 2) ∷ event (Crash 1) ∷ event (Load 2 L0 1) ∷ [])
    false
    -- One that does not compare the value that it reads: a ticket would be taken twice.
    ∷ case (persistent (2 ∷ []))
    (event (RMW M 1 L0 0 1) ∷ event (RMW M 2 L0 0 1) ∷ [])
    false
    -- An R form that stores in the storing machine's cache: the value would be lost with that machine.
    ∷ case (persistent (2 ∷ []))
    (event (RMW R 1 L0 0 1) ∷ event (Crash 1) ∷ event (Load 2 L0 1) ∷ [])
    true
    -- A set crash that lets a copy move between its machines: request W-203's log becomes allowed.
    ∷ case (volatile (1 ∷ []))
    (event (LStore 2 L0 5) ∷ event (SetCrash 3) ∷ event (Load 2 L0 5) ∷ [])
    false
    -- One that keeps the memory of an owner in the set: what was written there would outlive a volatile memory.
    ∷ case (volatile (1 ∷ []))
    (event (MStore 2 L0 5) ∷ event (SetCrash 3) ∷ event (Load 2 L0 5) ∷ [])
    false
    -- One that empties the cache of a machine outside the set: machine 3 has its copy still.
    ∷ case (volatile (1 ∷ []))
    (event (LStore 3 L0 5) ∷ event (SetCrash 3) ∷ event (Load 2 L0 5) ∷ [])
    true
    -- Memory that starts as zero, whatever fills it: the pattern would not be read back.
    ∷ case (three true (filled 2 7 ∷ []))
    (event (Load 1 L0 7) ∷ [])
    true
    -- A crash that returns volatile memory to 0: request W-202's pattern is lost.
    ∷ case (three false (filled 2 7 ∷ []))
    (event (MStore 1 L0 1) ∷ event (Crash 2) ∷ event (Load 1 L0 7) ∷ [])
    true
    ∷ []

unfoldable pub as_said : Bool → Bool → Bool
as_said true b = b
as_said false b = not b

unfoldable pub told : List Case → Bool
told [] = true
told (c ∷ cs) = as_said c.is_run (runs c.system c.actions (start c.system)) && told cs

-- The model tells each of the shortcuts from itself.
pub shortcuts_told : T (told cases)
unfolding
    told as_said cases case three persistent volatile is_machine is_location owner initial keeps is_persistent
    start some_machine every_machine cached crashes clears named enabled next possible runs has
shortcuts_told = tt
