-- CXL0 before requests W-206 and W-202. Before W-206 what a crash clears goes by the owner's kind. What memories hold
-- at the start, and what is cleared returns to, is `first`: the initial values or, before W-202, zero, as document 01
-- has it. Each definition stands for the one of `Cxl0` with its name. The theorems compare the two.
use Rattle.std.specs.Prelude.{ℕ, ◌≤◌, ◌<◌, ◌≡◌, Bool, true, cond, ◌&&◌, List, [], ◌∷◌, T, length, take}
use Rattle.std.proofs.Math.Option.{none}
use Rattle.model.specs.Cxl0
use Rattle.model.specs.Cxl0.{Location, Value, Topology, owner, initial, is_persistent, State, Event, Action, event}
use Rattle.model.specs.Cxl0.{silent, crashes, possible, events}

-- Every location is of its owner's kind, as in all systems before W-206.
abbrev pub OwnersKinds : Topology → Type 0
OwnersKinds sys = (x : Location) → is_persistent sys x ≡ sys.persistent (owner sys x)

-- Memories start as zero, as in all systems before W-202.
abbrev pub WakesAsZero : Topology → Type 0
WakesAsZero sys = (x : Location) → initial sys x ≡ 0

abbrev pub zeros : Location → Value
zeros x = 0

unfoldable pub start : (first : Location → Value) → State
start first = record { cache = λ i x. none; memory = first }

-- Where an owner crashes, memory is kept or cleared by the owner's kind; all else is as `Cxl0` has it, and so is what a
-- silent step leaves.
unfoldable pub next : Topology → (first : Location → Value) → Action → State → State
next sys first (event e) s =
    let t = Cxl0.next sys (event e) s in
    record {
      cache = t.cache;
      memory = λ y. cond (crashes e (owner sys y))
          (cond (sys.persistent (owner sys y)) (s.memory y) (first y))
          (t.memory y);
    }
next sys first (silent a) s = Cxl0.next sys (silent a) s

unfoldable pub runs : Topology → (first : Location → Value) → List Action → State → Bool
runs sys first [] s = true
runs sys first (a ∷ acts) s = possible sys a s && runs sys first acts (next sys first a s)

abbrev pub Run : Topology → (first : Location → Value) → List Action → Type 0
Run sys first acts = T (runs sys first acts (start first))

unfoldable pub HasRun : Topology → (first : Location → Value) → List Event → Type 0
HasRun sys first es = (acts : List Action) × (events acts ≡ es) × Run sys first acts

unfoldable pub FirstImpossible : Topology → (first : Location → Value) → List Event → ℕ → Type 0
FirstImpossible sys first es e =
    (1 ≤ e)
    × (e ≤ length es)
    × ¬ HasRun sys first (take e es)
    × ((d : ℕ) → d < e → HasRun sys first (take d es))
