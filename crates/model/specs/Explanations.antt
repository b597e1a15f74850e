-- The explanation of events (request W-204), as a function that a reader can follow by hand. All schedules that may
-- explain the events are listed, fewer steps first and, among as many, smaller numbers first. The explanation is the
-- first schedule of the list that makes a run of them. The judge finds it without the list.
use Rattle.std.specs.Prelude.{ℕ, zero, suc, ◌+◌, ◌*◌, Bool, true, false, cond, ◌&&◌, length, take}
use mathlib.Core.List.{List, [], ◌∷◌, map, flat_map}
use Rattle.std.proofs.Math.Option.{Option, none, some, get_or}
use Rattle.model.specs.Cxl0.{Topology, Event, start, runs, count, is_store, is_load}
use Rattle.model.specs.Schedule.{Step, weave, in_order}

-- ---- lists

-- List comprehension: in a `do` block, `a ← l` takes each member a of the list l in turn.
abbrev pub ◌>>=◌ : {A B : Type 0} → List A → (A → List B) → List B
◌>>=◌ l f = flat_map f l

-- The numbers below n, smallest first.
unfoldable pub below : ℕ → List ℕ
below zero = []
below (suc n) = 0 ∷ map suc (below n)

-- The first member of a list that passes a test.
unfoldable pub first : {A : Type 0} → (A → Bool) → List A → Option A
first test [] = none
first test (a ∷ l) = cond (test a) (some a) (first test l)

abbrev pub is_none : {A : Type 0} → Option A → Bool
is_none none = true
is_none (some a) = false

-- ---- schedules

-- The steps that a schedule of n events may have: after 0 to n events, at any location, by any machine or, as a
-- write-back, by machine 0.
unfoldable pub steps_for : Topology → ℕ → List Step
steps_for sys n = do
  b ← below (suc n)
  x ← below (length sys.homes)
  i ← below (suc sys.machines)
  record { before = b; location = x; machine = i } ∷ []

-- The schedules of k steps, each out of a list of steps.
unfoldable pub schedules_of : List Step → ℕ → List (List Step)
schedules_of steps zero = [] ∷ []
schedules_of steps (suc k) = do
  p ← steps
  ps ← schedules_of steps k
  (p ∷ ps) ∷ []

-- A run has at most two silent steps for each store and one for each load (`bound` of `Theorems`).
unfoldable pub step_bound : List Event → ℕ
step_bound es = 2 * count is_store es + count is_load es

-- The schedules that may explain the events: those of no step, those of one step, and so on up to the bound.
unfoldable pub schedules_for : Topology → List Event → List (List Step)
schedules_for sys es = do
  k ← below (suc (step_bound es))
  schedules_of (steps_for sys (length es)) k

-- ---- the explanation

-- A schedule explains events if its steps are in order and make a run of the events.
unfoldable pub explains : Topology → List Event → List Step → Bool
explains sys es ps = in_order 0 (length es) ps && runs sys (weave es ps) (start sys)

-- The first schedule that explains the events, if one does.
unfoldable pub explanation : Topology → List Event → Option (List Step)
explanation sys es = first (explains sys es) (schedules_for sys es)

-- The least e such that the first e events have no explanation; 0 if there is no such e.
unfoldable pub first_unexplained : Topology → List Event → ℕ
first_unexplained sys es =
    get_or (first (λ e. is_none (explanation sys (take e es))) (below (suc (length es)))) 0
