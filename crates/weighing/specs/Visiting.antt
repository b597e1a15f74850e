-- The search, location by location: how many of the log's events have a run at each location so far, and the steps of
-- the schedules that were found.
use Rattle.std.specs.Prelude.{ℕ, suc, ◌≤◌, ◌<◌, ◌≡◌, List, T, length, take}
use Rattle.model.specs.Cxl0.{Location, is_location, Event}
use Rattle.model.specs.OneLocation.{start_at, HasRunAt}
use Rattle.model.specs.Meaning.{topology_of}
use Rattle.model.specs.declared.Topology as topology
use Rattle.scratch.specs.Layout.{STEPS, LOG, MOST-STEPS, OnlyIn}
use Rattle.scratch.specs.Words.{words_at, steps_at}
use Rattle.events.specs.Linking.{logged}
use Rattle.weighing.specs.Weighing.{Weighable}
use Rattle.weighing.specs.Gathering.{Gathered}
use Rattle.weighing.specs.declared.visiting.Progress.{Progress}

-- ---- all locations below x

-- The first events have a run at each of them, and if these are not all, one more have none at some location. If
-- they are all, the list of steps has the shortest schedules of these locations, and there is room for it.
pub record Tried (t : topology.Topology) (es : List Event) (x : ℕ) (p : Progress) (w : List ℕ) : Type 0 where
  pub most : p.events ≤ length es
  pub few : p.steps ≤ MOST-STEPS
  pub runs : (y : Location) → y < x
      → HasRunAt (topology_of t) y (take p.events es) (start_at (topology_of t) y)
  pub ends : p.events < length es
      → (y : Location)
      × T (is_location (topology_of t) y)
      × ¬ HasRunAt (topology_of t) y (take (suc p.events) es) (start_at (topology_of t) y)
  pub steps : p.events ≡ length es
      → (length (words_at STEPS p.steps w) ≡ p.steps)
      × Gathered (topology_of t) es x (steps_at STEPS p.steps w)

-- Location x comes next.
pub record Visitable (t : topology.Topology) (n x : ℕ) (p : Progress) (w : List ℕ) : Type 0 where
  pub weighable : Weighable t n w
  pub listed : T (is_location (topology_of t) x)
  pub tried : Tried t (logged n w) x p w

-- What a visit leaves: the log as it was, and one location more.
pub record Visited (t : topology.Topology) (n x : ℕ) (w : List ℕ) (p : Progress) (w' : List ℕ) : Type 0 where
  pub frame : OnlyIn 0 LOG w w'
  pub tried : Tried t (logged n w) x p w'
