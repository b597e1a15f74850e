-- The walk forward over the events of one location: what a gap and a turn ask and leave, and the schedule that
-- the walk leaves.
use Rattle.std.specs.Prelude.{ℕ, suc, ◌+◌, ◌≤◌, ◌<◌, ◌≡◌, T, length}
use mathlib.Core.List.{List, [], ◌∷◌, ◌++◌, map, Memᴰ}
use Rattle.model.specs.Cxl0.{Machine, Value, Topology, is_location, WellFormed}
use Rattle.model.specs.Cxl0.{Event, event, silent, named, all_named}
use Rattle.model.specs.Schedule.{Step, silent_of, steps, weave, in_order}
use Rattle.model.specs.OneLocation.{HasRunAt, start_at, runs_at}
use Rattle.model.specs.OneLocation.{Reaches}
use Rattle.model.specs.Allowance.{allowance}
use Rattle.rows.specs.declared.Row.{Row}
use Rattle.entries.specs.declared.Site.{Site}
use Rattle.rows.specs.Rows.{state, Fine, Right}
use Rattle.rows.specs.Sites.{Describes, copy_after}
use Rattle.scratch.specs.declared.Waypoint.{Waypoint}
use Rattle.scratch.specs.Words.{event_in, row_in, copy_in}
use Rattle.scratch.specs.Layout.{WORDS}
use Rattle.scratch.specs.Stored.{Stored}
use Rattle.walking.specs.StepsBack.{Steppable}
use Rattle.walking.specs.Trails.{Trail, step_at, word_of, RunsTo}

-- The words of steps of the site after t events by these machines are stored from `place` on.
abbrev pub Noted : Site → ℕ → List Machine → List ℕ → ℕ → List ℕ → ℕ → Type 0
Noted s t machines w place w' next = Stored w place (map (word_of t s.location.0) machines) w' next

-- ---- a gap

-- Some silent steps lead from code c with memory value m into the row, where copies have the value u.
abbrev pub Enters : Machine → Value → Row → ℕ → Value → Type 0
Enters k u row c m = (d n : ℕ) × Reaches k (state c u m) (state d u n) × Fine row d n

-- Silent steps after t events are noted where p ends, and lead from p to q; copies have the value u.
pub record Moved (s : Site) (t : ℕ) (u : Value) (p : Waypoint) (w : List ℕ) (q : Waypoint) (w' : List ℕ)
    : Type 0 where
  pub machines : List Machine
  pub few : length machines ≤ 6
  pub noted : Noted s t machines w p.end w' q.end
  pub trail : Trail s.owner.0 machines (state p.code u p.memory) (state q.code u q.memory)
  pub fits : q.code < 64

-- ---- a turn: the gap before an event, and the event

-- The walk stands before event t at a waypoint from which the events can be finished.
pub record Standing (s : Site) (t : ℕ) (p : Waypoint) (w : List ℕ) : Type 0 where
  pub steppable : Steppable s t w (row_in w (suc t))
  pub space : p.end + 6 ≤ WORDS
  pub fits : p.code < 64
  pub system : Topology
  pub describes : Describes system s
  pub rest : List Event
  pub right : Right system s.location.0 rest (copy_after s.location.0 (copy_in w t) (event_in w t))
      (row_in w (suc t))
  pub runs : HasRunAt system s.location.0 (event_in w t ∷ rest) (state p.code (copy_in w t) p.memory)

-- Silent steps are noted where p ends. They and event t lead from p to q, from which the events after that can
-- be finished.
pub record Turned (s : Site) (t : ℕ) (p : Waypoint) (w : List ℕ) (q : Waypoint) (w' : List ℕ) : Type 0 where
  pub machines : List Machine
  pub few : length machines ≤ 6
  pub noted : Noted s t machines w p.end w' q.end
  pub runs : (sys : Topology) → Describes sys s
      → RunsTo sys s.location.0
      (steps (map (step_at t s.location.0) machines) ++ event (event_in w t) ∷ [])
      (state p.code (copy_in w t) p.memory)
      (state q.code (copy_after s.location.0 (copy_in w t) (event_in w t)) q.memory)
  pub fits : q.code < 64
  pub fine : Fine (row_in w (suc t)) q.code q.memory

-- ---- a schedule

-- The site describes its location in the system, and the events name machines and locations of the system.
pub record Placed (sys : Topology) (s : Site) (es : List Event) : Type 0 where
  pub describes : Describes sys s
  pub well_formed : WellFormed sys
  pub listed : T (is_location sys s.location.0)
  pub named : T (all_named sys (map event es))

-- The steps are a schedule of the site's location for the events.
pub record Schedules (s : Site) (es : List Event) (ps : List Step) : Type 0 where
  pub own : (p : Step) → Memᴰ p ps → p.location ≡ s.location.0
  pub in_order : T (in_order 0 (length es) ps)
  pub early : (p : Step) → Memᴰ p ps → p.before < length es
  pub few : length ps ≤ allowance s.location.0 es
  pub named : (sys : Topology) → Placed sys s es
      → (p : Step) → Memᴰ p ps → T (named sys (silent (silent_of p)))
  pub runs : (sys : Topology) → Describes sys s
      → T (runs_at sys s.location.0 (weave es ps) (start_at sys s.location.0))
