-- The path of the walk at one location: the waypoints before the events so far, each with the steps that lead to it.
-- What going back and going on ask and leave of it, and what the events explained leave.
use Rattle.std.specs.Prelude.{ℕ, suc, ◌+◌, ◌*◌, ◌≤◌, ◌<◌, ◌≡◌, Option, IfSome, IfNone, T, length, take, drop}
use mathlib.Core.List.{List, map, Memᴰ}
use Rattle.std.proofs.Math.Seq.{slice}
use Rattle.model.specs.Cxl0.{Topology, Event}
use Rattle.model.specs.Schedule.{Step, weave, in_order}
use Rattle.model.specs.OneLocation.{Local, HasRunAt, start_at}
use Rattle.model.specs.Words.{step_of_word}
use Rattle.entries.specs.declared.Site.{Site}
use Rattle.rows.specs.Rows.{state}
use Rattle.rows.specs.Sites.{Known, Describes, copy_from}
use Rattle.scratch.specs.declared.Waypoint.{Waypoint}
use Rattle.scratch.specs.Layout.{ROWS, STEPS, SORTED, LOG, WORDS, MOST, MOST-STEPS, OnlyIn}
use Rattle.scratch.specs.Words.{events_in, row_in, copy_in, waypoint_in, struct_in, words_at}
use Rattle.walking.specs.StepsBack.{Copies, Answers, Fits, Ready, OnlyRows}
use Rattle.walking.specs.Trails.{RunsTo}
use Rattle.walking.specs.Walks.{Placed, Schedules}
use Rattle.search.specs.declared.explaining.Found.{Found}
use Rattle.search.specs.declared.explaining.Found.TheVariants.{All, First}

-- ---- the path

-- Steps of the site's location in order that, woven with the events, lead from the start to the state z.
pub record Leading (s : Site) (es : List Event) (ps : List Step) (z : Local) : Type 0 where
  pub own : (p : Step) → Memᴰ p ps → p.location ≡ s.location.0
  pub order : T (in_order 0 (length es) ps)
  pub early : (p : Step) → Memᴰ p ps → p.before < length es
  pub runs : (sys : Topology) → Describes sys s
      → RunsTo sys s.location.0 (weave es ps) (start_at sys s.location.0) z

-- The words from `base` to where p ends are those of a schedule for the first t events, which leads to p.
pub record Led (s : Site) (base : ℕ) (w : List ℕ) (t : ℕ) (p : Waypoint) : Type 0 where
  pub words : List ℕ
  pub few : length words ≤ 6 * t
  pub here : p.end ≡ base + length words
  pub list : words_at base (length words) w ≡ words
  pub leading : Leading s (events_in w t) (map step_of_word words)
      (state p.code (copy_from s.location.0 0 (events_in w t)) p.memory)
  pub fits : p.code < 64

-- The waypoints before the first t events are in the area, and after these the walk stands at p.
pub data Path (s : Site) (base : ℕ) (w : List ℕ) : ℕ → Waypoint → Type 0 where
  start : Path s base w 0 (record { code = 0; memory = s.initial; end = base })
  more : {t : ℕ} {p q : Waypoint} → Path s base w t p → waypoint_in w t ≡ p → p.end ≤ q.end
      → Led s base w (suc t) q → Path s base w (suc t) q

-- The steps of the path begin where the list of steps has room for them.
pub record Based (s : Site) (base : ℕ) (w : List ℕ) (t : ℕ) (p : Waypoint) : Type 0 where
  pub low : STEPS ≤ base
  pub high : base ≤ SORTED
  pub path : Path s base w t p

-- The events, the list of steps up to `base`, and what follows the waypoints are as they were.
pub record Kept (base : ℕ) (w w' : List ℕ) : Type 0 where
  pub sized : length w' ≡ length w
  pub events : take ROWS w' ≡ take ROWS w
  pub list : slice STEPS base w' ≡ slice STEPS base w
  pub above : drop LOG w' ≡ drop LOG w

-- ---- going back

-- The events from event d on, of m, have a run from the waypoint before it.
abbrev pub RunsFrom : Topology → Site → ℕ → List ℕ → ℕ → Type 0
RunsFrom sys s m w d =
    HasRunAt sys s.location.0 (drop d (events_in w m))
    (state (waypoint_in w d).code (copy_in w d) (waypoint_in w d).memory)

-- There are m events, with a waypoint before each.
pub record Retraceable (s : Site) (m : ℕ) (w : List ℕ) : Type 0 where
  pub some : 0 < m
  pub ready : Ready s m w
  pub fits : (d : ℕ) → d < m → (waypoint_in w d).code < 64

-- The rows after event r are there, and the events from r on have a run from its waypoint.
pub record Regained (s : Site) (m : ℕ) (w w' : List ℕ) (r : ℕ) : Type 0 where
  pub below : r < m
  pub rows : (d : ℕ) → r < d → d ≤ m → Answers s (drop d (events_in w' m)) (copy_in w' d) (row_in w' d)
  pub runs : (sys : Topology) → Describes sys s → RunsFrom sys s m w r

-- So it is with the event that was found; if none was, the events have no run from the first waypoint.
pub record Retraced (s : Site) (m : ℕ) (w : List ℕ) (r : Option ℕ) (w' : List ℕ) : Type 0 where
  pub frame : OnlyRows w w'
  pub regained : IfSome r (Regained s m w w')
  pub none : IfNone r ((sys : Topology) → Describes sys s → ¬ RunsFrom sys s m w 0)

-- ---- walking again

-- The rows after event `from` are there, and in some system the events from there on have a run from its waypoint.
pub record Resumable (s : Site) (from m : ℕ) (w : List ℕ) : Type 0 where
  pub below : from < m
  pub ready : Ready s m w
  pub rows : (d : ℕ) → from < d → d ≤ m → Answers s (drop d (events_in w m)) (copy_in w d) (row_in w d)
  pub base : ℕ
  pub based : Based s base w from (waypoint_in w from)
  pub system : Topology
  pub describes : Describes system s
  pub runs : RunsFrom system s m w from

-- The path leads from the waypoint before event `from` to p, after all m events.
pub record Resumed (s : Site) (from m : ℕ) (w : List ℕ) (p : Waypoint) (w' : List ℕ) : Type 0 where
  pub frame : OnlyIn (waypoint_in w from).end LOG w w'
  pub path : (base : ℕ) → Based s base w from (waypoint_in w from) → Path s base w' m p

-- ---- one event more

-- The walk stands at p after t events, which is the waypoint before event t, and there are the copies up to its end.
pub record Stuck (s : Site) (t : ℕ) (p : Waypoint) (w : List ℕ) : Type 0 where
  pub ready : Ready s (suc t) w
  pub waypoint : waypoint_in w t ≡ p
  pub base : ℕ
  pub based : Based s base w t p
  pub system : Topology
  pub describes : Describes system s

-- The walk stands at p after t events, there are the copies up to event t, and that is known.
pub record Continuable (s : Site) (t : ℕ) (p : Waypoint) (w : List ℕ) : Type 0 where
  pub ready : Ready s t w
  pub few : t < MOST
  pub known : Known (struct_in w t)
  pub base : ℕ
  pub based : Based s base w t p
  pub system : Topology
  pub describes : Describes system s

-- The path goes on over event t; or the events up to it have no run.
pub record Onwards (s : Site) (t : ℕ) (p : Waypoint) (w : List ℕ) (r : Option Waypoint) (w' : List ℕ) : Type 0 where
  pub kept : (base : ℕ) → Based s base w t p → Kept base w w'
  pub copies : Copies s.location.0 (suc t) w'
  pub goes : IfSome r (λ next. (base : ℕ) → Based s base w t p → Path s base w' (suc t) next)
  pub ends : IfNone r ((sys : Topology) → Describes sys s → ¬ Fits sys s (suc t) w)

-- ---- all events

-- The area has k known events at the site, which names a location of some system, and a list of `count` steps.
pub record Explainable (s : Site) (k count : ℕ) (w : List ℕ) : Type 0 where
  pub room : WORDS ≤ length w
  pub few : k ≤ MOST
  pub short : count ≤ MOST-STEPS
  pub known : (j : ℕ) → j < k → Known (struct_in w j)
  pub system : Topology
  pub placed : Placed system s (events_in w k)

-- Behind the list of `count` words stand those of a schedule for the k events, `more` in all.
pub record Scheduled (s : Site) (k count : ℕ) (w : List ℕ) (more : ℕ) (w' : List ℕ) : Type 0 where
  pub words : List ℕ
  pub counted : more ≡ count + length words
  pub list : words_at (STEPS + count) (length words) w' ≡ words
  pub schedules : Schedules s (events_in w k) (map step_of_word words)

-- How many of the k events have a run.
abbrev pub events_of : ℕ → Found → ℕ
events_of k (All steps) = k
events_of k (First n) = n

-- If all have one, P holds of the number of words that the list of steps has then.
abbrev pub IfAll : ℕ → Found → (ℕ → Type 0) → Type 0
IfAll k (All steps) P = P steps
IfAll k (First n) P = n < k

-- The first events have a run, and if these are not all, one more have none; if they are all, there is a schedule.
pub record Explained (s : Site) (k count : ℕ) (w : List ℕ) (r : Found) (w' : List ℕ) : Type 0 where
  pub kept : Kept (STEPS + count) w w'
  pub most : events_of k r ≤ k
  pub runs : (sys : Topology) → Describes sys s → Fits sys s (events_of k r) w
  pub ends : events_of k r < k → (sys : Topology) → Describes sys s → ¬ Fits sys s (suc (events_of k r)) w
  pub steps : IfAll k r (λ more. Scheduled s k count w more w')
