-- The shortest schedule of the events at one location: what its search asks and leaves.
use Rattle.std.specs.Prelude.{ℕ, suc, ◌+◌, ◌≤◌, ◌<◌, ◌≡◌, List, map, T, length}
use Rattle.model.specs.Cxl0.{Topology}
use Rattle.model.specs.OneLocation.{event_at}
use Rattle.model.specs.ShortestAt.{ShortestAt}
use Rattle.model.specs.Words.{step_of_word}
use Rattle.entries.specs.declared.Site.{Site}
use Rattle.rows.specs.Sites.{Describes}
use Rattle.scratch.specs.Layout.{STEPS}
use Rattle.scratch.specs.Words.{event_in, events_in, words_at}
use Rattle.walking.specs.StepsBack.{Fits}
use Rattle.search.specs.Paths.{Kept, Explainable, events_of, IfAll}
use Rattle.search.specs.declared.explaining.Found.{Found}

-- The area has k known events, each of which concerns the site's location, and a list of `count` steps.
pub record Shortenable (s : Site) (k count : ℕ) (w : List ℕ) : Type 0 where
  pub explainable : Explainable s k count w
  pub here : (j : ℕ) → j < k → T (event_at s.location.0 (event_in w j))

-- Behind the list of `count` words stand those of the shortest schedule of the k events, `more` in all.
pub record Scheduled (s : Site) (k count : ℕ) (w : List ℕ) (more : ℕ) (w' : List ℕ) : Type 0 where
  pub words : List ℕ
  pub counted : more ≡ count + length words
  pub list : words_at (STEPS + count) (length words) w' ≡ words
  pub shortest : (sys : Topology) → Describes sys s
      → ShortestAt sys s.location.0 (events_in w k) (map step_of_word words)

-- The first events have a run, and if these are not all, one more have none; if they are all, there is the shortest
-- schedule.
pub record Shortened (s : Site) (k count : ℕ) (w : List ℕ) (r : Found) (w' : List ℕ) : Type 0 where
  pub kept : Kept (STEPS + count) w w'
  pub most : events_of k r ≤ k
  pub runs : (sys : Topology) → Describes sys s → Fits sys s (events_of k r) w
  pub ends : events_of k r < k → (sys : Topology) → Describes sys s → ¬ Fits sys s (suc (events_of k r)) w
  pub steps : IfAll k r (λ more. Scheduled s k count w more w')
