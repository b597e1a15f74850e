-- Walking on with the shortest schedule: what follows from a place is put behind what was noted so far.
use Rattle.std.specs.Prelude.{ℕ, suc, ◌+◌, ◌-◌, ◌≤◌, ◌≡◌, List, ◌++◌, map, T, length}
use Rattle.model.specs.Cxl0.{Machine, Location, Topology, Event, silent}
use Rattle.model.specs.Schedule.{Step, silent_of}
use Rattle.model.specs.OneLocation.{Local, Site, enabled_at, effect}
use Rattle.model.specs.ShortestAt.{ShortestFrom}
use Rattle.model.specs.Paying.{Pays}
use Rattle.model.specs.Words.{step_of_word}
use Rattle.entries.specs.declared.Site as site
use Rattle.rows.specs.Sites.{Describes}
use Rattle.scratch.specs.Words.{events_from, words_at}
use Rattle.walking.specs.Trails.{step_at}

-- The steps, and behind them the shortest schedule of the events es' from s' when n' events have passed, are the
-- shortest schedule of the events es from s when n have passed.
abbrev pub Toward : Topology → Location → ℕ → List Event → Local → List Step → ℕ → List Event → Local → Type 0
Toward sys x n es s ws n' es' s' =
    (ps : List Step) → ShortestFrom sys x n' es' s' ps → ShortestFrom sys x n es s (ws ++ ps)

-- The words noted from `from` to `to` are steps by which the shortest schedule of the events up to gap n goes from gap
-- t and s to gap t' and s'.
pub record Walked (site : site.Site) (n : ℕ) (w : List ℕ) (t : ℕ) (s : Local) (from : ℕ) (w' : List ℕ) (t' : ℕ)
    (s' : Local) (to : ℕ) : Type 0 where
  pub words : List ℕ
  pub ends : to ≡ from + length words
  pub list : words_at from (length words) w' ≡ words
  pub toward : (sys : Topology) → Describes sys site
      → Toward sys site.location.0 t (events_from w t (n - t)) s (map step_of_word words)
      t' (events_from w t' (n - t')) s'

-- A silent step of machine i, or the write-back if i is 0: whether it is possible, and what it leaves.
abbrev pub can_step : Site → Machine → Local → Type 0
can_step k i s = T (enabled_at k (silent (silent_of (step_at 0 0 i))) s)

abbrev pub after_step : Site → Machine → Local → Local
after_step k i s = effect k (silent (silent_of (step_at 0 0 i))) s

-- No silent step leaves less than r steps to pay for the events.
abbrev pub Still : Site → List Event → Local → ℕ → Type 0
Still k es s r = (i : Machine) → can_step k i s → (y : ℕ) → suc y ≤ r → ¬ Pays k es (after_step k i s) y
