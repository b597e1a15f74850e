-- Schedules: the silent steps of a run as a verdict file lists them, and how a schedule and events make a run.
use Rattle.std.specs.Prelude.{ℕ, zero, suc, Bool, true, cond, ◌&&◌, List, [], ◌∷◌, ◌++◌, map, leb}
use Rattle.model.specs.Cxl0.{Location, Event, Silent, Propagate, WriteBack, Action, event, silent}

-- A silent step with the number of events before it. Machine 0 means write-back, any other propagates its copy.
pub record Step : Type 0 where
  pub before : ℕ
  pub location : Location
  pub machine : ℕ

unfoldable pub silent_of : Step → Silent
silent_of p = elim p.machine [ zero ↦ WriteBack p.location | suc i ↦ Propagate (suc i) p.location ]

unfoldable pub step_of : ℕ → Silent → Step
step_of n (Propagate i x) = record { before = n; location = x; machine = i }
step_of n (WriteBack x) = record { before = n; location = x; machine = 0 }

-- The steps at the front of a schedule that have at most n events before them, and the rest.
unfoldable pub due : ℕ → List Step → List Step
due n [] = []
due n (p ∷ ps) = cond (leb p.before n) (p ∷ due n ps) []

unfoldable pub later : ℕ → List Step → List Step
later n [] = []
later n (p ∷ ps) = cond (leb p.before n) (later n ps) (p ∷ ps)

unfoldable pub steps : List Step → List Action
steps ps = map (λ p. silent (silent_of p)) ps

-- Events with a schedule, n events having passed: before each event the steps that are due, and those that remain after
-- the last one.
unfoldable pub weave_from : ℕ → List Event → List Step → List Action
weave_from n [] ps = steps ps
weave_from n (e ∷ es) ps = steps (due n ps) ++ event e ∷ weave_from (suc n) es (later n ps)

unfoldable pub weave : List Event → List Step → List Action
weave es ps = weave_from 0 es ps

-- And back: the schedule of a list of actions.
unfoldable pub schedule_from : ℕ → List Action → List Step
schedule_from n [] = []
schedule_from n (event e ∷ acts) = schedule_from (suc n) acts
schedule_from n (silent s ∷ acts) = step_of n s ∷ schedule_from n acts

unfoldable pub schedule : List Action → List Step
schedule acts = schedule_from 0 acts

-- The counts of events before are at least m, never fall, and are at most n.
unfoldable pub in_order : ℕ → ℕ → List Step → Bool
in_order m n [] = true
in_order m n (p ∷ ps) = leb m p.before && leb p.before n && in_order p.before n ps
