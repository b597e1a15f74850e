-- The shortest explanation (request W-204): a schedule with the fewest silent steps of any run of the events, and among
-- these the one whose numbers are smallest at the first difference.
use Rattle.std.specs.Prelude.{◌≤◌, ◌<◌, ◌≡◌, ◌⊎◌, List, [], ◌∷◌, T, length}
use Rattle.model.specs.Cxl0.{Topology, Event, Action, Run, events, silents}
use Rattle.model.specs.Schedule.{Step, weave, schedule, in_order}

-- The numbers of a step, in file order events before, location and machine, are smaller than another's where they first
-- differ.
abbrev pub Less : Step → Step → Type 0
Less p q =
    (p.before < q.before)
    ⊎ ((p.before ≡ q.before)
    × ((p.location < q.location) ⊎ ((p.location ≡ q.location) × (p.machine < q.machine))))

-- Of two schedules, the first has the smaller numbers at the first difference.
unfoldable pub Smaller : List Step → List Step → Type 0
Smaller [] qs = ⊥
Smaller (p ∷ ps) [] = ⊥
Smaller (p ∷ ps) (q ∷ qs) = Less p q ⊎ ((p ≡ q) × Smaller ps qs)

-- The steps, in order, make a run of the events; no run of them has fewer silent steps, wherever these stand; and of
-- the runs with as few, none has a smaller schedule.
pub record Shortest (sys : Topology) (es : List Event) (ps : List Step) : Type 0 where
  pub order : T (in_order 0 (length es) ps)
  pub run : Run sys (weave es ps)
  pub fewest : (acts : List Action) → events acts ≡ es → Run sys acts → length ps ≤ length (silents acts)
  pub smallest : (acts : List Action) → events acts ≡ es → Run sys acts
      → length (silents acts) ≡ length ps → ¬ Smaller (schedule acts) ps
