-- The shortest schedule at one location, from any short form of it and after any number of events.
use Rattle.std.specs.Prelude.{ℕ, ◌+◌, ◌≤◌, ◌≡◌, Bool, true, false, T, length}
use mathlib.Core.List.{List, [], ◌∷◌, Memᴰ}
use Rattle.model.specs.Cxl0.{Location, Topology, Event, Action, event, silent, events, silents}
use Rattle.model.specs.Schedule.{Step, weave_from, schedule_from, in_order}
use Rattle.model.specs.OneLocation.{Local, own_steps, runs_at, after_at, start_at}
use Rattle.model.specs.Shortest.{Smaller}

-- The actions are a run of the events at x from s, with silent steps of x alone.
pub record RunOf (sys : Topology) (x : Location) (es : List Event) (s : Local) (acts : List Action) : Type 0 where
  pub of : events acts ≡ es
  pub own : T (own_steps x acts)
  pub runs : T (runs_at sys x acts s)

-- There is such a run with at most l silent steps.
abbrev pub Within : Topology → Location → List Event → Local → ℕ → Type 0
Within sys x es s l = (acts : List Action) × RunOf sys x es s acts × (length (silents acts) ≤ l)

-- When n events have passed, the steps are the shortest schedule of the events es at x from s.
pub record ShortestFrom (sys : Topology) (x : Location) (n : ℕ) (es : List Event) (s : Local) (ps : List Step)
    : Type 0 where
  pub order : T (in_order n (n + length es) ps)
  pub own : (p : Step) → Memᴰ p ps → p.location ≡ x
  pub runs : T (runs_at sys x (weave_from n es ps) s)
  pub fewest : (acts : List Action) → RunOf sys x es s acts → length ps ≤ length (silents acts)
  pub smallest : (acts : List Action) → RunOf sys x es s acts
      → length (silents acts) ≡ length ps → ¬ Smaller (schedule_from n acts) ps

-- The steps are the shortest schedule of the events at x.
abbrev pub ShortestAt : Topology → Location → List Event → List Step → Type 0
ShortestAt sys x es ps = ShortestFrom sys x 0 es (start_at sys x) ps

-- ---- known states

-- The last action of the list, if there is one, is an event.
unfoldable pub ends_in_event : List Action → Bool
ends_in_event [] = true
ends_in_event (event e ∷ acts) = ends_in_event acts
ends_in_event (silent a ∷ []) = false
ends_in_event (silent a ∷ b ∷ acts) = ends_in_event (b ∷ acts)

-- The state after the events is known: every run of them from s that ends with the last one leads to s'.
abbrev pub KnownAfter : Topology → Location → List Event → Local → Local → Type 0
KnownAfter sys x es s s' =
    (acts : List Action) → RunOf sys x es s acts → T (ends_in_event acts) → after_at sys x acts s ≡ s'
