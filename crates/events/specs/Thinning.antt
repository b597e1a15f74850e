-- The events of a list that matter at a location: its own, and the crashes between the first and the last of these.
-- The others leave the location as it is, or come where nothing depends on them.
use Rattle.std.specs.Prelude.{ℕ, suc, ◌+◌, ◌-◌, Bool, true, false, not, ◌&&◌, List, [], ◌∷◌, map, T, get_or}
use Rattle.model.specs.Cxl0.{Location, Event}
use Rattle.model.specs.Schedule.{Step}
use Rattle.model.specs.OneLocation.{own_event, event_at}

-- No event of the list names x.
unfoldable pub none_own : Location → List Event → Bool
none_own x [] = true
none_own x (e ∷ es) = not (own_event x e) && none_own x es

-- The events that must be kept: those that name x, and once one was kept, crashes too.
abbrev pub matters : (begun : Bool) → Location → Event → Bool
matters true x e = event_at x e
matters false x e = own_event x e

-- The events es stand at the indices from n on; those at `indices` are kept, and `begun` says whether any was before.
-- Each of these concerns x. Left out are events that need not be kept, and all after the last one that names x.
pub data Thins (x : Location) : Bool → ℕ → List Event → (kept : List Event) (indices : List ℕ) → Type 0 where
  rest : {begun : Bool} {n : ℕ} {es : List Event} → T (none_own x es) → Thins x begun n es [] []
  keep : {begun : Bool} {n : ℕ} {e : Event} {es kept : List Event} {indices : List ℕ}
      → T (event_at x e) → Thins x true (suc n) es kept indices
      → Thins x begun n (e ∷ es) (e ∷ kept) (n ∷ indices)
  skip : {begun : Bool} {n : ℕ} {e : Event} {es kept : List Event} {indices : List ℕ}
      → T (not (matters begun x e)) → Thins x begun (suc n) es kept indices → Thins x begun n (e ∷ es) kept indices

-- What is kept of all events.
abbrev pub Thinned : Location → List Event → (kept : List Event) (indices : List ℕ) → Type 0
Thinned x es kept indices = Thins x false 0 es kept indices

-- How many events there are up to the t-th kept one: its index, plus 1.
abbrev pub place_after : List ℕ → ℕ → ℕ
place_after indices t = get_or indices (t - 1) 0 + 1

-- A step of the kept events as a step of all, as early as it can stand: right after the kept event before it.
unfoldable pub retimed : List ℕ → List Step → List Step
retimed indices ps =
    map (λ p. record { before = place_after indices p.before; location = p.location; machine = p.machine }) ps
