-- Runs at one location with at most so many silent steps, by the site alone, for events that all concern the location.
use Rattle.std.specs.Prelude.{ℕ, suc, not, ◌&&◌, List, [], ◌∷◌, T, eqb}
use Rattle.model.specs.Cxl0.{Machine, Event, event}
use Rattle.model.specs.Sharers.{has}
use Rattle.model.specs.OneLocation.{Local, Site, enabled_at, effect, moved, recoded, written}

-- From the short form s, the events have a run with at most l silent steps.
pub data Pays (k : Site) : List Event → Local → ℕ → Type 0 where
  done : {s : Local} {l : ℕ} → Pays k [] s l
  acts : {e : Event} {es : List Event} {s : Local} {l : ℕ} → T (enabled_at k (event e) s)
      → Pays k es (effect k (event e) s) l → Pays k (e ∷ es) s l
  moves : {es : List Event} {s : Local} {l : ℕ} (i : Machine) → T (not (eqb i k.owner) && has i s.code)
      → Pays k es (recoded (moved k.owner i s.code) s) l → Pays k es s (suc l)
  writes : {es : List Event} {s : Local} {l : ℕ} → T (has k.owner s.code)
      → Pays k es (written s) l → Pays k es s (suc l)
