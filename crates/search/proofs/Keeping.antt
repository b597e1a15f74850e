-- What the walk keeps: the events, the list of steps before its own, and what follows the waypoints.
use Prim.Native.Nat.{ℕ, ◌+◌, ◌-◌, ◌≤◌, ◌<◌}
use native.Mathlib.Nat.{le_refl}
use native.Mathlib.Omega.{arith}
use mathlib.Core.Path.{◌≡◌, refl, sym, ap, ◌∙◌}
use mathlib.Core.List.{List}
use lib.ListN.{take, drop}
use Rattle.scratch.specs.Layout.{ROWS, STEPS, LOG, MOST, OnlyIn}
use Rattle.scratch.specs.Words.{event_in, events_from, events_in, struct_in}
use Rattle.scratch.proofs.Frames.{only_wider}
use Rattle.scratch.proofs.Events.{struct_same, event_same, same_from, events_same}
use Rattle.scratch.proofs.Segments.{words_from}
use Rattle.search.specs.Paths.{Kept}

-- Nothing has changed.
pub kept_none : (base : ℕ) (w : List ℕ) → Kept base w w
kept_none base w = record { sized = refl; events = refl; list = refl; above = refl }

-- One change after another.
pub kept_then : {base : ℕ} {w w' w'' : List ℕ} → Kept base w w' → Kept base w' w'' → Kept base w w''
kept_then p q =
    record {
      sized = q.sized ∙ p.sized;
      events = q.events ∙ p.events;
      list = q.list ∙ p.list;
      above = q.above ∙ p.above;
    }

module _ {base : ℕ} {w w' : List ℕ} (low : STEPS ≤ base) where
  -- Where rows and copies change.
  pub kept_rows : OnlyIn ROWS STEPS w w' → Kept base w w'
  kept_rows only =
      let count = base - STEPS in
      let end : STEPS + count ≡ base = omega arith in
      let first = words_from STEPS count w in
      let words = words_from STEPS count w' ∙ ap (take count) only.above ∙ sym first in
      record {
        sized = only.sized;
        events = only.below;
        list = rw end at words;
        above = (only_wider {to' = LOG} only (le_refl ROWS) (omega arith)).above;
      }

  -- Where steps from the path's first on and waypoints change.
  pub kept_steps : OnlyIn base LOG w w' → Kept base w w'
  kept_steps only =
      record {
        sized = only.sized;
        events = (only_wider {from' = ROWS} only (omega arith) (le_refl LOG)).below;
        list = ap (drop STEPS) only.below;
        above = only.above;
      }

-- The events are as they were, since nothing has changed but what is between them and the end of the waypoints.
module _ {base : ℕ} {w w' : List ℕ} (kept : Kept base w w') where
  between : OnlyIn ROWS LOG w w'
  between = record { sized = kept.sized; below = kept.events; above = kept.above }

  pub struct_kept : (j : ℕ) → j < MOST → struct_in w' j ≡ struct_in w j
  struct_kept j h = struct_same between j h

  pub event_kept : (j : ℕ) → j < MOST → event_in w' j ≡ event_in w j
  event_kept j h = event_same between j h

  pub from_kept : (j m : ℕ) → j + m ≤ MOST → events_from w' j m ≡ events_from w j m
  from_kept j m h = same_from between j m h

  pub events_kept : (m : ℕ) → m ≤ MOST → events_in w' m ≡ events_in w m
  events_kept m h = events_same between m h
