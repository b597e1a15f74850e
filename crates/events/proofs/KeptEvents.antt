-- The events kept for a location and their indices: what the first of them are kept of, that the indices
-- rise, that each of the events concerns the location, and that they name no more than all events do.
use Prim.Native.Nat.{ℕ, zero, suc, ◌+◌, ◌≤◌, ◌<◌}
use native.Mathlib.Nat.{not-suc-le-zero, le_of_suc-le-suc, zero-add}
use native.Mathlib.Omega.{arith}
use mathlib.Core.Path.{◌≡◌}
use mathlib.Core.Bool.{Bool}
use mathlib.Core.List.{List, map}
use lib.Dec.{T}
use lib.ListN.{length, get_or, take}
use Rattle.model.specs.Cxl0.{Location, Topology, Event, event, named, all_named}
use Rattle.model.proofs.Tests.{and_r}
use Rattle.model.proofs.Merge.{and_map}
use Rattle.model.specs.OneLocation.{event_at}
use Rattle.scratch.specs.Words.{event_in, events_in}
use Rattle.scratch.proofs.Events.{events_length}
use Rattle.events.specs.Thinning.{none_own, Thins, rest, keep, skip, Thinned}
use Rattle.events.proofs.Indices.{at_index}
use Rattle.events.proofs.LogWords.{events_at}

-- ---- the first of the events

-- The first d kept events are those kept of the first j events, and one more is kept of one more.
abbrev Cut : Location → Bool → ℕ → List Event → List Event → List ℕ → ℕ → Type 0
Cut x begun n es kept indices d =
    (j : ℕ)
    × (get_or indices d 0 ≡ n + j)
    × (j < length es)
    × Thins x begun n (take j es) (take d kept) (take d indices)
    × Thins x begun n (take (suc j) es) (take (suc d) kept) (take (suc d) indices)

thins_cut : {x : Location} {begun : Bool} {n : ℕ} {es kept : List Event} {indices : List ℕ}
    → Thins x begun n es kept indices → (d : ℕ) → d < length kept → Cut x begun n es kept indices d
unfolding none_own
thins_cut (rest t) d l = absurd (not-suc-le-zero l)
thins_cut (keep here h) zero l = (0, omega arith, omega arith, rest tt, keep here (rest tt))
thins_cut (keep here h) (suc d) l =
    let c = thins_cut h d (le_of_suc-le-suc l) in
    (suc c.0, omega (arith, c.1), omega (arith, c.2), keep here c.3, keep here c.4)
thins_cut (skip t h) d l =
    let c = thins_cut h d l in
    (suc c.0, omega (arith, c.1), omega (arith, c.2), skip t c.3, skip t c.4)

-- Let m be the index of kept event d. The first d kept events are those kept of the first m events, and one
-- more is kept of one more.
pub thinned_take : {x : Location} {es kept : List Event} {indices : List ℕ} → Thinned x es kept indices
    → (d : ℕ) → d < length kept
    → let m = get_or indices d 0 in
    (m < length es)
    × Thinned x (take m es) (take d kept) (take d indices)
    × Thinned x (take (suc m) es) (take (suc d) kept) (take (suc d) indices)
thinned_take h d l =
    let c = thins_cut h d l in
    rw (c.1, zero-add c.0) (c.2, c.3, c.4)

-- ---- the indices

-- The indices of the kept events are indices of the events.
pub thins_indices : {x : Location} {begun : Bool} {n : ℕ} {es kept : List Event} {indices : List ℕ}
    → Thins x begun n es kept indices
    → (d : ℕ) → d < length kept → (n ≤ get_or indices d 0) × (get_or indices d 0 < n + length es)
thins_indices h d l = let c = thins_cut h d l in (omega (arith, c.1), omega (arith, c.1, c.2))

-- The indices rise.
pub thins_rise : {x : Location} {begun : Bool} {n : ℕ} {es kept : List Event} {indices : List ℕ}
    → Thins x begun n es kept indices
    → (c d : ℕ) → c < d → d < length kept → get_or indices c 0 < get_or indices d 0
thins_rise (rest t) c d g l = absurd (not-suc-le-zero l)
thins_rise (keep here h) c zero g l = absurd (not-suc-le-zero g)
thins_rise (keep here h) zero (suc d) g l = omega (arith, thins_indices h d (le_of_suc-le-suc l))
thins_rise (keep here h) (suc c) (suc d) g l = thins_rise h c d (le_of_suc-le-suc g) (le_of_suc-le-suc l)
thins_rise (skip t h) c d g l = thins_rise h c d g l

-- ---- where they are

thins_concern : {x : Location} {begun : Bool} {n : ℕ} {es kept : List Event} {indices : List ℕ}
    → Thins x begun n es kept indices → (d : ℕ) → d < length kept → T (event_at x (at_index kept d))
thins_concern (rest t) d l = absurd (not-suc-le-zero l)
thins_concern (keep here h) zero l = here
thins_concern (keep here h) (suc d) l = thins_concern h d (le_of_suc-le-suc l)
thins_concern (skip t h) d l = thins_concern h d l

-- Each of the kept events in the area concerns the location.
pub kept_concern : (w : List ℕ) (k : ℕ) {x : Location} {es : List Event} {indices : List ℕ}
    → Thinned x es (events_in w k) indices → (j : ℕ) → j < k → T (event_at x (event_in w j))
kept_concern w k thinned j h =
    rw (events_at w k j h) at (thins_concern thinned j (rw (events_length w k) h))

-- ---- what is named

module _ (sys : Topology) where
  -- The kept events name machines and locations of the system if all do.
  pub thins_named : {x : Location} {begun : Bool} {n : ℕ} {es kept : List Event} {indices : List ℕ}
      → Thins x begun n es kept indices → T (all_named sys (map event es)) → T (all_named sys (map event kept))
  unfolding all_named
  thins_named (rest t) a = tt
  thins_named (keep {e} {es} {kept} here h) a =
      and_map (named sys (event e)) (all_named sys (map event es)) (all_named sys (map event kept))
      (thins_named h)
      a
  thins_named (skip {e} {es} t h) a =
      thins_named h (and_r (named sys (event e)) (all_named sys (map event es)) a)
