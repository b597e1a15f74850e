-- Runs of events that all concern the location, with at most so many silent steps: by the site alone (`Pays`) and by
-- lists of actions (`Within`) they say the same; and by what comes first.
use Prim.Native.Nat.{ℕ, zero, suc, zero-le, ◌≤◌}
use native.Mathlib.Nat.{le_of_suc-le-suc}
use native.Mathlib.Omega.{arith}
use mathlib.Core.Path.{◌≡◌, refl}
use mathlib.Core.Logic.{◌⊎◌, inl, inr, ◌↔◌}
use mathlib.Core.Bool.{not}
use mathlib.Core.List.{List, [], ◌∷◌, Memᴰ}
use lib.Dec.{T, eqb, eqb_refl}
use lib.ListN.{length}
use Rattle.model.specs.Cxl0.{Machine, Location, Topology, Event, Propagate, WriteBack}
use Rattle.model.specs.Cxl0.{Action, event, silent, silents}
use Rattle.model.specs.Sharers.{has}
use Rattle.model.specs.Schedule.{silent_of}
use Rattle.model.specs.OneLocation.{Local, Site, site_of, event_at, silent_at, concerns, enabled_at, effect}
use Rattle.model.specs.OneLocation.{possible_at, next_at, HasRunAt}
use Rattle.model.specs.ShortestAt.{RunOf, Within}
use Rattle.model.specs.Paying.{Pays, done, acts, moves, writes}
use Rattle.model.proofs.Tests.{and_r, T→true}
use Rattle.model.proofs.RunsOf.{own_step, run_of_none, event_first, step_first}
use Rattle.model.proofs.Greedy.{within_more, within_nil, within_event, within_step, has_run_within}

-- The silent step of machine i, or the write-back if i is 0. Where it stands makes no difference to what it asks and
-- leaves.
abbrev pub step_by : Machine → Action
step_by i = silent (silent_of (own_step 0 0 i))

module _ (k : Site) where
  pub enabled_step : (x : Location) (n : ℕ) (i : Machine) (s : Local)
      → enabled_at k (silent (silent_of (own_step x n i))) s ≡ enabled_at k (step_by i) s
  unfolding enabled_at silent_of
  enabled_step x n zero s = refl
  enabled_step x n (suc i) s = refl

  pub effect_step : (x : Location) (n : ℕ) (i : Machine) (s : Local)
      → effect k (silent (silent_of (own_step x n i))) s ≡ effect k (step_by i) s
  unfolding effect silent_of
  effect_step x n zero s = refl
  effect_step x n (suc i) s = refl

  -- ---- by what comes first

  -- Where some steps suffice, more do.
  pub pays_more : {es : List Event} {s : Local} {l m : ℕ} → Pays k es s l → l ≤ m → Pays k es s m
  pays_more done h = done
  pays_more (acts v p) h = acts v (pays_more p h)
  pays_more {m = zero} (moves i v p) h = absurd (omega arith)
  pays_more {m = suc m} (moves i v p) h = moves i v (pays_more p (le_of_suc-le-suc h))
  pays_more {m = zero} (writes v p) h = absurd (omega arith)
  pays_more {m = suc m} (writes v p) h = writes v (pays_more p (le_of_suc-le-suc h))

  -- First a silent step, if it is enabled.
  pub pays_step : {es : List Event} {s : Local} {l : ℕ} (i : Machine) → T (enabled_at k (step_by i) s)
      → Pays k es (effect k (step_by i) s) l → Pays k es s (suc l)
  unfolding enabled_at effect silent_of
  pays_step zero can p = writes can p
  pays_step (suc i) can p = moves (suc i) can p

  -- A silent step comes first, behind which one fewer suffices.
  abbrev pub StepFirst : List Event → Local → ℕ → Type 0
  StepFirst es s l =
      (i : Machine)
      × (m : ℕ)
      × (l ≡ suc m)
      × T (enabled_at k (step_by i) s)
      × Pays k es (effect k (step_by i) s) m

  -- There is no other way: first comes the event, or a silent step.
  pub pays_cons : {e : Event} {es : List Event} {s : Local} {l : ℕ} → Pays k (e ∷ es) s l
      → (T (enabled_at k (event e) s) × Pays k es (effect k (event e) s) l) ⊎ StepFirst (e ∷ es) s l
  unfolding enabled_at effect silent_of has
  pays_cons (acts can p) = inl (can, p)
  pays_cons {s = s} (moves zero v p) = absurd (and_r (not (eqb zero k.owner)) (has zero s.code) v)
  pays_cons (moves {l} (suc i) v p) = inr (suc i, l, refl, v, p)
  pays_cons (writes {l} v p) = inr (0, l, refl, v, p)

-- ---- by actions

-- An event that concerns x is possible where it is enabled, and has its effect.
module _ (sys : Topology) (x : Location) (e : Event) (s : Local) (here : T (event_at x e)) where
  pub possible-at : possible_at sys x (event e) s ≡ enabled_at (site_of sys x) (event e) s
  unfolding possible_at concerns
  possible-at = rw (T→true {b = event_at x e} here)

  pub next-at : next_at sys x (event e) s ≡ effect (site_of sys x) (event e) s
  unfolding next_at concerns
  next-at = rw (T→true {b = event_at x e} here)

-- All of the events concern x.
abbrev pub AllAt : Location → List Event → Type 0
AllAt x es = (e : Event) → Memᴰ e es → T (event_at x e)

module _ (sys : Topology) (x : Location) where
  -- A run pays with its silent steps.
  run_pays : (es : List Event) → AllAt x es → (run : List Action) (s : Local) (l : ℕ) → RunOf sys x es s run
      → length (silents run) ≤ l → Pays (site_of sys x) es s l
  unfolding silents enabled_at effect
  run_pays [] here run s l r h = done
  run_pays (e ∷ es) here [] s l r h = absurd (run_of_none sys x r)
  run_pays (e ∷ es) here (event d ∷ run) s l r h =
      let f = event_first sys x r in
      let own = here e (Memᴰ.head refl) in
      let later = run_pays es (λ d m. here d (Memᴰ.tail m)) run (next_at sys x (event e) s) l f.2 h in
      acts (rw (possible-at sys x e s own) at f.1) (rw (next-at sys x e s own) at later)
  run_pays (e ∷ es) here (silent a ∷ run) s zero r h = absurd (omega arith)
  run_pays (e ∷ es) here (silent (Propagate i y) ∷ run) s (suc l) r h =
      let f = step_first sys x r in
      moves i f.1 (run_pays (e ∷ es) here run _ l f.2 (le_of_suc-le-suc h))
  run_pays (e ∷ es) here (silent (WriteBack y) ∷ run) s (suc l) r h =
      let f = step_first sys x r in
      writes f.1 (run_pays (e ∷ es) here run _ l f.2 (le_of_suc-le-suc h))

  -- What is paid is a run.
  pays_run_within : {es : List Event} {s : Local} {l : ℕ} → AllAt x es → Pays (site_of sys x) es s l
      → Within sys x es s l
  unfolding enabled_at effect silent_at
  pays_run_within here done = within_more sys x (within_nil sys x) zero-le
  pays_run_within here (acts {e} {s = s} can p) =
      let own = here e (Memᴰ.head refl) in
      let later = pays_run_within (λ d m. here d (Memᴰ.tail m)) p in
      within_event sys x (rw (possible-at sys x e s own) can) (rw (next-at sys x e s own) later)
  pays_run_within here (moves i v p) = within_step sys x (Propagate i x) (eqb_refl x) v (pays_run_within here p)
  pays_run_within here (writes v p) = within_step sys x (WriteBack x) (eqb_refl x) v (pays_run_within here p)

-- For events that all concern x, both say the same.
pub pays_within : (sys : Topology) (x : Location) (es : List Event)
    → ((e : Event) → Memᴰ e es → T (event_at x e))
    → (s : Local) (l : ℕ) → Within sys x es s l ↔ Pays (site_of sys x) es s l
pays_within sys x es here s l = (
  λ w. run_pays sys x es here w.0 s l w.1 w.2,
  pays_run_within sys x here,
)

-- And so they have a run exactly if some number of silent steps suffices.
pub pays_run : (sys : Topology) (x : Location) (es : List Event)
    → ((e : Event) → Memᴰ e es → T (event_at x e))
    → (s : Local) → HasRunAt sys x es s ↔ ((l : ℕ) × Pays (site_of sys x) es s l)
pays_run sys x es here s = (
  λ r. let w = (has_run_within sys x).0 r in (w.0, (pays_within sys x es here s w.0).0 w.1),
  λ p. (has_run_within sys x).1 (p.0, (pays_within sys x es here s p.0).1 p.1),
)
