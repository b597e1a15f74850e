-- The events that matter at a location have a run there exactly if all events have one.
use Prim.Native.Nat.{ℕ, ◌≤◌}
use native.Mathlib.Omega.{arith}
use mathlib.Core.Path.{◌≡◌, refl, ap, ◌∙◌, subst, sym}
use mathlib.Core.Logic.{⊎_elim, ◌↔◌}
use mathlib.Core.Bool.{Bool, true, false, not}
use mathlib.Core.List.{List, [], ◌∷◌}
use lib.Dec.{T}
use Rattle.model.specs.Cxl0.{Location, Topology, initial}
use Rattle.model.specs.Cxl0.{Event, Crash, SetCrash}
use Rattle.model.specs.Cxl0.{event, silent}
use Rattle.model.specs.OneLocation.{Local, location_of, site_of, clears_site, event_at, silent_at, concerns, enabled_at}
use Rattle.model.specs.OneLocation.{crashed_at, effect, possible_at, next_at}
use Rattle.model.specs.OneLocation.{start_at, HasRunAt, Silently, still, step}
use Rattle.model.proofs.Tests.{cond_same, true→T, not→false, and_l, and_r}
use Rattle.model.proofs.Sharers.{remove_le, remove_all_le}
use Rattle.model.proofs.Locations.{IsCrash, single, several, located, foreign_elsewhere}
use Rattle.model.proofs.SilentSteps.{no_step}
use Rattle.model.proofs.Gaps.{has_run_nil, after_gap, has_run_cons}
use Rattle.model.specs.OneLocation.{own_event}
use Rattle.events.specs.Thinning.{none_own, matters, Thins, rest, keep, skip, Thinned}

-- ---- events elsewhere

module _ (sys : Topology) (x : Location) where
  -- An event that does not concern x leaves x as it is.
  elsewhere_next : (e : Event) (s : Local) → T (not (event_at x e)) → next_at sys x (event e) s ≡ s
  unfolding next_at concerns
  elsewhere_next e s t = rw (not→false {b = event_at x e} t)

  -- It is possible at x.
  elsewhere_possible : (e : Event) (s : Local) → T (not (event_at x e))
      → possible_at sys x (event e) s ≡ true
  unfolding possible_at concerns
  elsewhere_possible e s t = rw (not→false {b = event_at x e} t)

  crash_possible : {e : Event} (s : Local) → IsCrash e → possible_at sys x (event e) s ≡ true
  unfolding possible_at concerns enabled_at event_at location_of
  crash_possible s (single i) = refl
  crash_possible s (several set) = refl

  -- So is every event that does not name x, crashes too.
  pub foreign_possible : (e : Event) (s : Local) → T (not (own_event x e))
      → possible_at sys x (event e) s ≡ true
  foreign_possible e s t =
      ⊎_elim (λ at. elsewhere_possible e s (foreign_elsewhere x e at.1 t)) (crash_possible s) (located e)

  -- A crash leaves the start as it is.
  lost_none : (e : Event) (c : ℕ) → c ≤ 0 → crashed_at (site_of sys x) e c (start_at sys x) ≡ start_at sys x
  unfolding site_of start_at
  lost_none e c less =
      let none : c ≡ 0 = omega arith in
      let same = cond_same (clears_site e (site_of sys x)) (initial sys x) in
      λ j. record { code = none j; copy = 0; memory = same j }

  start_crash : {e : Event} → IsCrash e → next_at sys x (event e) (start_at sys x) ≡ start_at sys x
  unfolding next_at concerns event_at location_of effect start_at
  start_crash (single i) = lost_none (Crash i) _ (remove_le i 0)
  start_crash (several set) = lost_none (SetCrash set) _ (remove_all_le set 0)

  -- At the start an event that does not name x leaves x as it is.
  foreign_next : (e : Event) → T (not (own_event x e))
      → next_at sys x (event e) (start_at sys x) ≡ start_at sys x
  foreign_next e t =
      ⊎_elim (λ at. elsewhere_next e (start_at sys x) (foreign_elsewhere x e at.1 t)) start_crash (located e)

  -- ---- silent steps

  -- Where no machine holds a copy, x has no silent step.
  quiet : {s t : Local} → Silently sys x s t → s.code ≡ 0 → t ≡ s
  quiet still none = refl
  quiet (step {s} a t r) none =
      absurd (no_step (site_of sys x) a s none (and_r (silent_at x a) (enabled_at (site_of sys x) (silent a) s) t))

  -- ---- runs

  -- Events of which none names x have a run at x from everywhere.
  none_run : (es : List Event) → T (none_own x es) → (s : Local) → HasRunAt sys x es s
  unfolding none_own
  none_run [] t s = has_run_nil sys x s
  none_run (e ∷ es) t s =
      let here = and_l (not (own_event x e)) (none_own x es) t in
      let more = none_run es (and_r (not (own_event x e)) (none_own x es) t) (next_at sys x (event e) s) in
      (has_run_cons sys x e es s).1 (s, still, true→T (foreign_possible e s here), more)

  -- One event more that is possible at s and leaves s as it is.
  more_run : (e : Event) (es : List Event) (s : Local) → possible_at sys x (event e) s ≡ true
      → next_at sys x (event e) s ≡ s → HasRunAt sys x es s → HasRunAt sys x (e ∷ es) s
  more_run e es s can same r =
      (has_run_cons sys x e es s).1 (s, still, true→T can, subst (HasRunAt sys x es) (sym same) r)

  -- A gap before a run makes a run of the same events.
  gap_run : {s t : Local} (es : List Event) → Silently sys x s t → HasRunAt sys x es t → HasRunAt sys x es s
  gap_run es g r = let m = after_gap sys x g r.0 r.2 r.3 in (m.0, m.1 ∙ r.1, m.2, m.3)

  -- ---- events that need not be kept

  -- Where events may be left out: everywhere once one was kept, and at the start before.
  abbrev pub From : (begun : Bool) → Local → Type 0
  From true s = Unit {0}
  From false s = s ≡ start_at sys x

  -- After silent steps, if any, an event that need not be kept is possible and leaves x as it is.
  pub left_out : (begun : Bool) (e : Event) → T (not (matters begun x e)) → {s t : Local} → From begun s
      → Silently sys x s t
      → From begun t × (possible_at sys x (event e) t ≡ true) × (next_at sys x (event e) t ≡ t)
  left_out true e none {t = t} from gap = (tt, elsewhere_possible e t none, elsewhere_next e t none)
  left_out false e none from gap =
      let here = quiet gap (ap (λ (l : Local). l.code) from ∙ unfold start_at in refl) ∙ from in
      (here, foreign_possible e _ none, rw here (foreign_next e none))

-- All events have a run at x exactly if those kept have one.
thins_run : (sys : Topology) {x : Location} {begun : Bool} {n : ℕ} {es kept : List Event} {indices : List ℕ}
    → Thins x begun n es kept indices → (s : Local) → From sys x begun s
    → HasRunAt sys x es s ↔ HasRunAt sys x kept s
thins_run sys {x} (rest {es} t) s from = (λ r. has_run_nil sys x s, λ r. none_run sys x es t s)
thins_run sys {x} (keep {e} {es} {kept} here h) s from = (
  λ r.
      let f = (has_run_cons sys x e es s).0 r in
      let more = (thins_run sys h (next_at sys x (event e) f.0) tt).0 f.3 in
      (has_run_cons sys x e kept s).1 (f.0, f.1, f.2, more),
  λ r.
      let f = (has_run_cons sys x e kept s).0 r in
      let more = (thins_run sys h (next_at sys x (event e) f.0) tt).1 f.3 in
      (has_run_cons sys x e es s).1 (f.0, f.1, f.2, more),
)
thins_run sys {x} (skip {begun} {e} {es} {kept} t h) s from = (
  λ r.
      let f = (has_run_cons sys x e es s).0 r in
      let (there, can, same) = left_out sys x begun e t from f.1 in
      gap_run sys x kept f.1 ((thins_run sys h f.0 there).0 (subst (HasRunAt sys x es) same f.3)),
  λ r.
      let (here, can, same) = left_out sys x begun e t from still in
      more_run sys x e es s can same ((thins_run sys h s from).1 r),
)

-- From the start all events have a run exactly if those kept of them have one.
pub thinned_run : (sys : Topology) {x : Location} {es kept : List Event} {indices : List ℕ}
    → Thinned x es kept indices → HasRunAt sys x es (start_at sys x) ↔ HasRunAt sys x kept (start_at sys x)
thinned_run sys {x} thinned = thins_run sys thinned (start_at sys x) refl
