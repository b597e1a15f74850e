-- A run at one location, event by event: before each event a gap of silent steps that makes it possible.
use mathlib.Core.Path.{◌≡◌, refl, ap, ◌∙◌, subst}
use mathlib.Core.Logic.{◌↔◌}
use mathlib.Core.List.{List, [], ◌∷◌, nil≢cons, head-eq_of_cons-eq, tail-eq_of_cons-eq}
use lib.Dec.{T}
use Rattle.model.specs.Cxl0.{Location, Topology, Event, Silent, Action, event, silent, events}
use Rattle.model.specs.OneLocation.{Local, silent_at, concerns, enabled_at, effect, possible_at, next_at, site_of}
use Rattle.model.specs.OneLocation.{runs_at, own_steps, HasRunAt, Silently, still, step}
use Rattle.model.proofs.Tests.{and_l, and_r, and_i, T→true}

module _ (sys : Topology) (x : Location) where
  -- No events have a run from everywhere.
  pub has_run_nil : (s : Local) → HasRunAt sys x [] s
  unfolding events own_steps runs_at
  has_run_nil s = ([], refl, tt, tt)

  -- A gap leads from s to a short form where e is possible, and es has a run from the one after it.
  abbrev pub RunsFirst : Event → List Event → Local → Type 0
  RunsFirst e es s =
      (t : Local)
      × Silently sys x s t
      × T (possible_at sys x (event e) t)
      × HasRunAt sys x es (next_at sys x (event e) t)

  -- A silent step of x is possible where it is enabled, and has its effect.
  pub own_possible : (a : Silent) (s : Local) → T (silent_at x a)
      → possible_at sys x (silent a) s ≡ enabled_at (site_of sys x) (silent a) s
  unfolding possible_at concerns
  own_possible a s t = rw (T→true {b = silent_at x a} t)

  pub own_next : (a : Silent) (s : Local) → T (silent_at x a)
      → next_at sys x (silent a) s ≡ effect (site_of sys x) (silent a) s
  unfolding next_at concerns
  own_next a s t = rw (T→true {b = silent_at x a} t)

  -- A run begins with the gap before its first event.
  first : (acts : List Action) (e : Event) (es : List Event) (s : Local)
      → events acts ≡ e ∷ es → T (own_steps x acts) → T (runs_at sys x acts s) → RunsFirst e es s
  unfolding events own_steps runs_at
  first [] e es s p o r = absurd (nil≢cons p)
  first (event a ∷ acts) e es s p o r =
      let can = possible_at sys x (event a) s in
      let rest = runs_at sys x acts (next_at sys x (event a) s) in
      subst (λ (b : Event). RunsFirst b es s) (head-eq_of_cons-eq p)
      (s, still, and_l can rest r, (acts, tail-eq_of_cons-eq p, o, and_r can rest r))
  first (silent a ∷ acts) e es s p o r =
      let can = possible_at sys x (silent a) s in
      let rest = runs_at sys x acts (next_at sys x (silent a) s) in
      let own = and_l (silent_at x a) (own_steps x acts) o in
      let owns = and_r (silent_at x a) (own_steps x acts) o in
      let enabled = rw (own_possible a s own) at (and_l can rest r) in
      let runs = rw (own_next a s own) at (and_r can rest r) in
      let f = first acts e es (effect (site_of sys x) (silent a) s) p owns runs in
      (f.0, step a (and_i (silent_at x a) (enabled_at (site_of sys x) (silent a) s) own enabled) f.1, f.2, f.3)

  -- A gap before a run makes a run.
  pub after_gap : {s t : Local} → Silently sys x s t
      → (acts : List Action) → T (own_steps x acts) → T (runs_at sys x acts t)
      → (more : List Action) × (events more ≡ events acts) × T (own_steps x more) × T (runs_at sys x more s)
  unfolding events own_steps runs_at
  after_gap still acts o r = (acts, refl, o, r)
  after_gap (step {s} a p g) acts o r =
      let m = after_gap g acts o r in
      let own = and_l (silent_at x a) (enabled_at (site_of sys x) (silent a) s) p in
      let enabled = and_r (silent_at x a) (enabled_at (site_of sys x) (silent a) s) p in (
        silent a ∷ m.0,
        m.1,
        and_i (silent_at x a) (own_steps x m.0) own m.2,
        and_i (possible_at sys x (silent a) s) (runs_at sys x m.0 (next_at sys x (silent a) s))
            (rw (own_possible a s own) enabled)
            (rw (own_next a s own) m.3),
      )

-- A run of e and then es is a gap, e, and a run of es.
pub has_run_cons : (sys : Topology) (x : Location) (e : Event) (es : List Event) (s : Local)
    → HasRunAt sys x (e ∷ es) s ↔ RunsFirst sys x e es s
unfolding events own_steps runs_at
has_run_cons sys x e es s = (
  λ r. first sys x r.0 e es s r.1 r.2 r.3,
  λ f.
      let r = f.3 in
      let can = possible_at sys x (event e) f.0 in
      let rest = runs_at sys x r.0 (next_at sys x (event e) f.0) in
      let m = after_gap sys x f.1 (event e ∷ r.0) r.2 (and_i can rest f.2 r.3) in
      (m.0, m.1 ∙ ap (λ (l : List Event). e ∷ l) r.1, m.2, m.3),
)
