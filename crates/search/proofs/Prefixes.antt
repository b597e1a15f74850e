-- At one location, too, having a run is closed under prefixes.
use Prim.Native.Nat.{ℕ, zero, suc}
use mathlib.Core.Path.{refl, ap}
use mathlib.Core.List.{List, [], ◌∷◌}
use lib.Dec.{T}
use lib.ListN.{take}
use Rattle.model.specs.Cxl0.{Location, Topology, Event, Action, event, silent, events}
use Rattle.model.specs.OneLocation.{Local, silent_at, possible_at, next_at, runs_at, own_steps, HasRunAt}
use Rattle.model.proofs.Tests.{and_l, and_r, and_i}

module _ (sys : Topology) (x : Location) where
  -- A run ends early: its actions up to event d are a run of the first d events.
  cut : (acts : List Action) (s : Local) (d : ℕ) → T (own_steps x acts) → T (runs_at sys x acts s)
      → HasRunAt sys x (take d (events acts)) s
  unfolding events own_steps runs_at
  cut acts s zero o r = ([], refl, tt, tt)
  cut [] s (suc d) o r = ([], refl, tt, tt)
  cut (event e ∷ acts) s (suc d) o r =
      let can = possible_at sys x (event e) s in
      let then = next_at sys x (event e) s in
      let m = cut acts then d o (and_r can (runs_at sys x acts then) r) in (
        event e ∷ m.0,
        ap (◌∷◌ e) m.1,
        m.2,
        and_i can (runs_at sys x m.0 then) (and_l can (runs_at sys x acts then) r) m.3,
      )
  cut (silent a ∷ acts) s (suc d) o r =
      let can = possible_at sys x (silent a) s in
      let then = next_at sys x (silent a) s in
      let own = and_l (silent_at x a) (own_steps x acts) o in
      let owns = and_r (silent_at x a) (own_steps x acts) o in
      let m = cut acts then (suc d) owns (and_r can (runs_at sys x acts then) r) in (
        silent a ∷ m.0,
        m.1,
        and_i (silent_at x a) (own_steps x m.0) own m.2,
        and_i can (runs_at sys x m.0 then) (and_l can (runs_at sys x acts then) r) m.3,
      )

  -- A prefix of a list of events that has a run has one too.
  pub has_run_at_prefix : (es : List Event) (d : ℕ) (s : Local) → HasRunAt sys x es s
      → HasRunAt sys x (take d es) s
  has_run_at_prefix es d s r = rw r.1 at (cut r.0 s d r.2 r.3)
