-- Having a run is closed under prefixes.
use Prim.Native.Nat.{ℕ, zero, suc, ◌≤◌}
use mathlib.Core.Path.{◌≡◌, refl, ap, ◌∙◌}
use mathlib.Core.List.{List, [], ◌∷◌}
use lib.Dec.{T}
use lib.ListN.{take}
use lib.Seq.{take-take}
use Rattle.model.specs.Cxl0.{Topology, State, Event, Action, event, silent}
use Rattle.model.specs.Cxl0.{start, next, possible, runs, events, HasRun}
use Rattle.model.proofs.Tests.{and_l, and_r, and_i}

-- A run ends early: its actions up to event d are a run of the first d events.
cut : (sys : Topology) (acts : List Action) (s : State) (d : ℕ) → T (runs sys acts s)
    → (fewer : List Action) × (events fewer ≡ take d (events acts)) × T (runs sys fewer s)
unfolding runs events
cut sys acts s zero r = ([], refl, tt)
cut sys [] s (suc d) r = ([], refl, tt)
cut sys (event e ∷ acts) s (suc d) r =
    let can = possible sys (event e) s in
    let then = next sys (event e) s in
    let m = cut sys acts then d (and_r can (runs sys acts then) r) in (
      event e ∷ m.0,
      ap (λ (l : List Event). e ∷ l) m.1,
      and_i can (runs sys m.0 then) (and_l can (runs sys acts then) r) m.2,
    )
cut sys (silent a ∷ acts) s (suc d) r =
    let can = possible sys (silent a) s in
    let then = next sys (silent a) s in
    let m = cut sys acts then (suc d) (and_r can (runs sys acts then) r) in
    (silent a ∷ m.0, m.1, and_i can (runs sys m.0 then) (and_l can (runs sys acts then) r) m.2)

-- A prefix of a list of events that has a run has one too.
pub has_run_prefix : (sys : Topology) (es : List Event) (d : ℕ) → HasRun sys es → HasRun sys (take d es)
unfolding HasRun
has_run_prefix sys es d r =
    let m = cut sys r.0 (start sys) d r.2 in
    (m.0, m.1 ∙ ap (take d) r.1, m.2)

-- If the first e events have a run, so have the first d, fewer ones.
pub has_run_fewer : (sys : Topology) (es : List Event) (d e : ℕ) → d ≤ e
    → HasRun sys (take e es) → HasRun sys (take d es)
has_run_fewer sys es d e h r = rw (take-take d e es h) at (has_run_prefix sys (take e es) d r)
