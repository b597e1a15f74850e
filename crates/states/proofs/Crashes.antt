-- A crash, one location after the other, makes the state after it.
use Prim.Native.Nat.{◌<◌}
use mathlib.Core.Path.{◌≡◌, sym, ap, ◌∙◌}
use mathlib.Core.Logic.{◌⊎◌, ⊎_elim}
use mathlib.Core.Bool.{Bool, ◌&&◌, and-true}
use lib.Dec.{T}
use lib.ListN.{length}
use Rattle.std.specs.Prelude.{Option}
use Rattle.std.specs.Bool.{then_some}
use Rattle.model.specs.Cxl0
use Rattle.model.specs.Cxl0.{Location, State, Event, named, enabled, possible}
use Rattle.model.specs.OneLocation.{location_of, is_crash, event_at, concerns, site_of}
use Rattle.model.specs.Operations.{is_operation, event_of}
use Rattle.model.specs.Meaning.{topology_of, within_limits, meant}
use Rattle.entries.specs.Entries.{masked_to, acted_of, acted_by}
use Rattle.states.specs.States.{entry_at, local_of, state_of, entry_after, state_after, Answers}
use Rattle.model.specs.declared.Event as event
use Rattle.model.specs.declared.Topology as topology
use Rattle.entries.specs.declared.Entry as entry
use Rattle.entries.specs.declared.Acted as acted
use Rattle.states.specs.declared.State as state
use Rattle.model.proofs.Tests.{T→true}
use Rattle.model.proofs.Locations.{nowhere_crash, crash_everywhere, crash_enabled}
use Rattle.states.proofs.After.{all_after, answered}

-- The numbers of the crashes are those of a crash.
pub crash_numbers : (e : event.Event) → (e.operation ≡ 7) ⊎ (e.operation ≡ 11)
    → T (is_operation e.operation) × T (is_crash (meant e))
unfolding is_operation event_of is_crash location_of
crash_numbers e = ⊎_elim (λ f. rw f (tt, tt)) (λ f. rw f (tt, tt))

-- A crash concerns every location: entries that are all as it leaves them are those of the state after it.
pub done : (t : topology.Topology) (e : Event) (s₀ s : state.State) → T (is_crash e)
    → length s.entries ≡ length s₀.entries
    → ((y : Location) → y < length s₀.entries
    → entry_at s y ≡ entry_after t (Cxl0.event e) y (entry_at s₀ y))
    → s ≡ state_after t (Cxl0.event e) s₀
unfolding concerns
done t e s₀ s crash sized all =
    all_after t (Cxl0.event e) s₀ s sized
    (λ y k. rw (T→true {b = event_at y e} (crash_everywhere y e crash)) (all y k))

-- What an event makes of the entry of a location is the entry after it.
pub entry_made : (t : topology.Topology) (e : event.Event) (x : Location) (held : entry.Entry) {made : acted.Acted}
    → T (is_operation e.operation)
    → made ≡ acted_by (site_of (topology_of t) x) e (masked_to t.machines held)
    → made.entry ≡ entry_after t (Cxl0.event (meant e)) x held
unfolding acted_by acted_of entry_after local_of
entry_made t e x held is made =
    ap (λ (m : acted.Acted). m.entry) (rw (T→true {b = is_operation e.operation} is) at made)

-- Machines of the system can crash in any state.
can : (t : topology.Topology) (e : Event) (s : State) → T (is_crash e)
    → (within_limits t && named (topology_of t) (Cxl0.event e))
    ≡ (within_limits t && possible (topology_of t) (Cxl0.event e) s)
unfolding possible is_crash
can t e s crash =
    let always = crash_enabled (topology_of t) s (nowhere_crash e crash) in
    rw (T→true {b = enabled (topology_of t) (Cxl0.event e) s} always)
    (ap (λ (b : Bool). within_limits t && b) (sym (and-true (named (topology_of t) (Cxl0.event e)))))

-- The state after a crash that the topology admits, and none for any other, is the answer to the crash.
pub crash_answered : (t : topology.Topology) (e : Event) (s : state.State) → length s.entries ≡ 32 → T (is_crash e)
    → {p : Bool} → p ≡ (within_limits t && named (topology_of t) (Cxl0.event e))
    → {after : state.State} → after ≡ state_after t (Cxl0.event e) s
    → {r : Option state.State} → r ≡ then_some p after
    → Answers t (Cxl0.event e) s r
crash_answered t e s room crash admitted = answered t (Cxl0.event e) s room (admitted ∙ can t e (state_of t s) crash)
