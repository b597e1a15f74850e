-- What `act` makes of the entry at a waypoint is what the event makes of the state there.
use Prim.Native.Nat.{◌<◌, ◌%◌}
use native.Mathlib.Nat.{mod-eq_of_lt}
use native.Mathlib.Omega.{arith}
use mathlib.Core.Path.{◌≡◌, sym, ap, ◌∙◌}
use mathlib.Core.Bool.{true}
use lib.Dec.{T}
use Rattle.model.specs.Cxl0 as cxl0
use Rattle.model.specs.Cxl0.{Value, Topology, Event}
use Rattle.model.specs.OneLocation.{Local, event_at, concerns, enabled_at, effect, possible_at, next_at}
use Rattle.model.specs.Operations.{is_operation}
use Rattle.model.specs.Meaning.{meant}
use Rattle.model.specs.declared.Event as event
use Rattle.model.proofs.Tests.{T→true, true→T}
use Rattle.masks.specs.Sets.{OneToSix}
use Rattle.entries.specs.Entries.{site_meant, short_of, entry_of, acted_of, acted_by}
use Rattle.entries.specs.declared.Acted.{Acted}
use Rattle.entries.specs.declared.Site.{Site}
use Rattle.rows.specs.Rows.{state}
use Rattle.rows.specs.Sites.{Known, Describes, copy_after}
use Rattle.rows.proofs.RowSteps.{copy-left, copy_here, effect_fits}
use Rattle.scratch.specs.declared.Waypoint.{Waypoint}
use Rattle.walking.specs.Acting.{Acts}

pub acts : (s : Site) (e : event.Event) (u : Value) (p : Waypoint) (made : Acted)
    → OneToSix s.owner.0 → Known e → p.code < 64
    → made ≡ acted_by (site_meant s) e (record { sharers = p.code; copy = u; memory = p.memory })
    → Acts s (meant e) u p made
unfolding acted_by acted_of short_of entry_of
acts s e u p made own known h equal =
    let z = effect (site_meant s) (cxl0.event (meant e)) (state p.code u p.memory) in
    let at = state p.code u p.memory in
    let fits : z.code < 64 = effect_fits (site_meant s) own (meant e) known.machines at h in
    let byte : z.code % 256 ≡ z.code = mod-eq_of_lt (omega (arith, fits)) in
    let answer = rw (T→true {b = is_operation e.operation} known.operation) at equal in
    record {
      enabled = ap (λ (m : Acted). m.enabled) answer;
      leads = ap (λ (m : Acted). short_of m.entry) answer
          ∙ λ i. record { code = byte i; copy = z.copy; memory = z.memory };
      fits = rw (ap (λ (m : Acted). m.entry.sharers) answer ∙ byte) fits;
    }

-- An event that concerns the site, in a system that the site describes.
module _ {sys : Topology} {s : Site} (d : Describes sys s) (e : Event)
    (here : T (event_at s.location.0 e)) where
  -- It is possible where its site says so, and does what its effect at the site says.
  pub possible_here : (z : Local)
      → possible_at sys s.location.0 (cxl0.event e) z ≡ enabled_at (site_meant s) (cxl0.event e) z
  unfolding possible_at concerns
  possible_here z = rw (T→true {b = event_at s.location.0 e} here, d.here)

  pub next_here : (z : Local)
      → next_at sys s.location.0 (cxl0.event e) z ≡ effect (site_meant s) (cxl0.event e) z
  unfolding next_at concerns
  next_here z = rw (T→true {b = event_at s.location.0 e} here, d.here)

  module _ {u : Value} {p : Waypoint} {made : Acted} (acts : Acts s e u p made) where
    -- The state that it leads to.
    pub acts_next : next_at sys s.location.0 (cxl0.event e) (state p.code u p.memory)
        ≡ state made.entry.sharers (copy_after s.location.0 u e) made.entry.memory
    unfolding short_of
    acts_next =
        let z = state p.code u p.memory in
        let copy = ap (λ (l : Local). l.copy) acts.leads ∙ copy-left (site_meant s) e z
        ∙ sym (copy_here s.location.0 u e here) in
        next_here z ∙ sym acts.leads
        ∙ λ i. record { code = made.entry.sharers; copy = copy i; memory = made.entry.memory }

    -- Where it is enabled, it is possible.
    pub acts_can : made.enabled ≡ true
        → T (possible_at sys s.location.0 (cxl0.event e) (state p.code u p.memory))
    acts_can can = rw (possible_here (state p.code u p.memory)) (true→T (sym acts.enabled ∙ can))

-- The copies that it leaves.
pub acts_copy : {s : Site} {e : Event} {u : Value} {p : Waypoint} {made : Acted} → Acts s e u p made
    → T (event_at s.location.0 e) → made.entry.copy ≡ copy_after s.location.0 u e
unfolding short_of
acts_copy {s} {e} {u} {p} acts here =
    ap (λ (l : Local). l.copy) acts.leads ∙ copy-left (site_meant s) e (state p.code u p.memory)
    ∙ sym (copy_here s.location.0 u e here)
