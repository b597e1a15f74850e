-- One event of the walk: what it makes of a waypoint, and which row has the waypoint before it and after it.
use Prim.Native.Nat.{ℕ, suc, ◌<◌}
use native.Mathlib.Omega.{arith}
use mathlib.Core.Path.{◌≡◌, ap, ◌∙◌}
use mathlib.Core.Bool.{not}
use mathlib.Core.List.{List, [], ◌∷◌, map}
use lib.Dec.{T}
use Rattle.model.specs.Cxl0.{Value, Topology, event}
use Rattle.model.specs.Cxl0.{Event}
use Rattle.model.specs.Schedule.{steps}
use Rattle.model.specs.OneLocation.{event_at, concerns, possible_at, next_at, HasRunAt}
use Rattle.model.proofs.Tests.{not→false}
use Rattle.rows.specs.declared.Row.{Row}
use Rattle.entries.specs.Entries.{site_meant}
use Rattle.entries.specs.declared.Acted.{Acted}
use Rattle.entries.specs.declared.Site.{Site}
use Rattle.rows.specs.Rows.{state, Fine, RowOf, Line, Right, Closed, Before}
use Rattle.rows.specs.Sites.{NamesSix, Describes, copy_after}
use Rattle.rows.proofs.Rows.{run_enters}
use Rattle.rows.proofs.Lines.{before_line}
use Rattle.rows.proofs.Gaps.{right_skip}
use Rattle.rows.proofs.RowSteps.{next_copy, next_fits, copy_elsewhere, owned, owner_six}
use Rattle.scratch.specs.declared.Waypoint.{Waypoint}
use Rattle.walking.specs.Trails.{step_at, RunsTo}
use Rattle.walking.specs.Acting.{Acts}
use Rattle.walking.specs.Walks.{Enters, Moved, Standing, Turned}
use Rattle.scratch.specs.Words.{event_in, row_in, copy_in}
use Rattle.scratch.proofs.Stored.{stored_none}
use Rattle.scratch.proofs.Events.{known_machines}
use Rattle.walking.proofs.Acting.{acts_next}
use Rattle.walking.proofs.Trails.{runs_to_none, runs_to_cons, runs_to_append, trail_runs}

-- ---- an event of the site, with the row before it

module _ (s : Site) (e : Event) (u : Value) (rest inner : Row) (here : T (event_at s.location.0 e))
    (line : RowOf (λ c m. Line (site_meant s) e u rest c m) inner)
    {sys : Topology} (d : Describes sys s) (p : Waypoint) (h : p.code < 64) where
  before : Before sys s.location.0 e u rest inner
  before = before_line sys s.location.0 e u rest inner here (rw d.here line)

  -- Silent steps lead into the row, if the events can be finished.
  event_enters : NamesSix e → (es : List Event)
      → Right sys s.location.0 es (copy_after s.location.0 u e) rest
      → HasRunAt sys s.location.0 (e ∷ es) (state p.code u p.memory)
      → Enters s.owner.0 u inner p.code p.memory
  event_enters o es right run =
      let x = s.location.0 in
      let own = owner_six d in
      rw (owned d) at
      (run_enters sys x own.0 own.1 e es u (copy_after x u e) rest inner
      (λ z q. next_copy sys x e z ∙ ap (λ (v : Value). copy_after x v e) q)
      (next_fits sys x own e o) right before p.code p.memory h run)

  -- From a state of the row the event is possible, and it leads into the row after it.
  module _ {made : Acted} (acts : Acts s e u p made) (f : Fine inner p.code p.memory) where
    event_runs : RunsTo sys s.location.0 (event e ∷ []) (state p.code u p.memory)
        (state made.entry.sharers (copy_after s.location.0 u e) made.entry.memory)
    event_runs =
        let x = s.location.0 in
        let row = (before p.code p.memory h).1 f in
        runs_to_cons sys x row.0 (rw (acts_next d e here acts) (runs_to_none sys x))

    event_fine : Fine rest made.entry.sharers made.entry.memory
    event_fine = rw (acts_next d e here acts) at ((before p.code p.memory h).1 f).1

-- An event elsewhere leaves a place as it is.
pub elsewhere_runs : (sys : Topology) (s : Site) (e : Event) → T (not (event_at s.location.0 e))
    → (c u m : ℕ)
    → RunsTo sys s.location.0 (event e ∷ []) (state c u m) (state c (copy_after s.location.0 u e) m)
unfolding possible_at next_at concerns
elsewhere_runs sys s e away c u m =
    let x = s.location.0 in
    let off = not→false {b = event_at x e} away in
    rw (copy_elsewhere x u e away) (runs_to_cons sys x (rw off tt) (rw off (runs_to_none sys x)))

-- ---- one turn

-- The event that was read, where the walk stands before event t.
module _ {s : Site} {t : ℕ} {p : Waypoint} {w : List ℕ} (stands : Standing s t p w)
    {e : Event} (read : e ≡ event_in w t) where
  names : NamesSix e
  names = rw read (known_machines w t stands.steppable.known)

  runs : HasRunAt stands.system s.location.0 (e ∷ stands.rest) (state p.code (copy_in w t) p.memory)
  runs = rw read stands.runs

  -- It does not concern the site.
  pub turned_elsewhere : T (not (event_at s.location.0 e)) → Turned s t p w p w
  unfolding steps
  turned_elsewhere away =
      let x = s.location.0 in
      let u = copy_in w t in
      let right = rw (← read, copy_elsewhere x u e away) at stands.right in
      let same = right_skip stands.system x e stands.rest u (row_in w (suc t)) away right in
      record {
        machines = [];
        few = omega arith;
        noted = stored_none w p.end;
        runs = λ sys d. rw (← read) (elsewhere_runs sys s e away p.code u p.memory);
        fits = stands.fits;
        fine = (same p.code p.memory stands.fits).0 runs;
      }

  -- The copies before it and the row after it that were read.
  module _ {u : Value} (copied : u ≡ copy_in w t) {rest : Row} (after : rest ≡ row_in w (suc t)) where
    -- The row is closed under the copies that the event leaves.
    pub turn-closed : Closed (copy_after s.location.0 u e) rest
    turn-closed = rw (read, copied, after) stands.steppable.closed

    -- The event concerns the site, and `inner` is the row before it.
    module _ (here : T (event_at s.location.0 e)) (inner : Row)
        (line : RowOf (λ c m. Line (site_meant s) e u rest c m) inner) where
      pub turn-enters : Enters s.owner.0 u inner p.code p.memory
      turn-enters =
          event_enters s e u rest inner here line stands.describes p stands.fits names stands.rest
          (rw (read, copied, after) stands.right) (rw copied runs)

      -- The gap leads to q, where `act_at` answers for the event.
      pub turned_here : (q : Waypoint) (w' : List ℕ) → Moved s t u p w q w' → Fine inner q.code q.memory
          → (made : Acted) → Acts s e u q made
          → Turned s t p w (record { code = made.entry.sharers; memory = made.entry.memory; end = q.end }) w'
      turned_here q w' m f made acts =
          let x = s.location.0 in
          record {
            machines = m.machines;
            few = m.few;
            noted = m.noted;
            runs = λ sys d. rw (← read, ← copied)
                (runs_to_append sys x (steps (map (step_at t x) m.machines))
                (trail_runs sys x t (rw (← owned d) at m.trail))
                (event_runs s e u rest inner here line d q m.fits acts f));
            fits = acts.fits;
            fine = rw (← after) (event_fine s e u rest inner here line stands.describes q m.fits acts f);
          }
