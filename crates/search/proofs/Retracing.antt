-- Going back over the events, row by row, as far as a row that has the waypoint before its event, or that has
-- no state.
use Prim.Native.Nat.{ℕ, zero, suc, ◌+◌, ◌-◌, ◌≤◌, ◌<◌}
use native.Mathlib.Omega.{arith}
use mathlib.Core.Path.{◌≡◌, ap, ◌∙◌, subst}
use mathlib.Core.List.{List, ◌∷◌}
use lib.ListN.{length, drop}
use Rattle.model.specs.Cxl0.{Location, Value, Topology, owner, Event, event}
use Rattle.model.specs.OneLocation.{Local, next_at, HasRunAt}
use Rattle.model.proofs.SilentSteps.{normal_form, silently_bound}
use Rattle.model.proofs.Gaps.{has_run_cons}
use Rattle.masks.specs.Sets.{OneToSix}
use Rattle.rows.specs.declared.Row.{Row}
use Rattle.entries.specs.declared.Site.{Site}
use Rattle.rows.specs.Rows.{state, Fine, Empty, last_row}
use Rattle.rows.specs.Steps.{Stepped}
use Rattle.rows.specs.Sites.{NamesSix, Describes, copy_after}
use Rattle.rows.proofs.RowSteps.{next_copy, next_fits, owner_six}
use Rattle.scratch.specs.Layout.{ROWS, STEPS, WAYPOINTS, WORDS, MOST, OnlyIn}
use Rattle.scratch.specs.Words.{event_in, events_in, copy_in, waypoint_in, RowPut}
use Rattle.walking.specs.StepsBack.{OnlyRows}
use Rattle.scratch.proofs.Frames.{get_or_above}
use Rattle.scratch.proofs.Events.{known_machines, events_same, events_drop}
use Rattle.std.specs.Prelude.{None, Some}
use Rattle.search.specs.Paths.{Retraceable, Retraced, RunsFrom}
use Rattle.search.proofs.Backward.{Written, From, written_none, written_more, copy_next}

-- The waypoints stay where rows and copies change.
pub waypoint_same : {w w' : List ℕ} → OnlyIn ROWS STEPS w w' → (d : ℕ) → waypoint_in w' d ≡ waypoint_in w d
unfolding waypoint_in
waypoint_same only d = simp (get_or_above only (WAYPOINTS + d) (omega arith))

-- A row that answers for events of w answers for those of w', where only rows differ.
from_kept : {s : Site} {m : ℕ} {w w' : List ℕ} → OnlyRows w w' → m ≤ MOST → (d : ℕ) {row : Row}
    → From s m w d row → From s m w' d row
from_kept {m} only few d f = rw (events_same only.frame m few, only.copies d) f

-- The row has the waypoint before event d.
abbrev pub HasWaypoint : List ℕ → ℕ → Row → Type 0
HasWaypoint w d row = Fine row (waypoint_in w d).code (waypoint_in w d).memory

-- The pass has come to row t, which is `row` and has not the waypoint before event t.
pub record Retracing (s : Site) (m t : ℕ) (w w' : List ℕ) (row : Row) : Type 0 where
  pub written : Written s m t w w' row
  pub without : t < m → ¬ HasWaypoint w t row

-- In a turn that begins at row t, the row is put in front of event t - 1.
pub put_there : {t : ℕ} {w w' : List ℕ} {row : Row} → 0 < t → RowPut w (t - 1 + 1) row w' → RowPut w t row w'
put_there {t} h put =
    let there : t - 1 + 1 ≡ t = omega arith in
    rw there at put

-- It begins behind the last event.
pub retracing_none : (s : Site) (m : ℕ) (w : List ℕ) → Retracing s m m w w last_row
retracing_none s m w = record { written = written_none s m w; without = λ h. absurd (omega arith) }

module _ {s : Site} {m : ℕ} {w : List ℕ} (able : Retraceable s m w) where
  -- There is room for row t.
  pub row_room : {t : ℕ} {w' : List ℕ} {row : Row} → Written s m t w w' row → (WORDS ≤ length w') × (t ≤ MOST)
  row_room written = (
    omega (arith, able.ready.room, written.frame.frame.sized),
    omega (arith, able.ready.few, written.bound),
  )

  -- The waypoint before event d can be asked for.
  pub waypoint_there : {d : ℕ} {w' : List ℕ} {row : Row} → Written s m d w w' row → d < m
      → (WORDS ≤ length w') × (d < MOST) × ((waypoint_in w' d).code < 64)
  waypoint_there {d} written h = (
    (row_room written).0,
    omega (arith, able.ready.few),
    rw (waypoint_same written.frame.frame d) (able.fits d h),
  )

  -- The row is put, and the event before it in front of it.
  pub written_back : {t : ℕ} {w' w'' : List ℕ} {row first : Row} → Retracing s m t w w' row → 0 < t
      → RowPut w' t row w'' → Stepped s (event_in w'' (t - 1)) (copy_in w'' (t - 1)) row first
      → Written s m (t - 1) w w'' first
  written_back r h put step = written_more able.ready r.written put (omega arith) step

  -- That event is one of the m.
  pub before_end : {t : ℕ} {w' : List ℕ} {row : Row} → Retracing s m t w w' row → 0 < t → t - 1 < m
  before_end r h = omega (arith, r.written.bound)

  -- The row decides whether the events from event d on have a run from the waypoint before it.
  decides : {d : ℕ} {w' : List ℕ} {row : Row} → Written s m d w w' row → d < m
      → (sys : Topology) → Describes sys s
      → (RunsFrom sys s m w d → HasWaypoint w d row) × (HasWaypoint w d row → RunsFrom sys s m w d)
  decides {d} written h sys a =
      written.here.right sys a (waypoint_in w d).code (waypoint_in w d).memory (able.fits d h)

  -- A row that has the waypoint ends the pass.
  pub retraced_here : {d : ℕ} {w' : List ℕ} {row : Row} → Written s m d w w' row → d < m → HasWaypoint w' d row
      → Retraced s m w (Some d) w'
  retraced_here {d} {w'} {row} written h has =
      record {
        frame = written.frame;
        regained = record {
          below = h;
          rows = λ k l b. from_kept written.frame able.ready.few k (written.rows k l b);
          runs = λ sys a. (decides written h sys a).1 (rw (waypoint_same written.frame.frame d) at has);
        };
        none = tt;
      }

  -- A row that has not the waypoint lets it go on.
  pub retracing_more : {d : ℕ} {w' : List ℕ} {row : Row} → Written s m d w w' row → ¬ HasWaypoint w' d row
      → Retracing s m d w w' row
  retracing_more {d} written none =
      record { written = written; without = λ h. rw (waypoint_same written.frame.frame d) at none }

  -- If even the first row has not the first waypoint, there is no run from it.
  pub retraced_none : {t : ℕ} {w' : List ℕ} {row : Row} → Retracing s m t w w' row → t ≤ 0
      → Retraced s m w None w'
  retraced_none {t} {w'} {row} r h =
      let none : t ≡ 0 = omega arith in
      let first = subst (λ (k : ℕ). Retracing s m k w w' row) none r in
      record {
        frame = first.written.frame;
        regained = tt;
        none = λ sys a run. first.without able.some
            ((decides first.written able.some sys a).0 run);
      }

-- ---- no run leads into an empty row

-- A run of e and then es goes on, after e, from a state with the copies that e leaves.
run_passes : (sys : Topology) (x : Location) → OneToSix (owner sys x)
    → (e : Event) (es : List Event) (u : Value) → NamesSix e
    → (c n : ℕ) → c < 64 → HasRunAt sys x (e ∷ es) (state c u n)
    → (d k : ℕ) × (d < 64) × HasRunAt sys x es (state d (copy_after x u e) k)
run_passes sys x own e es u o c n h r =
    let f = (has_run_cons sys x e es (state c u n)).0 r in
    let t = f.0 in
    let z = next_at sys x (event e) t in
    let reach = (normal_form sys x (state c u n) t own.0).0 f.1 in
    let copy = next_copy sys x e t ∙ ap (λ (v : Value). copy_after x v e) reach.0 in
    let fits = next_fits sys x own e o t (silently_bound sys x 6 own.0 own.1 f.1 h) in
    let same : z ≡ state z.code (copy_after x u e) z.memory =
    λ i. record { code = z.code; copy = copy i; memory = z.memory } in
    (z.code, z.memory, fits, subst (λ (s : Local). HasRunAt sys x es s) same f.3)

module _ {s : Site} {m : ℕ} {w : List ℕ} (able : Retraceable s m w) (sys : Topology)
    (a : Describes sys s) where
  -- A run from the first waypoint leads before every event to a state with its copies.
  run_leads : RunsFrom sys s m w 0 → (d : ℕ) → d ≤ m
      → (c n : ℕ) × (c < 64) × HasRunAt sys s.location.0 (drop d (events_in w m)) (state c (copy_in w d) n)
  run_leads run zero h = ((waypoint_in w 0).code, (waypoint_in w 0).memory, able.fits 0 able.some, run)
  run_leads run (suc d) h =
      let x = s.location.0 in
      let own = owner_six a in
      let f = run_leads run d (omega arith) in
      let r = rw (events_drop w d m h) at f.3 in
      let g = run_passes sys x own (event_in w d) (drop (suc d) (events_in w m)) (copy_in w d)
      (known_machines w d (able.ready.known d h)) f.0 f.1 f.2 r in
      (g.0, g.1, g.2, rw (copy_next x m w able.ready.copies d h) at g.3)

module _ {s : Site} {m : ℕ} {w : List ℕ} (able : Retraceable s m w) where
  -- A row without a state ends the pass: there is no run from the first waypoint.
  pub retraced_empty : {d : ℕ} {w' : List ℕ} {row : Row} → Written s m d w w' row
      → Empty row → Retraced s m w None w'
  retraced_empty {d} written empty =
      record {
        frame = written.frame;
        regained = tt;
        none = λ sys a run.
            let f = run_leads able sys a run d written.bound in
            empty f.0 f.1 ((written.here.right sys a f.0 f.1 f.2).0 f.3);
      }
