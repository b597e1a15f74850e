-- One event more: what the walk leaves when it goes on over an event with no silent step, and when it goes
-- back for one.
use Prim.Native.Nat.{ℕ, suc, zero-le, ◌+◌, ◌*◌, ◌≤◌, ◌<◌}
use native.Mathlib.Nat.{eq-or-lt_of_le, le_refl, le_trans}
use native.Mathlib.Numerals.{add-one}
use native.Mathlib.Omega.{arith}
use mathlib.Core.Path.{◌≡◌, refl, sym, ap, ◌∙◌, subst}
use mathlib.Core.Logic.{⊎_elim}
use mathlib.Core.Bool.{true, not}
use mathlib.Core.List.{List, [], ◌∷◌, append-nil}
use lib.Dec.{T}
use Rattle.model.specs.Cxl0.{Location, Value, Topology, Event, event}
use Rattle.model.specs.Schedule.{steps}
use Rattle.model.specs.OneLocation.{start_at, event_at}
use Rattle.entries.specs.declared.Acted.{Acted}
use Rattle.entries.specs.declared.Site.{Site}
use Rattle.rows.specs.Rows.{state}
use Rattle.rows.specs.Sites.{Known, Describes, copy_after, copy_from}
use Rattle.rows.proofs.RowSteps.{begins}
use Rattle.scratch.specs.declared.Waypoint.{Waypoint}
use Rattle.scratch.specs.Layout.{ROWS, STEPS, WAYPOINTS, LOG, MOST, OnlyIn}
use Rattle.scratch.specs.Words.{event_in, events_from, events_in, copy_in, waypoint_in, struct_in, CopyPut, WaypointPut}
use Rattle.walking.specs.StepsBack.{Copies, Ready}
use Rattle.walking.specs.Acting.{Acts}
use Rattle.walking.specs.Trails.{RunsTo}
use Rattle.scratch.proofs.Frames.{only_then, only_wider, get_or_below}
use Rattle.scratch.proofs.Events.{events_suc, events_length, copies_suc}
use Rattle.scratch.proofs.Events.{struct_same, event_same, events_same}
use Rattle.walking.proofs.Trails.{runs_to_none, runs_to_cons}
use Rattle.walking.proofs.Acting.{acts_next, acts_can}
use Rattle.walking.proofs.Turns.{elsewhere_runs}
use Rattle.std.specs.Prelude.{Option, None, Some}
use Rattle.search.specs.Paths.{Led, Path, more, Based, Kept, Retraceable, Retraced}
use Rattle.search.specs.Paths.{Regained, Resumable, Resumed, Stuck, Continuable, Onwards}
use Rattle.search.proofs.Keeping.{kept_then, kept_rows, kept_steps}
use Rattle.search.proofs.Retracing.{waypoint_same}
use Rattle.search.proofs.Ready.{ready_kept}
use Rattle.search.proofs.Schedules.{leading_more}
use Rattle.search.proofs.Paths.{path_led, path_back, path_first, path_rows, path_waypoint}

-- ---- what stays

-- The copies before event d stay where later words change.
copy_below : {from to : ℕ} {w w' : List ℕ} → OnlyIn from to w w' → (d : ℕ) → ROWS + 4 * d + 3 < from
    → copy_in w' d ≡ copy_in w d
unfolding copy_in
copy_below only d h = simp (get_or_below only (ROWS + 4 * d + 3) h)

-- The copies before the first m events and after them stay where words behind the rows change.
copies_same : (x : Location) {m from to : ℕ} {w w' : List ℕ} → OnlyIn from to w w' → STEPS ≤ from → m ≤ MOST
    → Copies x m w → Copies x m w'
copies_same x {to = to} only low few copies d l =
    let frame = only_wider {from' = ROWS} only (omega arith) (le_refl to) in
    rw (copy_below only d (omega arith), events_same frame d (omega arith)) (copies d l)

-- ---- going back

-- The walk stood at the waypoint before each event up to t.
path_to : {s : Site} {base t : ℕ} {p : Waypoint} {w : List ℕ} → Path s base w t p → waypoint_in w t ≡ p
    → (d : ℕ) → d ≤ t → Path s base w d (waypoint_in w d)
path_to {s} {base} {t} {p} {w} path waypoint d h =
    ⊎_elim
    (λ e. subst (λ (k : ℕ). Path s base w k (waypoint_in w k)) (sym e) (rw waypoint path))
    (λ l. (path_back path d l).0)
    (eq-or-lt_of_le h)

module _ {s : Site} {t : ℕ} {p : Waypoint} {w : List ℕ} (stuck : Stuck s t p w) where
  -- There is room for event t.
  few : suc t ≤ MOST
  few = stuck.ready.few

  -- There is a waypoint before each event up to t.
  pub retraceable : Retraceable s (t + 1) w
  retraceable =
      rw (add-one t)
      (record {
        some = omega arith;
        ready = stuck.ready;
        fits = λ d h. (path_led (path_to stuck.based.path stuck.waypoint d (omega arith))).fits;
      })

  -- The first waypoint has the state of the start.
  first_state : (sys : Topology) → Describes sys s
      → state (waypoint_in w 0).code (copy_in w 0) (waypoint_in w 0).memory ≡ start_at sys s.location.0
  unfolding start_at events_from copy_from
  first_state sys d =
      let first = path_first stuck.based.path stuck.waypoint in
      λ i. record {
        code = (first i).code;
        copy = stuck.ready.copies 0 zero-le i;
        memory = (ap (λ (q : Waypoint). q.memory) first ∙ sym (begins d)) i;
      }

  module _ {found : Option ℕ} {w' : List ℕ} (back : Retraced s (t + 1) w found w') where
    -- The events and the copies are there as before.
    ready_rows : Ready s (suc t) w'
    ready_rows = ready_kept stuck.ready back.frame

    -- The path to the waypoint before event r is there as before.
    based_rows : {r base : ℕ} → Based s base w t p → r ≤ t → Based s base w' r (waypoint_in w' r)
    based_rows {r} b h =
        let there = path_to b.path stuck.waypoint r h in
        let path = path_rows back.frame.frame (omega (arith, few)) b.low there in
        record { low = b.low; high = b.high; path = rw (waypoint_same back.frame.frame r) path }

    -- That waypoint ends no earlier than the path begins.
    base_below : {r base : ℕ} → Based s base w t p → r ≤ t → base ≤ (waypoint_in w' r).end
    base_below b h = omega (arith, (path_led (based_rows b h).path).here)

  -- From waypoint r the walk can go on.
  module _ {r : ℕ} {w' : List ℕ} (back : Retraced s (t + 1) w (Some r) w') where
    there : Regained s (t + 1) w w' r
    there = back.regained

    back_to : r ≤ t
    back_to = omega (arith, there.below)

    pub resumable : Resumable s r (t + 1) w'
    resumable =
        let frame = back.frame.frame in
        let events = events_same frame (t + 1) (omega (arith, few)) in
        record {
          below = there.below;
          ready = rw (add-one t) (ready_rows back);
          rows = there.rows;
          base = stuck.base;
          based = based_rows back stuck.based back_to;
          system = stuck.system;
          describes = stuck.describes;
          runs = rw (events, waypoint_same frame r, back.frame.copies r)
              (there.runs stuck.system stuck.describes);
        }

    -- The walk has gone back and on again.
    pub went_back : {q : Waypoint} {w'' : List ℕ} → Resumed s r (t + 1) w' q w'' → Onwards s t p w (Some q) w''
    went_back resumed =
        record {
          kept = λ base b. kept_then (kept_rows b.low back.frame.frame)
              (kept_steps b.low (only_wider resumed.frame (base_below back b back_to) (le_refl LOG)));
          copies = copies_same s.location.0 resumed.frame
              (le_trans stuck.based.low (base_below back stuck.based back_to)) few (ready_rows back).copies;
          goes = λ base b. rw (add-one t) at (resumed.path base (based_rows back b back_to));
          ends = tt;
        }

  -- From no waypoint can the walk go on.
  pub went_nowhere : {w' : List ℕ} → Retraced s (t + 1) w None w' → Onwards s t p w None w'
  went_nowhere back =
      record {
        kept = λ base b. kept_rows b.low back.frame.frame;
        copies = (ready_rows back).copies;
        goes = tt;
        ends = λ sys d fits. back.none sys d (rw (add-one t, first_state sys d) fits);
      }

-- ---- going on

-- The event leads from p to q with no silent step.
led_more : {s : Site} {base t : ℕ} {p q : Waypoint} {w : List ℕ} → Led s base w t p
    → q.end ≡ p.end → q.code < 64
    → ((sys : Topology) → Describes sys s → RunsTo sys s.location.0 (event (event_in w t) ∷ [])
    (state p.code (copy_from s.location.0 0 (events_in w t)) p.memory)
    (state q.code (copy_from s.location.0 0 (events_in w (suc t))) q.memory))
    → Led s base w (suc t) q
unfolding steps
led_more {s} {t = t} {w = w} led end fits runs =
    let next = leading_more led.leading (event_in w t) t [] (events_length w t) runs in
    record {
      words = led.words;
      few = omega (arith, led.few);
      here = end ∙ led.here;
      list = led.list;
      leading = rw (append-nil, ← events_suc w t) at next;
      fits = fits;
    }

-- The waypoint before event t and the copies after it are put.
pub record Begun (s : Site) (t : ℕ) (p : Waypoint) (w w' : List ℕ) : Type 0 where
  pub frame : OnlyIn ROWS LOG w w'
  pub kept : (base : ℕ) → Based s base w t p → Kept base w w'
  pub based : (base : ℕ) → Based s base w t p → Based s base w' t p
  pub stuck : Stuck s t p w'
  pub copy : copy_in w' t ≡ copy_in w t

-- The list of steps ends before the waypoints.
pub continuable_end : {s : Site} {t : ℕ} {p : Waypoint} {w : List ℕ} → Continuable s t p w → p.end ≤ WAYPOINTS
continuable_end go =
    let led = path_led go.based.path in
    omega (arith, led.here, led.few, go.few, go.based.high)

-- The walk stands at a code of six machines.
pub continuable_fits : {s : Site} {t : ℕ} {p : Waypoint} {w : List ℕ} → Continuable s t p w → p.code < 64
continuable_fits go = (path_led go.based.path).fits

module _ {s : Site} {t : ℕ} {p : Waypoint} {w w' w'' : List ℕ} {v : Value} (go : Continuable s t p w)
    (put : WaypointPut w t p w') (copy : CopyPut w' (t + 1) v w'') where
  -- There is room for event t.
  few_events : t < MOST
  few_events = go.few

  -- The copies are in the area of the rows.
  rows_put : OnlyIn ROWS STEPS w' w''
  rows_put = only_wider copy.frame (omega arith) (omega (arith, few_events))

  -- The events and what follows the waypoints stay.
  frame_put : OnlyIn ROWS LOG w w''
  frame_put =
      only_then (only_wider put.frame (omega arith) (omega (arith, few_events)))
      (only_wider rows_put (omega arith) (omega arith))

  -- The path stays.
  based_put : (base : ℕ) → Based s base w t p → Based s base w'' t p
  based_put base b =
      let placed = path_waypoint put (omega (arith, few_events)) (continuable_end go) b.low b.path in
      record {
        low = b.low;
        high = b.high;
        path = path_rows rows_put (omega (arith, few_events)) b.low placed;
      }

  -- The list of steps up to where the path begins stays.
  kept_put : (base : ℕ) → Based s base w t p → Kept base w w''
  kept_put base b =
      kept_then
      (kept_steps b.low (only_wider put.frame (omega (arith, b.high)) (omega (arith, few_events))))
      (kept_rows b.low rows_put)

  -- The copies up to event t stay.
  copy_put : (d : ℕ) → d ≤ t → copy_in w'' d ≡ copy_in w d
  copy_put d h =
      copy_below copy.frame d (omega arith) ∙ copy_below put.frame d (omega (arith, few_events))

  -- The events up to event t are known.
  known_put : (j : ℕ) → j < suc t → Known (struct_in w'' j)
  known_put j l =
      let upto : j ≤ t = omega arith in
      rw (struct_same frame_put j (omega (arith, few_events)))
      (⊎_elim (λ e. rw e go.known) (λ h. go.ready.known j h) (eq-or-lt_of_le upto))

  -- The copies after the event are those that it leaves.
  pub begun : v ≡ copy_after s.location.0 (copy_in w t) (event_in w t) → Begun s t p w w''
  begun next =
      record {
        frame = frame_put;
        kept = kept_put;
        based = based_put;
        stuck = record {
          ready = record {
            room = omega (arith, go.ready.room, frame_put.sized);
            few = few_events;
            owner = go.ready.owner;
            known = known_put;
            copies = copies_put;
          };
          waypoint = waypoint_same rows_put t ∙ put.stored;
          base = go.base;
          based = based_put go.base go.based;
          system = go.system;
          describes = go.describes;
        };
        copy = copy_put t (le_refl t);
      }
    where
      x : Location
      x = s.location.0

      -- The copies that are put are those after event t.
      last : copy_in w'' (suc t) ≡ copy_from x 0 (events_in w (suc t))
      last =
          rw (add-one t) at copy.stored
          ∙ next ∙ ap (λ (u : Value). copy_after x u (event_in w t)) (go.ready.copies t (le_refl t))
          ∙ sym (copies_suc w x t)

      -- So all copies up to the end of event t are there.
      copies_put : Copies x (suc t) w''
      copies_put d l =
          rw (events_same frame_put d (omega (arith, few_events)))
          (⊎_elim
          (λ e. rw e last)
          (λ h. copy_put d (omega arith) ∙ go.ready.copies d (omega arith))
          (eq-or-lt_of_le l))

module _ {s : Site} {t : ℕ} {p : Waypoint} {w w' : List ℕ} (go : Continuable s t p w)
    (begun : Begun s t p w w') where
  -- Event t is as it was.
  same : event_in w' t ≡ event_in w t
  same = event_same begun.frame t go.few

  -- What the event makes of the waypoint, with no silent step.
  went_on : {q : Waypoint} → q.end ≡ p.end → q.code < 64
      → ((sys : Topology) → Describes sys s → (u : Value) → u ≡ copy_in w t
      → RunsTo sys s.location.0 (event (event_in w t) ∷ [])
      (state p.code u p.memory)
      (state q.code (copy_after s.location.0 u (event_in w t)) q.memory))
      → Onwards s t p w (Some q) w'
  went_on {q} end fits runs =
      let u = copy_from s.location.0 0 (events_in w' t) in
      let copies = begun.stuck.ready.copies in
      let no_less : p.end ≤ q.end = omega (arith, end) in
      let same_copy : u ≡ copy_in w t = sym (copies t (omega arith)) ∙ begun.copy in
      record {
        kept = begun.kept;
        copies = copies;
        goes = λ base b.
            let path = (begun.based base b).path in
            more {q = q} path begun.stuck.waypoint no_less
            (led_more (path_led path) end fits
            (λ sys d. rw (copies_suc w' s.location.0 t, same) (runs sys d u same_copy)));
        ends = tt;
      }

  -- The event that is read.
  module _ {e : Event} (read : e ≡ event_in w t) where
    -- It does not concern the site.
    pub went_elsewhere : T (not (event_at s.location.0 e))
        → Onwards s t p w (Some p) w'
    went_elsewhere away =
        went_on refl (continuable_fits go)
        (λ sys d u same. rw (← read) (elsewhere_runs sys s e away p.code u p.memory))

    -- It concerns the site, and is possible where the walk stands, which is then where the event leads.
    pub went_ahead : {u : Value} → u ≡ copy_in w t → T (event_at s.location.0 e)
        → {made : Acted} → Acts s e u p made → made.enabled ≡ true
        → Onwards s t p w
        (Some (record { code = made.entry.sharers; memory = made.entry.memory; end = p.end })) w'
    went_ahead copied here acts can =
        let x = s.location.0 in
        went_on refl acts.fits
        (λ sys d v same.
        rw (← read, same, ← copied)
        (runs_to_cons sys x (acts_can d e here acts can) (rw (acts_next d e here acts) (runs_to_none sys x))))

  -- The walk goes back for the event.
  pub went_otherwise : {r : Option Waypoint} {w'' : List ℕ} → Onwards s t p w' r w'' → Onwards s t p w r w''
  went_otherwise {r = Some q} on =
      record {
        kept = λ base b. kept_then (begun.kept base b) (on.kept base (begun.based base b));
        copies = on.copies;
        goes = λ base b. on.goes base (begun.based base b);
        ends = tt;
      }
  went_otherwise {r = None} on =
      record {
        kept = λ base b. kept_then (begun.kept base b) (on.kept base (begun.based base b));
        copies = on.copies;
        goes = tt;
        ends = λ sys d fits. on.ends sys d (rw (events_same begun.frame (suc t) go.few) fits);
      }
