-- The walk over rows again, event by event: after t events, the path leads over the waypoint before event `from` to a
-- waypoint from which the rest of the events have a run.
use Prim.Native.Nat.{ℕ, suc, ◌+◌, ◌*◌, ◌≤◌, ◌<◌}
use native.Mathlib.Nat.{le_refl}
use native.Mathlib.Numerals.{add-one}
use native.Mathlib.Omega.{arith}
use mathlib.Core.Path.{◌≡◌, ap, ◌∙◌, sym}
use mathlib.Core.List.{List}
use lib.ListN.{length, drop, length-map}
use Rattle.model.specs.Cxl0.{Topology}
use Rattle.model.specs.OneLocation.{HasRunAt}
use Rattle.entries.specs.declared.Site.{Site}
use Rattle.rows.specs.Rows.{state}
use Rattle.rows.specs.Sites.{Describes, copy_after, copy_from}
use Rattle.scratch.specs.declared.Waypoint.{Waypoint}
use Rattle.scratch.specs.Layout.{STEPS, SORTED, WAYPOINTS, LOG, WORDS, MOST, OnlyIn}
use Rattle.scratch.specs.Words.{event_in, events_in, row_in, copy_in, waypoint_in, WaypointPut}
use Rattle.walking.specs.Trails.{word_of}
use Rattle.walking.specs.Walks.{Standing, Turned}
use Rattle.scratch.proofs.Frames.{only_none, only_then, only_wider}
use Rattle.scratch.proofs.Events.{events_drop}
use Rattle.scratch.proofs.Stored.{stored_only}
use Rattle.scratch.proofs.StepArea.{struct_kept, event_kept, events_kept, row_kept, copy_kept}
use Rattle.search.specs.Paths.{Path, Based, Resumable, Resumed}
use Rattle.search.proofs.Backward.{copy_next}
use Rattle.search.proofs.Paths.{path_led, path_end, path_waypoint, path_turned}

pub record Resuming (s : Site) (from m : ℕ) (w : List ℕ) (t : ℕ) (p : Waypoint) (w' : List ℕ) : Type 0 where
  pub early : from ≤ t
  pub bound : t ≤ m
  pub frame : OnlyIn (waypoint_in w from).end LOG w w'
  pub far : (waypoint_in w from).end ≤ p.end
  pub path : (base : ℕ) → Based s base w from (waypoint_in w from) → Path s base w' t p
  pub system : Topology
  pub describes : Describes system s
  pub runs : HasRunAt system s.location.0 (drop t (events_in w m))
      (state p.code (copy_in w t) p.memory)

module _ (s : Site) (from m : ℕ) (w : List ℕ) (can : Resumable s from m w) where
  -- Before the first event.
  pub resuming_none : Resuming s from m w from (waypoint_in w from) w
  resuming_none =
      record {
        early = le_refl from;
        bound = omega (arith, can.below);
        frame = only_none (waypoint_in w from).end LOG w;
        far = le_refl (waypoint_in w from).end;
        path = λ base b. b.path;
        system = can.system;
        describes = can.describes;
        runs = can.runs;
      }

  -- Before event t.
  module _ (t : ℕ) (p : Waypoint) (w' : List ℕ) (r : Resuming s from m w t p w') (h : t < m) where
    few : t < MOST
    few = omega (arith, can.ready.few)

    low_from : STEPS ≤ (waypoint_in w from).end
    low_from = omega (arith, can.based.low, path_end can.based.path)

    -- The steps so far are at most six for each event.
    pub resuming_short : p.end ≤ SORTED + 6 * t
    resuming_short =
        let led = path_led (r.path can.base can.based) in
        omega (arith, led.here, led.few, can.based.high)

    -- The waypoint is put.
    module _ {w1 : List ℕ} (put : WaypointPut w' t p w1) where
      -- The events, the rows and the copies are as they were.
      frame_put : OnlyIn (waypoint_in w from).end LOG w w1
      frame_put =
          only_then r.frame
          (only_wider put.frame (omega (arith, r.far, resuming_short, few)) (omega (arith, few)))

      room_put : WORDS ≤ length w1
      room_put = omega (arith, frame_put.sized, can.ready.room)

      event_put : event_in w1 t ≡ event_in w t
      event_put = event_kept frame_put low_from t few

      row_put : row_in w1 (suc t) ≡ row_in w (suc t)
      row_put = row_kept frame_put low_from (suc t) few

      copy_put : copy_in w1 t ≡ copy_in w t
      copy_put = copy_kept frame_put low_from t (omega (arith, few))

      -- The copies after the event are those before the next.
      copy-after : copy_after s.location.0 (copy_in w1 t) (event_in w1 t) ≡ copy_in w (suc t)
      copy-after = rw (copy_put, event_put) (copy_next s.location.0 m w can.ready.copies t h)

      -- A turn can be made.
      pub resuming_stands : Standing s t p w1
      resuming_stands =
          let next = can.rows (suc t) (omega (arith, r.early)) h in
          record {
            steppable = record {
              room = room_put;
              few = few;
              owner = can.ready.owner;
              known = rw (struct_kept frame_put low_from t few) (can.ready.known t h);
              closed = rw (copy-after, row_put) next.closed;
            };
            space = omega (arith, resuming_short, few);
            fits = (path_led (r.path can.base can.based)).fits;
            system = r.system;
            describes = r.describes;
            rest = drop (suc t) (events_in w m);
            right = rw (copy-after, row_put) (next.right r.system r.describes);
            runs = rw (copy_put, event_put, ← events_drop w t m h) r.runs;
          }

      -- The turn is made.
      pub resuming_more : s.location.0 < 256 → (q : Waypoint) (w2 : List ℕ) → Turned s t p w1 q w2
          → Resuming s from m w (t + 1) q w2
      resuming_more small q w2 turned =
          let x = s.location.0 in
          let next = can.rows (suc t) (omega (arith, r.early)) h in
          let right = next.right r.system r.describes q.code q.memory turned.fits in
          let end : q.end ≤ WAYPOINTS =
          omega (
            arith,
            turned.noted.here,
            turned.few,
            length-map turned.machines (word_of t x),
            resuming_short,
            few,
          ) in
          let copies : copy_in w1 t ≡ copy_from x 0 (events_in w1 t) =
          copy_put ∙ can.ready.copies t (omega arith)
          ∙ ap (copy_from x 0) (sym (events_kept frame_put low_from t (omega (arith, few)))) in
          rw (add-one t)
          (record {
            early = omega (arith, r.early);
            bound = h;
            frame = only_then frame_put
                (only_wider (stored_only turned.noted WAYPOINTS end) r.far (omega arith));
            far = omega (arith, r.far, turned.noted.here);
            path = λ base b. path_turned turned few room_put end small copies b.low
                (path_waypoint put (omega (arith, few)) (omega (arith, resuming_short, few)) b.low
                (r.path base b))
                put.stored;
            system = r.system;
            describes = r.describes;
            runs = right.1 (rw row_put at turned.fine);
          })

-- After the last event.
pub resuming_all : {s : Site} {from m : ℕ} {w : List ℕ} {p : Waypoint} {w' : List ℕ} → Resuming s from m w m p w'
    → Resumed s from m w p w'
resuming_all r = record { frame = r.frame; path = r.path }
