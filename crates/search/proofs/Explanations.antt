-- Explaining the events one after the other: what holds after the first t of them, and what follows from that
-- where the events up to the next have no run, and where there are no more.
use Prim.Native.Nat.{ℕ, suc, ◌+◌, ◌-◌, ◌≤◌, ◌<◌}
use native.Mathlib.Omega.{arith}
use mathlib.Core.Path.{◌≡◌, sym, subst}
use Rattle.std.specs.Prelude.{Option, None, Some}
use mathlib.Core.List.{List, map}
use Rattle.model.specs.Cxl0.{Topology, Event}
use Rattle.model.specs.Schedule.{Step, weave}
use Rattle.model.specs.OneLocation.{Local, HasRunAt, start_at}
use Rattle.model.specs.Words.{step_of_word}
use Rattle.model.proofs.Weaving.{events_weave, silents_weave}
use Rattle.entries.specs.declared.Site.{Site}
use Rattle.rows.specs.Rows.{state}
use Rattle.rows.specs.Sites.{Describes, copy_from}
use Rattle.scratch.specs.declared.Waypoint.{Waypoint}
use Rattle.scratch.specs.Layout.{ROWS, STEPS, MOST, MOST-STEPS, OnlyIn}
use Rattle.scratch.specs.Words.{events_from, events_in, copy_in, CopyPut}
use Rattle.walking.specs.StepsBack.{Copies, Fits}
use Rattle.scratch.proofs.Frames.{only_wider}
use Rattle.search.specs.Paths.{Leading, Path, start, Based, Kept, Continuable, Onwards}
use Rattle.search.specs.Paths.{Explainable, Explained}
use Rattle.search.specs.declared.explaining.Found.TheVariants.{All, First}
use Rattle.search.proofs.Keeping.{kept_none, kept_then, kept_rows, struct_kept, events_kept}
use Rattle.search.proofs.Schedules.{own-steps, schedules}
use Rattle.search.proofs.Paths.{path_led}

-- ---- a schedule is a run

-- Events that a schedule leads over have a run.
pub leading_fits : {s : Site} {es : List Event} {ps : List Step} {z : Local} → Leading s es ps z
    → (sys : Topology) → Describes sys s → HasRunAt sys s.location.0 es (start_at sys s.location.0)
leading_fits {s} {es} {ps} l sys d = (
  weave es ps,
  events_weave es ps,
  own-steps s.location.0 (weave es ps) ps (silents_weave es ps) l.own,
  (l.runs sys d).runs,
)

-- ---- event by event

-- After t events the walk stands at p, and there are the copies up to event t.
pub record Explaining (s : Site) (count : ℕ) (w : List ℕ) (t : ℕ) (p : Waypoint) (w' : List ℕ) : Type 0 where
  pub kept : Kept (STEPS + count) w w'
  pub copies : Copies s.location.0 t w'
  pub path : Path s (STEPS + count) w' t p

-- Before the first event copies have the value 0.
module _ (s : Site) (count : ℕ) {w w₁ : List ℕ} (put : CopyPut w 0 0 w₁) where
  pub explaining_none
      : Explaining s count w₁ 0 (record { code = 0; memory = s.initial; end = STEPS + count }) w₁
  unfolding copy_from events_from
  explaining_none =
      record {
        kept = kept_none (STEPS + count) w₁;
        copies = λ t h.
            let none : 0 ≡ t = omega arith in
            subst (λ (d : ℕ). copy_in w₁ d ≡ copy_from s.location.0 0 (events_in w₁ d)) none put.stored;
        path = start;
      }

  -- What holds with what has changed since, holds with what has changed since before that.
  pub explaining_since : {t : ℕ} {p : Waypoint} {w' : List ℕ} → Explaining s count w₁ t p w'
      → Explaining s count w t p w'
  explaining_since e =
      let only : OnlyIn ROWS STEPS w w₁ = only_wider put.frame (omega arith) (omega arith) in
      let first = kept_rows {base = STEPS + count} (omega arith) only in
      record { kept = kept_then first e.kept; copies = e.copies; path = e.path }

-- After t events.
module _ {s : Site} {count t : ℕ} {w w' : List ℕ} {p : Waypoint} (e : Explaining s count w t p w') where
  -- The steps end no earlier than the list begins.
  pub explaining_end : STEPS ≤ p.end
  explaining_end = omega (arith, (path_led e.path).here)

  -- The path has room for its steps.
  based : count ≤ MOST-STEPS → Based s (STEPS + count) w' t p
  based short = record { low = omega arith; high = omega arith; path = e.path }

  -- Whether or not the walk goes on, the same words are kept.
  kept_on : {r : Option Waypoint} {w'' : List ℕ} → count ≤ MOST-STEPS → Onwards s t p w' r w''
      → Kept (STEPS + count) w w''
  kept_on short on = kept_then e.kept (on.kept (STEPS + count) (based short))

  -- The walk goes on over event t.
  pub explaining_more : {q : Waypoint} {w'' : List ℕ} → count ≤ MOST-STEPS → Onwards s t p w' (Some q) w''
      → Explaining s count w (suc t) q w''
  explaining_more short on =
      record {
        kept = kept_on short on;
        copies = on.copies;
        path = on.goes (STEPS + count) (based short);
      }

module _ (s : Site) (k count : ℕ) (w : List ℕ) (can : Explainable s k count w) where
  -- After t events.
  module _ {t : ℕ} {p : Waypoint} {w' : List ℕ} (e : Explaining s count w t p w') where
    -- They have a run.
    fits : t ≤ k → (sys : Topology) → Describes sys s → Fits sys s t w
    fits h sys d =
        let x = s.location.0 in
        subst (λ (es : List Event). HasRunAt sys x es (start_at sys x))
        (events_kept e.kept t (omega (arith, can.few)))
        (leading_fits (path_led e.path).leading sys d)

    -- The walk can go on.
    pub explaining_continues : t < k → Continuable s t p w'
    explaining_continues h =
        let d = can.placed.describes in
        let few : t < MOST = omega (arith, can.few) in
        record {
          ready = record {
            room = omega (arith, can.room, e.kept.sized);
            few = omega (arith, few);
            owner = d.machine;
            known = λ j l. rw (struct_kept e.kept j (omega (arith, few))) (can.known j (omega arith));
            copies = e.copies;
          };
          few = few;
          known = rw (struct_kept e.kept t few) (can.known t h);
          base = STEPS + count;
          based = based e can.short;
          system = can.system;
          describes = d;
        }

    -- The events up to event t have no run.
    pub explaining_ends : {w'' : List ℕ} → t < k → Onwards s t p w' None w''
        → Explained s k count w (First t) w''
    explaining_ends h on =
        record {
          kept = kept_on e can.short on;
          most = omega (arith, h);
          runs = fits (omega arith);
          ends = λ l sys d run.
              let x = s.location.0 in
              let same = sym (events_kept e.kept (suc t) (omega (arith, can.few))) in
              on.ends sys d
              (subst (λ (es : List Event). HasRunAt sys x es (start_at sys x)) same run);
          steps = h;
        }

  -- After the last event.
  pub explaining_all : {p : Waypoint} {w' : List ℕ} → Explaining s count w k p w'
      → Explained s k count w (All (p.end - STEPS)) w'
  explaining_all {p} {w'} e =
      let led = path_led e.path in
      let same = events_kept e.kept k can.few in
      let steps = map step_of_word led.words in
      let z = state p.code (copy_from s.location.0 0 (events_in w k)) p.memory in
      record {
        kept = e.kept;
        most = omega arith;
        runs = fits e (omega arith);
        ends = λ l. absurd (omega arith);
        steps = record {
          words = led.words;
          counted = omega (arith, led.here);
          list = led.list;
          schedules = schedules s (events_in w k) steps z (rw same at led.leading) can.system
              can.placed;
        };
      }
