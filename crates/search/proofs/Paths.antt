-- Laws of the path: where it begins and stands, that it can be followed back, that it stays while the words it
-- rests on do, and that a turn leads it on.
use Prim.Native.Nat.{ℕ, suc, ◌+◌, ◌≤◌, ◌<◌}
use native.Mathlib.Nat.{eq-or-lt_of_le, le_refl, le_trans, le_of_suc-le-suc}
use native.Mathlib.Omega.{arith}
use mathlib.Core.Path.{◌≡◌, sym, ap, ap₂, ◌∙◌, subst}
use mathlib.Core.Logic.{⊎_elim}
use mathlib.Core.List.{List, [], ◌∷◌, ◌++◌, map, map-append}
use lib.ListN.{length, get_or, length-append, length-map}
use Rattle.model.specs.Cxl0.{Topology, event}
use Rattle.model.specs.Schedule.{steps}
use Rattle.model.specs.Words.{step_of_word}
use Rattle.entries.specs.declared.Site.{Site}
use Rattle.rows.specs.Rows.{state}
use Rattle.rows.specs.Sites.{Describes, copy_from}
use Rattle.scratch.specs.declared.Waypoint.{Waypoint}
use Rattle.scratch.specs.Layout.{ROWS, STEPS, WAYPOINTS, WORDS, MOST, OnlyIn}
use Rattle.scratch.specs.Words.{event_in, events_from, events_in, copy_in, waypoint_in, WaypointPut, words_at}
use Rattle.walking.specs.Trails.{step_at, word_of, RunsTo}
use Rattle.walking.specs.Walks.{Turned}
use Rattle.scratch.proofs.Frames.{only_wider, get_or_below, get_or_above}
use Rattle.scratch.proofs.Events.{events_same, events_suc, events_length, copies_suc}
use Rattle.scratch.proofs.Segments.{words_from, words_two, words_kept, words_after}
use Rattle.scratch.proofs.Stored.{stored_only, stored_words}
use Rattle.scratch.proofs.StepArea.{event_kept, events_kept}
use Rattle.walking.proofs.StepWords.{word_steps}
use Rattle.search.specs.Paths.{Led, Path, start, more}
use Rattle.search.proofs.Schedules.{leading_none, leading_more}

module _ {s : Site} {base : ℕ} {w : List ℕ} where
  -- A schedule leads to where the walk stands.
  pub path_led : {t : ℕ} {p : Waypoint} → Path s base w t p → Led s base w t p
  unfolding events_from copy_from
  path_led start =
      record {
        words = [];
        few = omega arith;
        here = omega arith;
        list = words_from base 0 w;
        leading = leading_none s;
        fits = omega arith;
      }
  path_led (more path here far led) = led

  -- The walk stood at each of the waypoints before, where the steps end no later.
  pub path_back : {t : ℕ} {p : Waypoint} → Path s base w t p → (d : ℕ) → d < t
      → Path s base w d (waypoint_in w d) × ((waypoint_in w d).end ≤ p.end)
  path_back start d h = absurd (omega arith)
  path_back (more {t} {p} {q} path here far led) d h =
      ⊎_elim
      (λ e. subst (λ (k : ℕ). Path s base w k (waypoint_in w k) × ((waypoint_in w k).end ≤ q.end)) (sym e)
      (subst (λ (r : Waypoint). Path s base w t r × (r.end ≤ q.end)) (sym here) (path, far)))
      (λ b. ((path_back path d b).0, le_trans (path_back path d b).1 far))
      (eq-or-lt_of_le (le_of_suc-le-suc h))

  -- The first waypoint is that at the start.
  pub path_first : {t : ℕ} {p : Waypoint} → Path s base w t p → waypoint_in w t ≡ p
      → waypoint_in w 0 ≡ record { code = 0; memory = s.initial; end = base }
  path_first start e = e
  path_first (more path here far led) e = path_first path here

  -- The path stays if the events, its waypoints and its steps do.
  pub path_kept : {w' : List ℕ} {t : ℕ} {p : Waypoint} → Path s base w t p
      → ((d : ℕ) → d ≤ t → events_in w' d ≡ events_in w d)
      → ((d : ℕ) → d < t → waypoint_in w' d ≡ waypoint_in w d)
      → ((n : ℕ) → base + n ≤ p.end → words_at base n w' ≡ words_at base n w)
      → Path s base w' t p
  path_kept start events waypoints words = start
  path_kept (more {t} {p} {q} path here far led) events waypoints words =
      more {q = q}
      (path_kept path (λ d h. events d (omega arith)) (λ d h. waypoints d (omega arith))
      (λ n h. words n (le_trans h far)))
      (waypoints t (omega arith) ∙ here)
      far
      (record {
        words = led.words;
        few = led.few;
        here = led.here;
        list = words (length led.words) (omega (arith, led.here)) ∙ led.list;
        leading = rw (events (suc t) (le_refl (suc t))) led.leading;
        fits = led.fits;
      })

  -- The steps do not end before they begin.
  pub path_end : {t : ℕ} {p : Waypoint} → Path s base w t p → base ≤ p.end
  path_end path = omega (arith, (path_led path).here)

-- Places stay if their words do.
pub waypoint_kept : (w w' : List ℕ) (d : ℕ) → get_or w' (WAYPOINTS + d) 0 ≡ get_or w (WAYPOINTS + d) 0
    → waypoint_in w' d ≡ waypoint_in w d
unfolding waypoint_in
waypoint_kept w w' d e = simp e

-- The path stays where rows and copies change.
pub path_rows : {s : Site} {base : ℕ} {w w' : List ℕ} {t : ℕ} {p : Waypoint} → OnlyIn ROWS STEPS w w' → t ≤ MOST
    → STEPS ≤ base → Path s base w t p → Path s base w' t p
path_rows {base = base} {w} {w'} only few low path =
    path_kept path
    (λ d h. events_same only d (le_trans h few))
    (λ d h. waypoint_kept w w' d (get_or_above only (WAYPOINTS + d) (omega arith)))
    (λ n h. words_after only base n low)

-- It stays where words are stored behind its end.
pub path_steps : {s : Site} {base : ℕ} {w w' : List ℕ} {t : ℕ} {p : Waypoint} → OnlyIn p.end WAYPOINTS w w'
    → t ≤ MOST → STEPS ≤ base → Path s base w t p → Path s base w' t p
path_steps {base = base} {w} {w'} only few low path =
    path_kept path
    (λ d h. events_same (only_wider only (omega (arith, path_end path)) (le_refl WAYPOINTS)) d (le_trans h few))
    (λ d h. waypoint_kept w w' d (get_or_above only (WAYPOINTS + d) (omega arith)))
    (λ n h. words_kept only base n h)

-- It stays where a waypoint is put after those before its events.
pub path_waypoint : {s : Site} {base : ℕ} {w w' : List ℕ} {t : ℕ} {p q : Waypoint} → WaypointPut w t q w' → t ≤ MOST
    → p.end ≤ WAYPOINTS → STEPS ≤ base → Path s base w t p → Path s base w' t p
path_waypoint {base = base} {w} {w'} {t} put few far low path =
    path_kept path
    (λ d h. events_same (only_wider put.frame (omega arith) (le_refl (WAYPOINTS + t + 1))) d (le_trans h few))
    (λ d h. waypoint_kept w w' d (get_or_below put.frame (WAYPOINTS + d) (omega arith)))
    (λ n h. words_kept put.frame base n (omega arith))

-- ---- one event more

-- A turn leads from p over event t to q.
module _ {s : Site} {t : ℕ} {p q : Waypoint} {w w' : List ℕ} (turned : Turned s t p w q w') (few : t < MOST)
    (room : WORDS ≤ length w) (far : q.end ≤ WAYPOINTS) (small : s.location.0 < 256)
    (copies : copy_in w t ≡ copy_from s.location.0 0 (events_in w t))
    {base : ℕ} (low : STEPS ≤ base) (path : Path s base w t p) (here : waypoint_in w t ≡ p) where
  -- It changes words behind the end of the path, which stays.
  only : OnlyIn p.end WAYPOINTS w w'
  only = stored_only turned.noted WAYPOINTS far

  low_end : STEPS ≤ p.end
  low_end = omega (arith, path_end path)

  still : Path s base w' t p
  still = path_steps only (omega arith) low path

  -- The words of the turn follow those of the path.
  new_words : words_at p.end (length (map (word_of t s.location.0) turned.machines)) w'
      ≡ map (word_of t s.location.0) turned.machines
  new_words = rw (← turned.noted.here) (stored_words turned.noted (omega arith))

  -- The turn runs from where the steps so far lead.
  runs_more : (sys : Topology) → Describes sys s
      → RunsTo sys s.location.0
      (steps (map (step_at t s.location.0) turned.machines) ++ event (event_in w' t) ∷ [])
      (state p.code (copy_from s.location.0 0 (events_in w' t)) p.memory)
      (state q.code (copy_from s.location.0 0 (events_in w' (suc t))) q.memory)
  runs_more =
      let x = s.location.0 in
      let copy : copy_from x 0 (events_in w' t) ≡ copy_in w t =
      ap (copy_from x 0) (events_kept only low_end t (omega arith)) ∙ sym copies in
      rw (copies_suc w' x t, copy, event_kept only low_end t few) turned.runs

  -- So both are a schedule that leads to q.
  led_more : Led s base w' (suc t) q
  led_more =
      let old = path_led still in
      let x = s.location.0 in
      let is = turned.machines in
      let new = map (word_of t x) is in
      let after = subst (λ (n : ℕ). words_at n (length new) w' ≡ new) old.here new_words in
      let both : map step_of_word (old.words ++ new) ≡ map step_of_word old.words ++ map (step_at t x) is =
      map-append step_of_word old.words new ∙ ap (◌++◌ (map step_of_word old.words))
      (word_steps t x is (omega arith) small) in
      record {
        words = old.words ++ new;
        few = rw (length-append, length-map) (omega (arith, old.few, turned.few));
        here = rw length-append (omega (arith, old.here, turned.noted.here));
        list = rw length-append
            (words_two base (length old.words) (length new) w' ∙ ap₂ ◌++◌ old.list after);
        leading = rw (both, events_suc w' t)
            (leading_more old.leading (event_in w' t) t is (events_length w' t)
            (rw (events_suc w' t) at runs_more));
        fits = turned.fits;
      }

  -- The path goes on to q.
  pub path_turned : Path s base w' (suc t) q
  path_turned =
      more {q = q} still (waypoint_kept w w' t (get_or_above only (WAYPOINTS + t) (omega arith)) ∙ here)
      (omega (arith, turned.noted.here)) led_more
