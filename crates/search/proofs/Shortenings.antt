-- The walk that looks for the shortest schedule: it stands at a place to which events lead without a silent step from
-- the last known place. What holds as it goes on over an event or a block, and what follows at its end.
use Prim.Native.Nat.{ℕ, suc, ◌+◌, ◌-◌, ◌*◌, ◌≤◌, ◌<◌}
use native.Mathlib.Nat.{eq-or-lt_of_le, le_refl}
use native.Mathlib.Omega.{arith}
use mathlib.Core.Path.{◌≡◌, ap, ◌∙◌}
use mathlib.Core.Logic.{◌⊎◌, ⊎_elim}
use mathlib.Core.Bool.{true}
use Rattle.std.specs.Prelude.{Option, None, Some}
use mathlib.Core.List.{List, [], ◌∷◌, ◌++◌, map}
use lib.Dec.{T}
use lib.ListN.{length, length-map}
use Rattle.model.specs.Cxl0.{Topology, Event, event, named, all_named}
use Rattle.model.specs.Schedule.{weave_from}
use Rattle.model.specs.OneLocation.{event_at, start_at, HasRunAt}
use Rattle.model.specs.ShortestAt.{ShortestAt}
use Rattle.model.specs.Words.{step_of_word}
use Rattle.model.proofs.RunBounds.{shortest_few}
use Rattle.model.proofs.Tests.{and_i, and_l, and_r}
use Rattle.model.proofs.Allowances.{allowance_few}
use Rattle.model.proofs.Smallest.{shortest_run_of}
use Rattle.entries.specs.declared.Acted.{Acted}
use Rattle.entries.specs.declared.Site.{Site}
use Rattle.rows.specs.Sites.{Known, Describes}
use Rattle.scratch.specs.Layout.{STEPS, LOG, WORDS}
use Rattle.scratch.specs.Words.{event_in, events_in, struct_in}
use Rattle.scratch.proofs.Frames.{only_none, only_wider}
use Rattle.scratch.proofs.Events.{events_length}
use Rattle.walking.specs.Acting.{Acts}
use Rattle.walking.specs.StepsBack.{Fits}
use Rattle.walking.specs.Walks.{Placed}
use Rattle.blocks.specs.Splitting.{waypoint_at, kind_of, ends_block}
use Rattle.blocks.specs.Blocks.{between, Blockable, Blocked}
use Rattle.blocks.specs.declared.splitting.Place.{Place}
use Rattle.search.specs.declared.explaining.Found.{Found}
use Rattle.search.specs.declared.explaining.Found.TheVariants.{All, First}
use Rattle.search.specs.Paths.{Kept, Explainable, Explained}
use Rattle.search.specs.Shortening.{Shortenable, Shortened}
use Rattle.search.proofs.Keeping.{kept_none, kept_then, kept_steps, struct_kept, event_kept, events_kept}
use Rattle.search.proofs.Reaching.{between_two, Reached, start_place, reached_none, none_behind, reached_next}
use Rattle.search.proofs.FreeStretches.{Free, free_none, crossed_free, place_after, free_more}
use Rattle.search.proofs.FreeStretches.{crossed_more}

-- ---- the walk

-- The walk is under way: the last known place is p, and from there it has come to q without a silent step.
pub record Walking (s : Site) (k count : ℕ) (w : List ℕ) (p q : Place) (w' : List ℕ) : Type 0 where
  pub kept : Kept (STEPS + count) w w'
  pub reached : Reached s k count w p w'
  pub free : Free s k w' p q

-- It begins.
pub walking_none : (s : Site) (k count : ℕ) (w : List ℕ)
    → Walking s k count w (start_place s count) (start_place s count) w
walking_none s k count w =
    record {
      kept = kept_none (STEPS + count) w;
      reached = reached_none s k count w;
      free = free_none s k w (start_place s count) (omega arith) (omega arith);
    }

-- It goes on from a place that is known.
walking_from : {s : Site} {k count : ℕ} {w w' : List ℕ} {p : Place} → Kept (STEPS + count) w w'
    → Reached s k count w p w' → Walking s k count w p p w'
walking_from {s} {k} {w' = w'} {p} kept reached =
    record { kept = kept; reached = reached; free = free_none s k w' p reached.most reached.fits }

-- It has come to a place behind all events.
shortened_reached : {s : Site} {k count : ℕ} {w w' : List ℕ} {p : Place} → Kept (STEPS + count) w w'
    → Reached s k count w p w' → p.gap ≡ k → Shortened s k count w (All (p.end - STEPS)) w'
shortened_reached {s} {k} {count} {w} {w'} {p} kept reached all =
    record {
      kept = kept;
      most = le_refl k;
      runs = λ sys d.
          let run = shortest_run_of (shortest sys d) in
          (weave_from 0 (events_in w k) (map step_of_word reached.words), run.of, run.own, run.runs);
      ends = λ less. absurd (omega arith);
      steps = record {
        words = reached.words;
        counted = omega (arith, reached.ends);
        list = reached.list;
        shortest = shortest;
      };
    }
  where
    shortest : (sys : Topology) → Describes sys s
        → ShortestAt sys s.location.0 (events_in w k) (map step_of_word reached.words)
    shortest = rw all at reached.shortest

-- The first of events that name machines and locations of the system.
named_first : (sys : Topology) (es fs : List Event) → T (all_named sys (map event (es ++ fs)))
    → T (all_named sys (map event es))
unfolding all_named
named_first sys [] fs t = tt
named_first sys (e ∷ es) fs t =
    let all = all_named sys (map event (es ++ fs)) in
    and_i (named sys (event e)) (all_named sys (map event es)) (and_l (named sys (event e)) all t)
    (named_first sys es fs (and_r (named sys (event e)) all t))

module _ {s : Site} {k count : ℕ} {w : List ℕ} (can : Shortenable s k count w) where
  abbrev asked : Explainable s k count w
  asked = can.explainable

  -- The events up to a gap name machines and locations of the system.
  placed_first : (t : ℕ) → t ≤ k → Placed asked.system s (events_in w t)
  placed_first t h =
      let placed = asked.placed in
      let all = rw (between_two w t k h) at placed.named in
      record {
        describes = placed.describes;
        well_formed = placed.well_formed;
        listed = placed.listed;
        named = named_first asked.system (events_in w t) (between w t k) all;
      }

  module _ {p q : Place} {w' : List ℕ} (walk : Walking s k count w p q w') where
    pub walking_room : WORDS ≤ length w'
    walking_room = omega (arith, asked.room, walk.kept.sized)

    -- The events are there as before.
    pub walking_known : (j : ℕ) → j < k → Known (struct_in w' j)
    walking_known j h = rw (struct_kept walk.kept j (omega (arith, asked.few))) (asked.known j h)

    walking_here : (j : ℕ) → j < k → T (event_at s.location.0 (event_in w' j))
    walking_here j h = rw (event_kept walk.kept j (omega (arith, asked.few))) (can.here j h)

    -- ---- over an event that is enabled

    module _ {made : Acted} (left : q.gap < k) (acts : Acts s (event_in w' q.gap) q.copy (waypoint_at q) made)
        (enabled : made.enabled ≡ true) where
      here : T (event_at s.location.0 (event_in w' q.gap))
      here = walking_here q.gap left

      pub walking_more : Walking s k count w p (place_after p q made) w'
      walking_more =
          record {
            kept = walk.kept;
            reached = walk.reached;
            free = free_more walk.free left here acts enabled;
          }

      -- The place after it is known.
      pub walking_fixed : (ends_block (kind_of q.copy (event_in w' q.gap)) ≡ true) ⊎ ((p.gap ≡ q.gap) × (q.code ≡ 0))
          → Walking s k count w (place_after p q made) (place_after p q made) w'
      walking_fixed fixed =
          let crossed = crossed_more walk.free left here acts enabled fixed in
          walking_from walk.kept
          (reached_next walk.kept asked.few walk.reached crossed (only_none p.end LOG w'))

    -- ---- over a block

    -- The schedule so far has at most two steps for each event.
    few_steps : length walk.reached.words ≤ 2 * p.gap
    few_steps =
        let x = s.location.0 in
        let es = events_in w p.gap in
        let ps = map step_of_word walk.reached.words in
        let placed = placed_first p.gap walk.reached.most in
        let short = walk.reached.shortest asked.system placed.describes in
        let few = shortest_few asked.system placed.well_formed placed.listed placed.named short in
        omega (
          arith,
          few,
          length-map walk.reached.words step_of_word,
          allowance_few x es,
          events_length w p.gap,
        )

    pub walking_blockable : q.gap < k → Blockable s p k w'
    walking_blockable left =
        record {
          splittable = record {
            room = walking_room;
            few = asked.few;
            owner = asked.placed.describes.machine;
            before = omega (arith, left, walk.free.on);
            fits = walk.reached.fits;
            known = walking_known;
          };
          here = walking_here;
          low = omega (arith, walk.reached.ends);
          space = omega (arith, walk.reached.ends, asked.short, few_steps);
        }

    module _ {found : Option Place} {w'' : List ℕ} (blocked : Blocked s p k w' found w'') where
      -- No other words have changed.
      kept_on : Kept (STEPS + count) w w''
      kept_on =
          let low : STEPS + count ≤ p.end = omega (arith, walk.reached.ends) in
          kept_then walk.kept (kept_steps (omega arith) (only_wider blocked.frame low (le_refl LOG)))

      -- The search for any schedule can begin.
      pub walking_explainable : Explainable s k count w''
      walking_explainable =
          let old = asked in
          record {
            room = omega (arith, old.room, kept_on.sized);
            few = old.few;
            short = old.short;
            known = λ j h. rw (struct_kept kept_on j (omega (arith, old.few))) (old.known j h);
            system = old.system;
            placed = rw (events_kept kept_on k old.few) old.placed;
          }

      -- Events have a run now if they had one at first.
      fits_kept : (n : ℕ) → n ≤ k → (sys : Topology) → Fits sys s n w'' ≡ Fits sys s n w
      fits_kept n h sys =
          let x = s.location.0 in
          ap (λ (es : List Event). HasRunAt sys x es (start_at sys x))
          (events_kept kept_on n (omega (arith, asked.few)))

    -- The walk goes on behind the block.
    pub walking_crossed : {place : Place} {w'' : List ℕ} → Blocked s p k w' (Some place) w''
        → Walking s k count w place place w''
    walking_crossed blocked =
        walking_from (kept_on blocked)
        (reached_next walk.kept asked.few walk.reached blocked.crossed blocked.frame)

    -- If the block has no run, the search for any schedule finds none, since no run comes over the block.
    pub shortened_none : {w'' : List ℕ} → Blocked s p k w' None w'' → q.gap < k → {found : Found} {w₂ : List ℕ}
        → Explained s k count w'' found w₂ → Shortened s k count w found w₂
    shortened_none blocked left {found = All more} explained =
        let before : p.gap < k = omega (arith, left, walk.free.on) in
        let system = asked.system in
        let d = asked.placed.describes in
        let run = rw (fits_kept blocked k (le_refl k) system) at (explained.runs system d) in
        absurd (none_behind walk.kept asked.few walk.reached before system d (blocked.none system d) run)
    shortened_none blocked left {found = First n} explained =
        let most = explained.most in
        record {
          kept = kept_then (kept_on blocked) explained.kept;
          most = most;
          runs = λ sys d. rw (fits_kept blocked n most sys) at (explained.runs sys d);
          ends = λ less sys d. rw (fits_kept blocked (suc n) less sys) at (explained.ends less sys d);
          steps = explained.steps;
        }

    -- ---- after all events

    pub shortened_all : k ≤ q.gap → Shortened s k count w (All (p.end - STEPS)) w'
    shortened_all end =
        let all : q.gap ≡ k = omega (arith, end, walk.free.most) in
        ⊎_elim
        (λ same. shortened_reached walk.kept walk.reached (same ∙ all))
        (λ past.
        let crossed = crossed_free walk.free past (λ h. absurd (omega arith)) in
        let reached =
        reached_next walk.kept asked.few walk.reached crossed (only_none p.end LOG w') in
        rw walk.free.end at (shortened_reached walk.kept reached all))
        (eq-or-lt_of_le walk.free.on)
