-- What is left to pay after write-backs, filled in gap by gap from the last one.
use Prim.Native.Nat.{ℕ, zero, suc, ◌+◌, ◌-◌, ◌≤◌, ◌<◌}
use native.Mathlib.Nat.{le_refl, le_trans, eq-or-lt_of_le}
use native.Mathlib.Omega.{arith}
use mathlib.Core.Path.{◌≡◌, refl, sym, subst, ◌∙◌}
use mathlib.Core.Logic.{◌⊎◌, inl, inr, ⊎_elim}
use mathlib.Core.Bool.{true, false, cond, true≢false}
use mathlib.Core.List.{List}
use lib.Dec.{T, leb, leb→le, nleb→lt}
use lib.ListN.{length, set, get_or, replicate}
use borrow.Rule.Slice.PartMut.{put_mid}
use Rattle.std.proofs.Common.{rules}
use Rattle.std.proofs.lemmas.List.{places, length-replicate}
use Rattle.std.proofs.lemmas.Slice.{overwrites}
use lib.Seq.{get_or-set_same, get_or-set_other}
use Rattle.model.specs.Cxl0.{Value, event}
use Rattle.model.specs.OneLocation
use Rattle.model.specs.OneLocation.{clears_site, enabled_at}
use Rattle.model.specs.Meaning.{meant}
use Rattle.model.specs.declared.Event as event
use Rattle.model.proofs.Tests.{by_test, cond_same}
use Rattle.entries.specs.Entries.{site_meant}
use Rattle.entries.specs.declared.Site.{Site}
use Rattle.rows.specs.Rows.{state}
use Rattle.rows.specs.Sites.{Known}
use Rattle.scratch.specs.Layout.{WORDS, MOST, BACKS, SEGMENTS, OnlyIn}
use Rattle.scratch.specs.Words.{event_in, struct_in}
use Rattle.scratch.proofs.Frames.{only_set, only_then, only_wider, get_or_above}
use Rattle.scratch.proofs.Events.{meant_read}
use Rattle.levels.specs.Stretches.{FAR, Inner}
use Rattle.levels.specs.Tasks.{back_in}
use Rattle.segments.specs.Words.{segment_in}
use Rattle.segments.specs.Segments.{Costs}
use Rattle.segments.specs.Weighing.{Backable, Bounded, Backed}
use Rattle.segments.specs.declared.words.Segment.{Segment}
use Rattle.segments.specs.declared.words.Block.{Block}
use Rattle.segments.specs.declared.backing.Bounds.{Bounds}
use Rattle.segments.proofs.Kept.{kept_between, kept_cost}
use Rattle.segments.proofs.Drained.{passes_same, passes_reset, passes_other, stops_load}
use Rattle.segments.proofs.Drained.{costs_step, costs_stuck}

-- The number n is what is left to pay after a write-back at gap j, and within the bounds.
pub record Number (site : Site) (b : Block) (s : Segment) (w : List ℕ) (bounds : Bounds) (j n : ℕ) : Type 0 where
  pub costs : Costs (site_meant site) w b.end j s.copy 0 s.copy n
  pub least : bounds.least ≤ n
  pub most : n < FAR → suc n ≤ bounds.most

-- The numbers of the gaps from t on are filled in, which makes the area w'. That of gap t is `now`, and with the
-- initial value in memory it is `again`; this is known behind the first reset.
pub record Filling (site : Site) (b : Block) (s : Segment) (w : List ℕ)
    (t now again : ℕ) (bounds : Bounds) (w' : List ℕ) : Type 0 where
  pub frame : OnlyIn BACKS SEGMENTS w w'
  pub order : s.first ≤ t
  pub inside : t ≤ s.end
  pub here : back_in w' t ≡ now
  pub cleared : s.reset < t → Costs (site_meant site) w b.end t s.copy 0 site.initial again
  pub filled : (j : ℕ) → t ≤ j → j ≤ s.end → Number site b s w bounds j (back_in w' j)

-- What the code makes of the event before a gap: it resets memory; it is a load of the value of the copies, which the
-- initial value does not let pass; or neither.
pub data Turn (site : Site) (s : Segment) (e : event.Event) (now again : ℕ) (bounds : Bounds) :
    (now' again' : ℕ) → (bounds' : Bounds) → Type 0 where
  resetting : {bounds' : Bounds} → clears_site (meant e) (site_meant site) ≡ true → Bounded bounds again bounds'
      → Turn site s e now again bounds again again bounds'
  stopping : clears_site (meant e) (site_meant site) ≡ false → e.operation ≡ 4 → ¬ (site.initial ≡ s.copy)
      → Turn site s e now again bounds now FAR bounds
  passing : clears_site (meant e) (site_meant site) ≡ false
      → (¬ (e.operation ≡ 4)) ⊎ (site.initial ≡ s.copy)
      → Turn site s e now again bounds now again bounds

-- The segment is s, and the number of its last gap is filled in.
pub record Fillable (site : Site) (b : Block) (l : ℕ) (s : Segment) (back zeta : ℕ) (w w' : List ℕ) : Type 0 where
  pub ready : Backable site b l back zeta w
  pub segment : s ≡ segment_in w l
  pub last : w' ≡ set w (BACKS + s.end) back

-- Words that are filled with a number have it, and no other word has changed.
filled_here : (a n v : ℕ) (w : List ℕ) → a + n ≤ length w → (i : ℕ) → a ≤ i → i < a + n
    → get_or (put_mid a n w (replicate n v)) i 0 ≡ v
filled_here a n v w h i l m = search (rules, places)

only_filled : (a n v : ℕ) (w : List ℕ) → a + n ≤ length w → OnlyIn a (a + n) w (put_mid a n w (replicate n v))
only_filled a n v w h =
    record {
      sized = search (rules, overwrites, length-replicate {A = ℕ});
      below = search (rules, overwrites);
      above = search (rules, overwrites, length-replicate {A = ℕ});
    }

-- Wider bounds.
wider : {site : Site} {b : Block} {s : Segment} {w : List ℕ} {bounds bounds' : Bounds} {j n m : ℕ}
    → Bounded bounds m bounds' → Number site b s w bounds j n → Number site b s w bounds' j n
wider p q =
    record {
      costs = q.costs;
      least = le_trans p.least.0 q.least;
      most = λ h. le_trans (q.most h) p.most.0;
    }

module _ {site : Site} {b : Block} {l : ℕ} {s : Segment} {back zeta : ℕ} {w w₀ : List ℕ}
    (can : Fillable site b l s back zeta w w₀) where
  abbrev k : OneLocation.Site
  k = site_meant site

  -- What is left to pay at gap t, without a copy and with memory value m.
  abbrev Left-at : (t : ℕ) → (m : Value) → ℕ → Type 0
  Left-at t m n = Costs k w b.end t s.copy 0 m n

  inside : s.end ≤ b.end
  inside = rw can.segment can.ready.segment.inside

  inner : (t : ℕ) → s.first ≤ t → t < s.end → Inner s.copy (event_in w t)
  inner = rw can.segment can.ready.segment.inner

  pub fill_known : (t : ℕ) → s.first ≤ t → t < s.end → Known (struct_in w t)
  fill_known = rw can.segment can.ready.segment.known

  early : (t : ℕ) → s.first ≤ t → t < s.end → t < s.reset → clears_site (event_in w t) k ≡ false
  early = rw can.segment can.ready.segment.early

  -- An event that resets memory is not before the first one that does.
  no_earlier : (t : ℕ) → s.first ≤ t → t < s.end → clears_site (event_in w t) k ≡ true → s.reset ≤ t
  no_earlier t a h clears =
      by_test (leb s.reset t)
      (λ le. leb→le _ _ le)
      (λ more. absurd (true≢false (sym clears ∙ early t a h (nleb→lt _ _ more))))

  -- ---- one gap more

  module _ {t now again : ℕ} {bounds : Bounds} {w' : List ℕ} (a : s.first ≤ t)
      (so : Filling site b s w (suc t) now again bounds w') where
    h : t < s.end
    h = so.inside

    -- The number of gap t is filled in.
    fill_gap : {now' again' : ℕ} {bounds' : Bounds}
        → ((j n : ℕ) → Number site b s w bounds j n → Number site b s w bounds' j n)
        → Number site b s w bounds' t now' → (s.reset < t → Left-at t site.initial again')
        → Filling site b s w t now' again' bounds' (set w' (BACKS + t) now')
    fill_gap {now'} {bounds' = bounds'} wide here cleared =
        let at = BACKS + t in
        let few : t ≤ MOST = omega (arith, inside, can.ready.short) in
        let room : at < length w' = omega (arith, so.frame.sized, can.ready.room) in
        let put = get_or-set_same w' at now' 0 room in
        record {
          frame = only_then so.frame (only_set BACKS SEGMENTS w' at now' (omega arith) (omega arith));
          order = a;
          inside = omega arith;
          here = put;
          cleared = cleared;
          filled =
              λ j more last.
              ⊎_elim
              (λ e. rw (← e, put) here)
              (λ later.
              rw (get_or-set_other w' at (BACKS + j) now' 0 (omega arith)) (wide j _ (so.filled j later last)))
              (eq-or-lt_of_le more);
        }

    -- What is left to pay at gap t is what is left at the next one, if the event passes.
    step : (m : Value) {n : ℕ} → T (enabled_at k (event (event_in w t)) (state 0 s.copy m))
        → Left-at (suc t) (cond (clears_site (event_in w t) k) site.initial m) n → Left-at t m n
    step = costs_step k w b.end s.copy t (omega (arith, inside)) (inner t a h)

    -- So it is with the initial value in memory.
    cleared_step : T (enabled_at k (event (event_in w t)) (state 0 s.copy site.initial))
        → s.reset < t → Left-at t site.initial again
    cleared_step passes d =
        step site.initial passes
        (rw (cond_same (clears_site (event_in w t) k) site.initial) (so.cleared (omega arith)))

    -- The event resets memory: what is left to pay is what is left with the initial value.
    fill_reset : {bounds' : Bounds} → clears_site (event_in w t) k ≡ true → Bounded bounds again bounds'
        → Filling site b s w t again again bounds' (set w' (BACKS + t) again)
    fill_reset {bounds'} clears bounded =
        let cleared = so.cleared (omega (arith, no_earlier t a h clears)) in
        let passes = passes_same k s.copy (event_in w t) s.copy refl (inner t a h) in
        let number : Number site b s w bounds' t again =
        record {
          costs = step s.copy passes (rw clears cleared);
          least = bounded.least.1;
          most = bounded.most.1;
        }
        in
        fill_gap (λ j n. wider bounded) number
        (cleared_step (passes_reset k s.copy (event_in w t) (state 0 s.copy site.initial) clears))

    -- It does not reset memory: what is left to pay is as it was; with the initial value too, if that lets it pass.
    fill_kept : {again' : ℕ} → clears_site (event_in w t) k ≡ false → (s.reset < t → Left-at t site.initial again')
        → Filling site b s w t now again' bounds (set w' (BACKS + t) now)
    fill_kept clears cleared =
        let next = rw so.here at (so.filled (suc t) (le_refl _) h) in
        let passes = passes_same k s.copy (event_in w t) s.copy refl (inner t a h) in
        fill_gap (λ j n p. p)
        (record { costs = step s.copy passes (rw clears next.costs); least = next.least; most = next.most })
        cleared

    module _ (e : event.Event) (read : e ≡ struct_in w t) where
      is-event : meant e ≡ event_in w t
      is-event = meant_read w t e read

      -- A load does not let the initial value pass, unless that is the value of the copies.
      fill_load : clears_site (event_in w t) k ≡ false → e.operation ≡ 4 → ¬ (site.initial ≡ s.copy)
          → Filling site b s w t now FAR bounds (set w' (BACKS + t) now)
      fill_load clears load other =
          let stuck = stops_load k s.copy e site.initial load other (rw is-event (inner t a h)) in
          fill_kept clears
          (λ d.
          costs_stuck k w b.end s.copy t (omega (arith, inside)) (inner t a h) site.initial
          (rw is-event at stuck))

      -- Every other event does.
      initial_passes : (¬ (e.operation ≡ 4)) ⊎ (site.initial ≡ s.copy)
          → T (enabled_at k (event (event_in w t)) (state 0 s.copy site.initial))
      initial_passes (inl other) =
          rw is-event at (passes_other k s.copy e site.initial other (rw is-event (inner t a h)))
      initial_passes (inr same) = passes_same k s.copy (event_in w t) site.initial same (inner t a h)

      fill_other : clears_site (event_in w t) k ≡ false → (¬ (e.operation ≡ 4)) ⊎ (site.initial ≡ s.copy)
          → Filling site b s w t now again bounds (set w' (BACKS + t) now)
      fill_other clears free = fill_kept clears (cleared_step (initial_passes free))

      fill_turn : {now' again' : ℕ} {bounds' : Bounds} → Turn site s e now again bounds now' again' bounds'
          → Filling site b s w t now' again' bounds' (set w' (BACKS + t) now')
      fill_turn (resetting clears bounded) = fill_reset (rw is-event at clears) bounded
      fill_turn (stopping clears load other) = fill_load (rw is-event at clears) load other
      fill_turn (passing clears free) = fill_other (rw is-event at clears) free

  -- The gaps are few, and the area has room.
  pub fill_short : s.end ≤ MOST
  fill_short = omega (arith, inside, can.ready.short)

  pub fill_room : {t now again : ℕ} {bounds : Bounds} {w' : List ℕ} → Filling site b s w t now again bounds w'
      → (WORDS ≤ length w') × (t ≤ MOST)
  fill_room so =
      (omega (arith, so.frame.sized, can.ready.room), omega (arith, so.inside, fill_short))

  -- The events are as they were.
  pub fill_read : {t now again : ℕ} {bounds : Bounds} {w' : List ℕ} → Filling site b s w t now again bounds w'
      → (j : ℕ) → j < MOST → struct_in w' j ≡ struct_in w j
  fill_read so = (kept_between so.frame (omega arith) (omega arith)).structs

  -- One gap more.
  pub fill_more : {t now again : ℕ} {bounds : Bounds} {w' : List ℕ} {now' again' : ℕ} {bounds' : Bounds}
      → s.first < t → Filling site b s w t now again bounds w'
      → (e : event.Event) → e ≡ struct_in w' (t - 1) → Turn site s e now again bounds now' again' bounds'
      → Filling site b s w (t - 1) now' again' bounds' (set w' (BACKS + (t - 1)) now')
  fill_more {t} {now} {again} {bounds} {w'} first so e read turn =
      let one : t ≡ suc (t - 1) = omega arith in
      let from = subst (λ (n : ℕ). Filling site b s w n now again bounds w') one so in
      let same = fill_read so (t - 1) (omega (arith, fill_room so)) in
      fill_turn (omega arith) from e (read ∙ same) turn

  -- A reset is at a gap of the segment.
  pub fill_reaches : {t now again : ℕ} {bounds : Bounds} {w' : List ℕ} → Filling site b s w t now again bounds w'
      → s.reset < t → s.first < t
  fill_reaches so less =
      let resets : s.reset < s.end → s.first ≤ s.reset =
      rw can.segment (λ inside. (can.ready.segment.resets inside).0)
      in
      omega (arith, resets (omega (arith, so.inside)))

  -- ---- the last gap

  -- The number of the last gap.
  pub fill_last : {bounds : Bounds} → Bounded (record { least = FAR; most = 0 }) back bounds
      → Filling site b s w s.end back zeta bounds w₀
  fill_last {bounds} bounded =
      let at = BACKS + s.end in
      let few : s.end ≤ MOST = omega (arith, inside, can.ready.short) in
      let room : at < length w = omega (arith, can.ready.room) in
      let put = get_or-set_same w at back 0 room in
      let number : Number site b s w bounds s.end back =
      record {
        costs = rw can.segment can.ready.here;
        least = bounded.least.1;
        most = bounded.most.1;
      }
      in
      rw can.last
      (record {
        frame = only_set BACKS SEGMENTS w at back (omega arith) (omega arith);
        order = rw can.segment can.ready.segment.order;
        inside = le_refl s.end;
        here = put;
        cleared = rw can.segment can.ready.again;
        filled =
            λ j more last.
            let e : s.end ≡ j = omega arith in
            rw (← e, put) number;
      })

  -- ---- up to the first reset

  module _ {t now again : ℕ} {bounds : Bounds} {w' : List ℕ} (before : t ≤ s.reset)
      (so : Filling site b s w t now again bounds w') where
    -- Every gap has the number of gap t.
    number_early : (d j : ℕ) → s.first ≤ j → j + d ≡ t → Number site b s w bounds j now
    number_early zero j a e =
        let there : j ≡ t = omega arith in
        rw there (rw so.here at (so.filled t (le_refl t) so.inside))
    number_early (suc d) j a e =
        let next = number_early d (suc j) (omega arith) (omega arith) in
        let h : j < s.end = omega (arith, so.inside) in
        let passes = passes_same k s.copy (event_in w j) s.copy refl (inner j a h) in
        record {
          costs =
              costs_step k w b.end s.copy j (omega (arith, inside)) (inner j a h) s.copy passes
              (rw (early j a h (omega arith)) next.costs);
          least = next.least;
          most = next.most;
        }

    -- The gaps before gap t are filled in with its number.
    module _ (n : ℕ) (to : s.first + n ≡ t) where
      abbrev w'' : List ℕ
      w'' = put_mid (BACKS + s.first) n w' (replicate n now)

      room : BACKS + s.first + n ≤ length w'
      room = omega (arith, fill_room so)

      only : OnlyIn (BACKS + s.first) (BACKS + s.first + n) w' w''
      only = only_filled (BACKS + s.first) n now w' room

      frame : OnlyIn BACKS SEGMENTS w w''
      frame = only_then so.frame (only_wider only (omega arith) (omega (arith, (fill_room so).1)))

      number : (j : ℕ) → s.first ≤ j → j ≤ s.end → Number site b s w bounds j (back_in w'' j)
      number j f h =
          by_test (leb t j)
          (λ later.
          let more : t ≤ j = leb→le t j later in
          rw (get_or_above only (BACKS + j) (omega arith)) (so.filled j more h))
          (λ sooner.
          let less : j < t = nleb→lt t j sooner in
          rw (filled_here (BACKS + s.first) n now w' room (BACKS + j) (omega arith) (omega arith))
          (number_early (t - j) j f (omega arith)))

      all_filled : Backed site b l w bounds w''
      all_filled =
          let kept = kept_between frame (omega arith) (omega arith) in
          record {
            frame = frame;
            backs = rw (← can.segment) (λ j f h. kept_cost kept can.ready.short (number j f h).costs);
            least = rw (← can.segment) (λ j f h. (number j f h).least);
            most = rw (← can.segment) (λ j f h. (number j f h).most);
          }

      pub fill_rest : (xs : List ℕ) → xs ≡ replicate n now
          → Backed site b l w bounds (put_mid (BACKS + s.first) n w' xs)
      fill_rest xs filled = rw filled all_filled
