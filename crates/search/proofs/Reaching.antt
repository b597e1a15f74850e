-- The known places that the walk comes to, one after the other: the shortest schedule of the events up to a place, and
-- behind it that of the events from there to the next one.
use Prim.Native.Nat.{ℕ, suc, ◌+◌, ◌-◌, ◌≤◌, ◌<◌}
use native.Mathlib.Nat.{le_refl, zero-add}
use native.Mathlib.Omega.{arith}
use mathlib.Core.Path.{◌≡◌, sym, ap, ap₂, ◌∙◌, subst}
use mathlib.Core.List.{List, [], ◌∷◌, ◌++◌, map, map-append}
use lib.ListN.{length, length-append}
use Rattle.model.specs.Cxl0.{Topology}
use Rattle.model.specs.OneLocation.{Local, start_at, HasRunAt}
use Rattle.model.specs.ShortestAt.{ShortestFrom, ShortestAt, KnownAfter}
use Rattle.model.specs.Words.{step_of_word}
use Rattle.model.proofs.RunsOf.{halves}
use Rattle.model.proofs.Greedy.{known_nil, known_append, shortest_nil, shortest_append}
use Rattle.entries.specs.declared.Site.{Site}
use Rattle.rows.specs.Rows.{state}
use Rattle.rows.specs.Sites.{Describes}
use Rattle.rows.proofs.RowSteps.{begins}
use Rattle.scratch.specs.Layout.{STEPS, LOG, MOST, OnlyIn}
use Rattle.scratch.specs.Words.{event_in, events_from, events_in, words_at}
use Rattle.scratch.proofs.Events.{last_event, events_two, events_length}
use Rattle.scratch.proofs.Segments.{words_from, words_two, words_kept}
use Rattle.walking.specs.StepsBack.{Fits}
use Rattle.blocks.specs.Blocks.{between, Crossed}
use Rattle.blocks.specs.declared.splitting.Place.{Place}
use Rattle.search.specs.Paths.{Kept}
use Rattle.search.proofs.Keeping.{from_kept}

-- ---- the events between two gaps

pub between_none : (w : List ℕ) (t : ℕ) → between w t t ≡ []
unfolding events_from
between_none w t =
    let none : t - t ≡ 0 = omega arith in
    ap (events_from w t) none

-- One event more.
pub between_more : (w : List ℕ) (t n : ℕ) → t ≤ n → between w t (suc n) ≡ between w t n ++ event_in w n ∷ []
between_more w t n h =
    let size : suc n - t ≡ suc (n - t) = omega arith in
    let last : t + (n - t) ≡ n = omega arith in
    ap (events_from w t) size ∙ last_event w t (n - t)
    ∙ ap (λ (j : ℕ). between w t n ++ event_in w j ∷ []) last

-- The events up to a gap, and those from there to a later one.
pub between_two : (w : List ℕ) (t n : ℕ) → t ≤ n → events_in w n ≡ events_in w t ++ between w t n
between_two w t n h =
    let size : t + (n - t) ≡ n = omega arith in
    ap (events_in w) (sym size) ∙ rw zero-add at (events_two w 0 t (n - t))

-- ---- a known place

-- The state of the location at a place.
abbrev pub standing : Place → Local
standing p = state p.code p.copy p.memory

-- The words behind the list of `count` are those of the shortest schedule of the events up to the place p. Unless these
-- are all k, the state after them is known: it is that of the place.
pub record Reached (s : Site) (k count : ℕ) (w : List ℕ) (p : Place) (w' : List ℕ) : Type 0 where
  pub most : p.gap ≤ k
  pub fits : p.code < 64
  pub words : List ℕ
  pub ends : p.end ≡ STEPS + count + length words
  pub list : words_at (STEPS + count) (length words) w' ≡ words
  pub shortest : (sys : Topology) → Describes sys s
      → ShortestAt sys s.location.0 (events_in w p.gap) (map step_of_word words)
  pub known : p.gap < k → (sys : Topology) → Describes sys s
      → KnownAfter sys s.location.0 (events_in w p.gap) (start_at sys s.location.0) (standing p)

-- The place before the first event.
abbrev pub start_place : Site → ℕ → Place
start_place s count = record { gap = 0; code = 0; copy = 0; memory = s.initial; end = STEPS + count }

pub reached_none : (s : Site) (k count : ℕ) (w : List ℕ) → Reached s k count w (start_place s count) w
unfolding events_from start_at
reached_none s k count w =
    record {
      most = omega arith;
      fits = omega arith;
      words = [];
      ends = omega arith;
      list = words_from (STEPS + count) 0 w;
      shortest = λ sys d. shortest_nil sys s.location.0 0 (start_at sys s.location.0);
      known = λ h sys d. known_nil sys s.location.0 (ap (state 0 0) (sym (begins d)));
    }

module _ {s : Site} {k count : ℕ} {w w' : List ℕ} {p : Place} (kept : Kept (STEPS + count) w w') (few : k ≤ MOST)
    (reached : Reached s k count w p w') where
  -- The events up to a later gap are those up to the place and those from there on.
  events_on : (n : ℕ) → p.gap ≤ n → n ≤ k → events_in w n ≡ events_in w p.gap ++ between w' p.gap n
  events_on n past most =
      between_two w p.gap n past
      ∙ ap (◌++◌ (events_in w p.gap)) (sym (from_kept kept p.gap (n - p.gap) (omega arith)))

  -- If those from there on have no run, all have none: any run of all events comes to the place.
  pub none_behind : p.gap < k → (sys : Topology) → Describes sys s
      → ¬ HasRunAt sys s.location.0 (between w' p.gap k) (standing p) → ¬ Fits sys s k w
  none_behind before sys d none run =
      let x = s.location.0 in
      let all = events_on k (omega arith) (le_refl k) in
      let h = halves sys x (events_in w p.gap) (between w' p.gap k) (start_at sys x) run.0
      (record { of = run.1 ∙ all; own = run.2; runs = run.3 }) in
      let back = rw (reached.known before sys d h.front h.begins h.ends) at h.goes_on in
      none (h.back, back.of, back.own, back.runs)

  -- The next place, behind a block.
  module _ {q : Place} {w'' : List ℕ} (crossed : Crossed s p k w' q w'') (frame : OnlyIn p.end LOG w' w'') where
    abbrev old : List ℕ
    old = reached.words

    abbrev new : List ℕ
    new = crossed.words

    below : p.gap < k
    below = omega (arith, crossed.on, crossed.most)

    events_next : events_in w q.gap ≡ events_in w p.gap ++ between w' p.gap q.gap
    events_next = events_on q.gap (omega (arith, crossed.on)) crossed.most

    -- The words of both schedules stand one after the other.
    list_next : words_at (STEPS + count) (length (old ++ new)) w'' ≡ old ++ new
    list_next =
        let first = words_kept frame (STEPS + count) (length old) (omega (arith, reached.ends)) ∙ reached.list in
        let then = subst (λ (n : ℕ). words_at n (length new) w'' ≡ new) reached.ends crossed.list in
        rw length-append (words_two (STEPS + count) (length old) (length new) w'' ∙ ap₂ ◌++◌ first then)

    -- Together they are the shortest one, since the state between them is known.
    shortest_next : (sys : Topology) → Describes sys s
        → ShortestAt sys s.location.0 (events_in w q.gap) (map step_of_word (old ++ new))
    shortest_next sys d =
        let x = s.location.0 in
        let es = between w' p.gap q.gap in
        let gap : p.gap ≡ 0 + length (events_in w p.gap) = omega (arith, events_length w p.gap) in
        let then =
        subst (λ (n : ℕ). ShortestFrom sys x n es (standing p) (map step_of_word new)) gap (crossed.shortest sys d) in
        rw (events_next, map-append step_of_word old new)
        (shortest_append sys x (reached.known below sys d) (reached.shortest sys d) then)

    pub reached_next : Reached s k count w q w''
    reached_next =
        record {
          most = crossed.most;
          fits = crossed.fits;
          words = old ++ new;
          ends = rw length-append (omega (arith, reached.ends, crossed.ends));
          list = list_next;
          shortest = shortest_next;
          known = λ h sys d. rw events_next
              (known_append sys s.location.0 (reached.known below sys d) (crossed.known h sys d));
        }
