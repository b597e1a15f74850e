-- The shortest schedule of the events kept for a location becomes the shortest one of all events, if each of its steps
-- is placed right after the kept event before it.
use Prim.Native.Nat.{ℕ, suc, ◌+◌, ◌-◌, ◌≤◌, ◌<◌}
use native.Mathlib.Nat.{eq-or-lt_of_le}
use native.Mathlib.Decide.{dec_le}
use native.Mathlib.Omega.{arith}
use mathlib.Core.Path.{◌≡◌, refl, ap, ◌∙◌, subst}
use mathlib.Core.Logic.{◌⊎◌, inl, inr, ⊎_elim}
use mathlib.Core.Bool.{Bool, true, false}
use mathlib.Core.List.{List, [], ◌∷◌, map}
use mathlib.Core.List.Memᴰ
use mathlib.Core.List.{Memᴰ}
use lib.Dec.{T}
use lib.ListN.{length, length-map}
use Rattle.model.specs.Cxl0.{Location, Topology, Event, Silent, Propagate, WriteBack}
use Rattle.model.specs.Cxl0.{Action, event, silent, events, silents}
use Rattle.model.specs.Schedule.{Step, step_of, weave, schedule_from, schedule, in_order}
use Rattle.model.specs.OneLocation.{Local, site_of, effect, next_at, start_at, still}
use Rattle.model.specs.Shortest.{Less, Smaller}
use Rattle.model.specs.ShortestAt.{RunOf, ShortestAt}
use Rattle.model.proofs.SilentSteps.{no_step}
use Rattle.model.proofs.Weaving.{in_order_cons, schedule_from_in_order}
use Rattle.model.proofs.RunsOf.{length_schedule_from, run_of_nil, run_of_event, run_of_step, run_of_none}
use Rattle.model.proofs.RunsOf.{event_first, step_first}
use Rattle.model.proofs.Smallest.{same_step, smaller_nil, shortest_run_of, shortest_schedule}
use Rattle.events.specs.Thinning.{Thins, rest, keep, skip, Thinned, place_after, retimed}
use Rattle.events.proofs.Thinning.{From, left_out}
use Rattle.events.proofs.KeptEvents.{thins_rise}
use Rattle.events.proofs.RetimedRuns.{timed, Shows, shows_rest, shows_first, shows_places}
use Rattle.events.proofs.RetimedRuns.{thinned_in_order, thinned_weave, retimed_member}

-- ---- no step before the first event

-- At the start no machine holds a copy, so a run from there has an event before each silent step.
pub run_started : (sys : Topology) {x : Location} {es : List Event} (acts : List Action)
    → RunOf sys x es (start_at sys x) acts → T (in_order 1 (length es) (schedule acts))
unfolding schedule schedule_from in_order events start_at
run_started sys [] r = tt
run_started sys {es = es} (event e ∷ acts) r =
    let all = ap length r.of in
    schedule_from_in_order 1 1 (length es) acts (omega arith) (omega (arith, all))
run_started sys {x} (silent a ∷ acts) r =
    absurd (no_step (site_of sys x) a (start_at sys x) refl (step_first sys x r).1)

-- So has the shortest schedule.
pub shortest_started : (sys : Topology) {x : Location} {es : List Event} {ps : List Step} → ShortestAt sys x es ps
    → T (in_order 1 (length es) ps)
unfolding schedule
shortest_started sys h = rw (shortest_schedule h) at (run_started sys _ (shortest_run_of h))

-- What order says of each step.
in_order_counts : (m n : ℕ) (ps : List Step) → T (in_order m n ps)
    → (p : Step) → Memᴰ p ps → (m ≤ p.before) × (p.before ≤ n)
in_order_counts m n [] t p i = absurd (Memᴰ.not-nil i)
in_order_counts m n (q ∷ ps) t p i =
    let o = (in_order_cons m n q ps).0 t in
    ⊎_elim
    (λ e. rw e (o.0, o.1))
    (λ i. let c = in_order_counts q.before n ps o.2 p i in (omega (arith, o.0, c.0), c.1))
    (Memᴰ.cases_cons i)

-- Each step of the shortest schedule has an event before it, and no more than all.
pub shortest_counts : (sys : Topology) {x : Location} {es : List Event} {ps : List Step} → ShortestAt sys x es ps
    → (p : Step) → Memᴰ p ps → (1 ≤ p.before) × (p.before ≤ length es)
shortest_counts sys {es = es} {ps} h = in_order_counts 1 (length es) ps (shortest_started sys h)

module _ (clock : ℕ → ℕ) where
  -- ---- steps and their places

  -- Step q, with its count of kept events, is step p, with its count of all, at the same place or an earlier one.
  record NoLater (q p : Step) : Type 0 where
    pub place : clock q.before ≤ p.before
    pub location : q.location ≡ p.location
    pub machine : q.machine ≡ p.machine

  -- The steps qs are the first of the steps ps, and none is at a later place.
  unfoldable NoneLater : List Step → List Step → Type 0
  NoneLater [] ps = Unit {0}
  NoneLater (q ∷ qs) [] = ⊥
  NoneLater (q ∷ qs) (p ∷ ps) = NoLater q p × NoneLater qs ps

  -- So there are no more of them.
  none_later_few : (qs ps : List Step) → NoneLater qs ps → length qs ≤ length ps
  unfolding NoneLater
  none_later_few [] ps h = omega arith
  none_later_few (q ∷ qs) [] h = absurd h
  none_later_few (q ∷ qs) (p ∷ ps) h = omega (arith, none_later_few qs ps h.1)

  -- The same silent step at a place that is not later.
  step_of_no_later : (k n : ℕ) (a : Silent) → clock k ≤ n → NoLater (step_of k a) (step_of n a)
  unfolding step_of
  step_of_no_later k n (Propagate i y) h = record { place = h; location = refl; machine = refl }
  step_of_no_later k n (WriteBack y) h = record { place = h; location = refl; machine = refl }

  -- From 1 to m the clock rises.
  abbrev Rises : ℕ → Type 0
  Rises m = (i j : ℕ) → 1 ≤ i → i < j → j ≤ m → clock i < clock j

  module _ (m : ℕ) (rises : Rises m) where
    -- So a count whose place is not later is not greater.
    count_le : (i j : ℕ) → 1 ≤ j → i ≤ m → clock i ≤ clock j → i ≤ j
    count_le i j low high h =
        elim (dec_le i j) [ yes g ↦ g | no g ↦ absurd (omega (arith, rises j i low (omega arith) high)) ]

    -- Let q be no later than p. If p is less than r with its place, q is less than r.
    less_kept : (q p r : Step) → NoLater q p → q.before ≤ m → 1 ≤ r.before → Less p (timed clock r) → Less q r
    less_kept q p r h high low (inl l) =
        let count = count_le q.before r.before low high (omega (arith, h.place)) in
        ⊎_elim (λ e. absurd (omega (arith, h.place, ap clock e))) inl (eq-or-lt_of_le count)
    less_kept q p r h high low (inr (e, l)) =
        let count = count_le q.before r.before low high (omega (arith, h.place)) in
        ⊎_elim (λ c. inr (c, rw (h.location, h.machine) l)) inl (eq-or-lt_of_le count)

    -- If p is r with its place, q is r or less.
    same_kept : (q p r : Step) → NoLater q p → q.before ≤ m → 1 ≤ r.before → p ≡ timed clock r → Less q r ⊎ (q ≡ r)
    same_kept q p r h high low e =
        let at = ap (λ (p : Step). p.before) e in
        let count = count_le q.before r.before low high (omega (arith, h.place, at)) in
        let location = h.location ∙ ap (λ (p : Step). p.location) e in
        let machine = h.machine ∙ ap (λ (p : Step). p.machine) e in
        ⊎_elim (λ c. inr (same_step q r c location machine)) (λ l. inl (inl l)) (eq-or-lt_of_le count)

    -- Let none of qs be later than ps. If ps is smaller than rs with its places, qs is smaller than rs.
    smaller_kept : (k l : ℕ) (qs ps rs : List Step) → NoneLater qs ps → length rs ≤ length qs
        → T (in_order k m qs) → 1 ≤ l → T (in_order l m rs) → Smaller ps (map (timed clock) rs) → Smaller qs rs
    unfolding NoneLater Smaller
    smaller_kept k l qs ps [] h few t low u s = absurd (smaller_nil ps s)
    smaller_kept k l [] ps (r ∷ rs) h few t low u s = absurd (omega arith)
    smaller_kept k l (q ∷ qs) [] (r ∷ rs) h few t low u s = absurd s
    smaller_kept k l (q ∷ qs) (p ∷ ps) (r ∷ rs) h few t low u s =
        let o = (in_order_cons k m q qs).0 t in
        let o' = (in_order_cons l m r rs).0 u in
        let low' : 1 ≤ r.before = omega (arith, o'.0) in
        let more = smaller_kept q.before r.before qs ps rs h.1 (omega arith) o.2 low' o'.2 in
        ⊎_elim
        (λ less. inl (less_kept q p r h.0 o.1 low' less))
        (λ same. ⊎_elim inl (λ e. inr (e, more same.1)) (same_kept q p r h.0 o.1 low' same.0))
        s

  -- ---- what a run of all events leaves of the kept ones

  module _ (sys : Topology) (x : Location) (m : ℕ) where
    -- When k events were kept of n, a run of the others leaves one of the kept ones among them: with the same silent
    -- steps, or the first of these, and none at a later place.
    abbrev Leaves : ℕ → List Event → Local → ℕ → List Action → Type 0
    Leaves k kept s n acts =
        (left : List Action) × RunOf sys x kept s left × NoneLater (schedule_from k left) (schedule_from n acts)

    -- The place right after the last event that was kept has come, if one was.
    abbrev Passed : (begun : Bool) → (k n : ℕ) → Type 0
    Passed true k n = clock k ≤ n
    Passed false k n = Unit {0}

    passed_more : (begun : Bool) (k n : ℕ) → Passed begun k n → Passed begun k (suc n)
    passed_more true k n h = omega arith
    passed_more false k n h = tt

    -- A silent step is left as it is, where one of the events was kept; before, there is none.
    leaves_silent : (begun : Bool) (k n : ℕ) {es kept : List Event} {s : Local} (a : Silent) (acts : List Action)
        → Passed begun k n → From sys x begun s → RunOf sys x es s (silent a ∷ acts)
        → ((t : Local) → From sys x begun t → RunOf sys x es t acts → Leaves k kept t n acts)
        → Leaves k kept s n (silent a ∷ acts)
    unfolding schedule_from NoneLater
    leaves_silent true k n {s = s} a acts passed from r more =
        let (own, can, then) = step_first sys x r in
        let (left, run, none) = more (effect (site_of sys x) (silent a) s) tt then in
        (silent a ∷ left, run_of_step sys x own can run, (step_of_no_later k n a passed, none))
    leaves_silent false k n {s = s} a acts passed from r more =
        let none : s.code ≡ 0 = ap (λ (s : Local). s.code) from ∙ unfold start_at in refl in
        absurd (no_step (site_of sys x) a s none (step_first sys x r).1)

    -- Where no event is left to be kept, nothing need be left.
    leaves_none : (k : ℕ) (s : Local) (n : ℕ) (acts : List Action) → Leaves k [] s n acts
    unfolding schedule_from NoneLater
    leaves_none k s n acts = ([], run_of_nil sys x, tt)

    -- A run of all events leaves one of the kept ones: the others are left out, and what follows the last is cut off.
    thins_leaves : (acts : List Action) {begun : Bool} {n : ℕ} {es kept : List Event} {indices : List ℕ}
        → Thins x begun n es kept indices → (k : ℕ) → Shows clock k m kept indices → Passed begun k n
        → (s : Local) → From sys x begun s → RunOf sys x es s acts → Leaves k kept s n acts
    unfolding schedule_from
    thins_leaves [] {n = n} (rest none) k shows passed s from r = leaves_none k s n []
    thins_leaves [] (keep here h) k shows passed s from r = absurd (run_of_none sys x r)
    thins_leaves [] (skip none h) k shows passed s from r = absurd (run_of_none sys x r)
    thins_leaves (silent a ∷ acts) {begun} {n} thins k shows passed s from r =
        leaves_silent begun k n a acts passed from r (thins_leaves acts thins k shows passed)
    thins_leaves (event d ∷ acts) {n = n} (rest none) k shows passed s from r = leaves_none k s n (event d ∷ acts)
    thins_leaves (event d ∷ acts) {n = n} (keep {e} here h) k shows passed s from r =
        let (_, can, then) = event_first sys x r in
        let now : clock (suc k) ≤ suc n = omega (arith, shows_first clock k m shows) in
        let later = shows_rest clock k m shows in
        let (left, run, none) = thins_leaves acts h (suc k) later now (next_at sys x (event e) s) tt then in
        (event e ∷ left, run_of_event sys x can run, none)
    thins_leaves (event d ∷ acts) {n = n} (skip {begun} {e} {es} none h) k shows passed s from r =
        let same = (left_out sys x begun e none from still).2 in
        let then = subst (λ (t : Local). RunOf sys x es t acts) same (event_first sys x r).2 in
        thins_leaves acts h k shows (passed_more begun k n passed) s from then

-- ---- the shortest schedule

module _ (sys : Topology) {x : Location} {es kept : List Event} {indices : List ℕ}
    (thinned : Thinned x es kept indices) where
  abbrev clock_of : ℕ → ℕ
  clock_of = place_after indices

  -- The places right after the kept events rise.
  places_rise : Rises clock_of (length kept)
  places_rise i j low less high = omega (arith, thins_rise thinned (i - 1) (j - 1) (omega arith) (omega arith))

  -- A run of all events from the start leaves one of the kept ones with no more silent steps, none at a later place.
  leaves : (acts : List Action) → RunOf sys x es (start_at sys x) acts
      → (left : List Action)
      × RunOf sys x kept (start_at sys x) left
      × (length (silents left) ≤ length (silents acts))
      × NoneLater clock_of (schedule left) (schedule acts)
  unfolding schedule
  leaves acts r =
      let (left, run, none) = thins_leaves clock_of sys x (length kept) acts thinned 0 (shows_places thinned) tt
      (start_at sys x) refl r in
      let few = none_later_few clock_of (schedule left) (schedule acts) none in
      (left, run, omega (arith, length_schedule_from 0 left, length_schedule_from 0 acts, few), none)

  -- The shortest schedule of the kept events, retimed, is the shortest one of all events.
  pub thinned_shortest : {ps : List Step} → ShortestAt sys x kept ps → ShortestAt sys x es (retimed indices ps)
  unfolding schedule
  thinned_shortest {ps} h =
      record {
        order = rw all (thinned_in_order thinned ps started);
        own = λ p i.
            let (q, j, e) = retimed_member indices ps p i in
            subst (λ (r : Step). r.location ≡ x) e (h.own q j);
        runs = unfold weave in rw (thinned_weave thinned sys ps started) h.runs;
        fewest = λ acts r.
            let (left, run, few, none) = leaves acts r in
            omega (arith, size, h.fewest left run, few);
        smallest = λ acts r e less.
            let (left, run, few, none) = leaves acts r in
            let same : length (silents left) ≡ length ps = omega (arith, size, e, h.fewest left run, few) in
            h.smallest left run same (smaller acts left run same none less);
      }
    where
      all : 0 + length es ≡ length es
      all = omega arith

      size : length (retimed indices ps) ≡ length ps
      size = unfold retimed in length-map ps (timed clock_of)

      started : T (in_order 1 (length kept) ps)
      started = shortest_started sys h

      -- If a run is smaller than the retimed schedule, what it leaves is smaller than the schedule.
      smaller : (acts left : List Action) → RunOf sys x kept (start_at sys x) left → length (silents left) ≡ length ps
          → NoneLater clock_of (schedule left) (schedule acts)
          → Smaller (schedule acts) (retimed indices ps) → Smaller (schedule left) ps
      smaller acts left run same none less =
          smaller_kept clock_of (length kept) places_rise 1 1 (schedule left) (schedule acts) ps none
          (omega (arith, length_schedule_from 0 left)) (run_started sys left run) (omega arith) started
          (unfold retimed in less)
