-- Steps for the events kept for a location, each placed right after the kept event before it, run with all events as
-- they do with those kept.
use Prim.Native.Nat.{ℕ, suc, ◌+◌, ◌-◌, ◌≤◌, ◌<◌}
use native.Mathlib.Nat.{eq-or-lt_of_le}
use native.Mathlib.Omega.{arith}
use mathlib.Core.Path.{◌≡◌, refl, ap, ◌∙◌}
use mathlib.Core.Logic.{⊎_elim}
use mathlib.Core.Bool.{Bool, true, not, ◌&&◌}
use mathlib.Core.List.Memᴰ
use mathlib.Core.List.{List, [], ◌∷◌, map}
use mathlib.Core.List.{Memᴰ}
use lib.Dec.{T}
use lib.ListN.{length, get_or}
use Rattle.model.specs.Cxl0.{Location, Topology, Event, event, silent}
use Rattle.model.specs.Schedule.{Step, silent_of, steps, weave_from, weave, in_order}
use Rattle.model.specs.OneLocation.{Local, possible_at, next_at, start_at, still, runs_at}
use Rattle.model.proofs.Tests.{and_l, and_r}
use Rattle.model.proofs.Weaving.{in_order_cons, weave_due, weave_event}
use Rattle.model.proofs.Steps.{in_order_lower}
use Rattle.model.specs.OneLocation.{own_event}
use Rattle.events.specs.Thinning.{none_own, Thins, rest, keep, skip, Thinned}
use Rattle.events.specs.Thinning.{place_after, retimed}
use Rattle.events.proofs.Thinning.{foreign_possible, From, left_out}
use Rattle.events.proofs.KeptEvents.{thins_indices, thins_rise}

-- ---- retiming by any clock

-- The step with another count of events before it.
abbrev pub timed : (ℕ → ℕ) → Step → Step
timed clock p = record { before = clock p.before; location = p.location; machine = p.machine }

-- It is the same silent step.
timed_silent : (clock : ℕ → ℕ) (p : Step) → silent_of (timed clock p) ≡ silent_of p
unfolding silent_of
timed_silent clock p = refl

-- From k to m the clock shows times from l to h, and never falls.
abbrev Steady : (ℕ → ℕ) → (k m l h : ℕ) → Type 0
Steady clock k m l h =
    (i j : ℕ) → k ≤ i → i ≤ j → j ≤ m → (l ≤ clock i) × (clock i ≤ clock j) × (clock j ≤ h)

-- Steps in order are in order by a steady clock.
timed_in_order : (clock : ℕ → ℕ) (k m l h : ℕ) → Steady clock k m l h → (ps : List Step)
    → T (in_order k m ps) → T (in_order l h (map (timed clock) ps))
unfolding in_order
timed_in_order clock k m l h steady [] t = tt
timed_in_order clock k m l h steady (p ∷ ps) t =
    let o = (in_order_cons k m p ps).0 t in
    let here = steady p.before p.before o.0 (omega arith) o.1 in
    (in_order_cons l h (timed clock p) (map (timed clock) ps)).1 (
      here.0,
      here.2,
      timed_in_order clock p.before m (clock p.before) h
          (λ i j g g' f.
          let first = steady p.before i o.0 g (omega arith) in
          let then = steady i j (omega arith) g' f in
          (first.1, then.1, then.2))
          ps o.2,
    )

-- ---- the clock of the kept events

-- The kept events are those after the first k of m, and with each of them the clock comes to the place right after it.
pub record Shows (clock : ℕ → ℕ) (k m : ℕ) (kept : List Event) (indices : List ℕ) : Type 0 where
  pub all : m ≡ k + length kept
  pub each : (j : ℕ) → j < length kept → clock (suc (k + j)) ≡ get_or indices j 0 + 1

pub shows_rest : (clock : ℕ → ℕ) (k m : ℕ) {e : Event} {kept : List Event} {n : ℕ} {indices : List ℕ}
    → Shows clock k m (e ∷ kept) (n ∷ indices) → Shows clock (suc k) m kept indices
shows_rest clock k m shows =
    record {
      all = omega (arith, shows.all);
      each = λ j l.
          let same : suc k + j ≡ k + suc j = omega arith in
          ap (λ (i : ℕ). clock (suc i)) same ∙ shows.each (suc j) (omega arith);
    }

pub shows_first : (clock : ℕ → ℕ) (k m : ℕ) {e : Event} {kept : List Event} {n : ℕ} {indices : List ℕ}
    → Shows clock k m (e ∷ kept) (n ∷ indices) → clock (suc k) ≡ suc n
shows_first clock k m shows =
    let same : suc k ≡ suc (k + 0) = omega arith in
    omega (arith, ap clock same, shows.each 0 (omega arith))

-- The clock is steady.
shows_steady : (clock : ℕ → ℕ) (k m : ℕ) {x : Location} {begun : Bool} {n : ℕ} {es kept : List Event} {indices : List ℕ}
    → Thins x begun n es kept indices → Shows clock k m kept indices → Steady clock (suc k) m (suc n) (n + length es)
shows_steady clock k m {kept} {indices} thins shows i j g g' f =
    let here = at i g (omega arith) in
    let there = at j (omega arith) f in
    let low = thins_indices thins (i - suc k) (omega (arith, shows.all)) in
    let high = thins_indices thins (j - suc k) (omega (arith, shows.all)) in (
      omega (arith, here, low),
      ⊎_elim (λ e. rw e (omega arith)) (rises here there) (eq-or-lt_of_le g'),
      omega (arith, there, high),
    )
  where
    at : (i : ℕ) → suc k ≤ i → i ≤ m → clock i ≡ get_or indices (i - suc k) 0 + 1
    at i g f =
        let same : i ≡ suc (k + (i - suc k)) = omega arith in
        ap clock same ∙ shows.each (i - suc k) (omega (arith, shows.all))

    rises : clock i ≡ get_or indices (i - suc k) 0 + 1 → clock j ≡ get_or indices (j - suc k) 0 + 1 → i < j
        → clock i ≤ clock j
    rises here there l =
        omega (arith, here, there, thins_rise thins (i - suc k) (j - suc k) (omega arith) (omega (arith, shows.all)))

-- ---- runs

module _ (sys : Topology) (x : Location) where
  -- Events of which none names x run at x.
  none_runs : (n : ℕ) (es : List Event) → T (none_own x es) → (s : Local)
      → runs_at sys x (weave_from n es []) s ≡ true
  unfolding none_own runs_at
  none_runs n [] t s = unfold weave_from steps in refl
  none_runs n (e ∷ es) t s =
      let here = foreign_possible sys x e s (and_l (not (own_event x e)) (none_own x es) t) in
      let more = and_r (not (own_event x e)) (none_own x es) t in
      rw (weave_event n 0 e es [] (unfold in_order in tt), here)
      (none_runs (suc n) es more (next_at sys x (event e) s))

  -- An event is passed over, if it is possible and changes nothing and no step is due.
  idle : (n h : ℕ) (e : Event) (es : List Event) (ps : List Step) (s : Local) → T (in_order (suc n) h ps)
      → possible_at sys x (event e) s ≡ true → next_at sys x (event e) s ≡ s
      → runs_at sys x (weave_from n (e ∷ es) ps) s ≡ runs_at sys x (weave_from (suc n) es ps) s
  unfolding runs_at
  idle n h e es ps s t can same = rw (weave_event n h e es ps t, can, same)

  module _ (clock : ℕ → ℕ) (m : ℕ) where
    -- The retimed steps woven with all events run as the steps woven with the kept ones.
    abbrev Alike : ℕ → List Event → ℕ → List Event → List Step → Local → Type 0
    Alike n es k kept ps s =
        runs_at sys x (weave_from n es (map (timed clock) ps)) s ≡ runs_at sys x (weave_from k kept ps) s

    -- If that is so of the schedules in order with no step due, it is so of those with some.
    alike_due : (n : ℕ) (es : List Event) (k : ℕ) (kept : List Event) → clock k ≡ n
        → ((ps : List Step) → T (in_order (suc k) m ps) → (s : Local) → Alike n es k kept ps s)
        → (ps : List Step) → T (in_order k m ps) → (s : Local) → Alike n es k kept ps s
    unfolding in_order runs_at
    alike_due n es k kept now alike [] t s = alike [] tt s
    alike_due n es k kept now alike (p ∷ ps) t s =
        let o = (in_order_cons k m p ps).0 t in
        ⊎_elim
        (λ e. first e (alike_due n es k kept now alike ps (rw (← e) at o.2)))
        (λ l. alike (p ∷ ps) ((in_order_cons (suc k) m p ps).1 (l, o.1, o.2)) s)
        (eq-or-lt_of_le o.0)
      where
        first : k ≡ p.before → ((s : Local) → Alike n es k kept ps s) → Alike n es k kept (p ∷ ps) s
        first e more =
            let a = silent (silent_of p) in
            let due : clock p.before ≤ n = omega (arith, ap clock e, now) in
            let woven = weave_due n es (timed clock p) (map (timed clock) ps) due in
            rw (woven, weave_due k kept p ps (omega arith), timed_silent clock p)
            (ap (◌&&◌ (possible_at sys x a s)) (more (next_at sys x a s)))

    -- It is so of the kept events, where no step is due: steps come right after a kept event.
    thins_alike : {begun : Bool} {n : ℕ} {es kept : List Event} {indices : List ℕ} → Thins x begun n es kept indices
        → (k : ℕ) → Shows clock k m kept indices
        → (ps : List Step) → T (in_order (suc k) m ps) → (s : Local) → From sys x begun s
        → Alike n es k kept ps s
    unfolding runs_at
    thins_alike {n} (rest {es} none) k shows [] t s from =
        none_runs n es none s ∙ unfold weave_from steps in refl
    thins_alike (rest none) k shows (p ∷ ps) t s from =
        let o = (in_order_cons (suc k) m p ps).0 t in
        absurd (omega (arith, o.0, o.1, shows.all))
    thins_alike {n} (keep {begun} {e} {es} {kept} here h) k shows ps t s from =
        let order = timed_in_order clock (suc k) m (suc n) (n + length (e ∷ es))
        (shows_steady clock k m (keep {begun = begun} here h) shows) ps t in
        let later = shows_rest clock k m shows in
        let more = alike_due (suc n) es (suc k) kept (shows_first clock k m shows)
        (λ qs u r. thins_alike h (suc k) later qs u r tt)
        ps t (next_at sys x (event e) s) in
        rw (weave_event n (n + length (e ∷ es)) e es (map (timed clock) ps) order, weave_event k m e kept ps t)
        (ap (◌&&◌ (possible_at sys x (event e) s)) more)
    thins_alike {n} (skip {begun} {e} {es} none h) k shows ps t s from =
        let order = timed_in_order clock (suc k) m (suc n) (n + length (e ∷ es))
        (shows_steady clock k m (skip none h) shows) ps t in
        let (here, can, same) = left_out sys x begun e none from still in
        idle n (n + length (e ∷ es)) e es (map (timed clock) ps) s order can same
        ∙ thins_alike h k shows ps t s from

-- ---- schedules

module _ {x : Location} {es kept : List Event} {indices : List ℕ} (thinned : Thinned x es kept indices) where
  -- The places right after the kept events are a clock for them.
  pub shows_places : Shows (place_after indices) 0 (length kept) kept indices
  shows_places =
      record {
        all = omega arith;
        each = λ j l. let same : suc (0 + j) - 1 ≡ j = omega arith in ap (λ (i : ℕ). get_or indices i 0 + 1) same;
      }

  -- The retimed steps are in order, if no step is before the first kept event.
  pub thinned_in_order : (ps : List Step) → T (in_order 1 (length kept) ps)
      → T (in_order 0 (length es) (retimed indices ps))
  unfolding retimed
  thinned_in_order ps t =
      let all : 0 + length es ≡ length es = omega arith in
      rw all at
      (in_order_lower 0 1 (0 + length es) (map (timed (place_after indices)) ps) (omega arith)
      (timed_in_order (place_after indices) 1 (length kept) 1 (0 + length es)
      (shows_steady (place_after indices) 0 (length kept) thinned shows_places) ps t))

  -- Woven with all events they run at x as the steps do, woven with the kept ones.
  pub thinned_weave : (sys : Topology) (ps : List Step) → T (in_order 1 (length kept) ps)
      → runs_at sys x (weave es (retimed indices ps)) (start_at sys x)
      ≡ runs_at sys x (weave kept ps) (start_at sys x)
  unfolding weave retimed
  thinned_weave sys ps t =
      thins_alike sys x (place_after indices) (length kept) thinned 0 shows_places ps t (start_at sys x) refl

-- Each retimed step is one of the steps, with its place.
pub retimed_member : (indices : List ℕ) (ps : List Step) (p : Step) → Memᴰ p (retimed indices ps)
    → (q : Step) × Memᴰ q ps × (timed (place_after indices) q ≡ p)
unfolding retimed
retimed_member indices ps p i = Memᴰ.of_map (timed (place_after indices)) ps i
