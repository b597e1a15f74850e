-- What makes a schedule of one location the shortest, step by step: how many silent steps suffice, by what comes first
-- (Bellman's equation); the choice, at each gap, of the least step that is worth it, or else of the event; and one
-- shortest schedule after another, where the state between them is known.
use Prim.Native.Nat.{ℕ, suc, suc-le-suc, zero-le, ◌+◌, ◌-◌, ◌≤◌, ◌<◌}
use native.Mathlib.Nat.{le_refl, le_trans, le_of_eq}
use native.Mathlib.Decide.{dec_le}
use native.Mathlib.Omega.{arith}
use mathlib.Core.Path.{◌≡◌, refl, sym, ap, ◌∙◌}
use mathlib.Core.Logic.{◌⊎◌, inl, inr, ⊎_elim, ◌↔◌}
use mathlib.Core.List.{List, [], ◌∷◌, ◌++◌, map, append-nil, cons≢nil}
use mathlib.Core.List.Memᴰ
use lib.Dec.{T, eqb_refl}
use lib.ListN.{length, length-append}
use Rattle.model.specs.Cxl0.{Machine, Location, Topology, Event, Silent}
use Rattle.model.specs.Cxl0.{Action, event, silent, events, silents}
use Rattle.model.specs.Schedule.{Step, silent_of, due, later, steps, weave_from, schedule_from, in_order}
use Rattle.model.specs.OneLocation.{Local, silent_at, site_of, enabled_at, effect, possible_at, next_at}
use Rattle.model.specs.OneLocation.{runs_at, after_at, HasRunAt}
use Rattle.model.specs.Shortest.{Smaller}
use Rattle.model.specs.ShortestAt.{RunOf, Within, ShortestFrom, ends_in_event, KnownAfter}
use Rattle.model.proofs.Weaving.{in_order_cons, schedule_from_in_order, weave_due, weave_event}
use Rattle.model.proofs.Steps.{in_order_lower, in_order_append, silent_at_silent_of}
use Rattle.model.proofs.Smallest.{smaller_nil, smaller_append, length_weave_from, shortest_run_of}
use Rattle.model.proofs.Smallest.{shortest_schedule}
use Rattle.model.proofs.RunsOf.{own_step, length_silents, schedule_from_append, length_schedule_from}
use Rattle.model.proofs.RunsOf.{ends_nil, ends_behind, run_of_nil, run_of_event, run_of_step}
use Rattle.model.proofs.RunsOf.{run_of_none, event_first, step_first, named_step, weave_run_of, run_of_append}
use Rattle.model.proofs.RunsOf.{after_at_append, Halves, halves, last_event}

module _ (sys : Topology) (x : Location) where
  -- ---- how many silent steps suffice

  -- Where some suffice, more do.
  pub within_more : {es : List Event} {s : Local} {l m : ℕ} → Within sys x es s l → l ≤ m → Within sys x es s m
  within_more w h = (w.0, w.1, le_trans w.2 h)

  -- For no events none are needed.
  pub within_nil : {s : Local} → Within sys x [] s 0
  unfolding silents
  within_nil = ([], run_of_nil sys x, zero-le)

  -- First the event, if it is possible.
  pub within_event : {e : Event} {es : List Event} {s : Local} {l : ℕ} → T (possible_at sys x (event e) s)
      → Within sys x es (next_at sys x (event e) s) l → Within sys x (e ∷ es) s l
  unfolding silents
  within_event {e} can w = (event e ∷ w.0, run_of_event sys x can w.1, w.2)

  -- First a silent step of x, if it is enabled.
  pub within_step : {es : List Event} {s : Local} {l : ℕ} (a : Silent)
      → T (silent_at x a) → T (enabled_at (site_of sys x) (silent a) s)
      → Within sys x es (effect (site_of sys x) (silent a) s) l → Within sys x es s (suc l)
  unfolding silents
  within_step a here can w = (silent a ∷ w.0, run_of_step sys x here can w.1, suc-le-suc w.2)

  -- There is no other way: first comes the event, or a silent step of x behind which one fewer suffices.
  pub within_first : {e : Event} {es : List Event} {s : Local} {l : ℕ} → Within sys x (e ∷ es) s l
      → (T (possible_at sys x (event e) s) × Within sys x es (next_at sys x (event e) s) l)
      ⊎ ((a : Silent)
      × (k : ℕ)
      × T (silent_at x a)
      × T (enabled_at (site_of sys x) (silent a) s)
      × (l ≡ suc k)
      × Within sys x (e ∷ es) (effect (site_of sys x) (silent a) s) k)
  unfolding silents
  within_first (([], r, h)) = absurd (run_of_none sys x r)
  within_first ((event d ∷ acts, r, h)) =
      let f = event_first sys x r in
      inl (f.1, (acts, f.2, h))
  within_first {l = l} ((silent a ∷ acts, r, h)) =
      let f = step_first sys x r in
      inr (a, l - 1, f.0, f.1, omega arith, (acts, f.2, omega arith))

  -- The events have a run exactly if some number of silent steps suffices.
  pub has_run_within : {es : List Event} {s : Local} → HasRunAt sys x es s ↔ ((l : ℕ) × Within sys x es s l)
  has_run_within = (
    λ r. (length (silents r.0), (r.0, record { of = r.1; own = r.2; runs = r.3 }, le_refl _)),
    λ w. let r = w.1.1 in (w.1.0, r.of, r.own, r.runs),
  )

  -- As many suffice as the shortest schedule has steps, and no fewer.
  pub shortest_within : {n : ℕ} {es : List Event} {s : Local} {ps : List Step} → ShortestFrom sys x n es s ps
      → (l : ℕ) → Within sys x es s l ↔ (length ps ≤ l)
  shortest_within {n} {es} {ps = ps} h l = (
    λ w. le_trans (h.fewest w.0 w.1) w.2,
    λ few. (weave_from n es ps, shortest_run_of h, rw (length_weave_from n es ps) few),
  )

  -- ---- no step

  weave_none : (n : ℕ) (es : List Event) → weave_from n es [] ≡ map event es
  unfolding weave_from due later steps
  weave_none n [] = refl
  weave_none n (e ∷ es) = ap (◌∷◌ (event e)) (weave_none (suc n) es)

  -- If the events run without a silent step, the empty schedule is the shortest.
  pub shortest_free : (n : ℕ) (es : List Event) (s : Local) → T (runs_at sys x (map event es) s)
      → ShortestFrom sys x n es s []
  unfolding in_order
  shortest_free n es s runs =
      record {
        order = tt;
        own = λ p m. absurd (Memᴰ.not-nil m);
        runs = rw (weave_none n es) runs;
        fewest = λ acts r. zero-le;
        smallest = λ acts r e. smaller_nil (schedule_from n acts);
      }

  -- So it is where there are no events.
  pub shortest_nil : (n : ℕ) (s : Local) → ShortestFrom sys x n [] s []
  unfolding runs_at
  shortest_nil n s = shortest_free n [] s tt

  -- ---- first the event

  -- If the event is possible, and no silent step in front of it saves more behind it than it costs, then the shortest
  -- schedule behind the event is the shortest one in front of it.
  pub shortest_event : (n : ℕ) (e : Event) (es : List Event) (s : Local) (ps : List Step)
      → T (possible_at sys x (event e) s)
      → ShortestFrom sys x (suc n) es (next_at sys x (event e) s) ps
      → ((a : Silent) → T (silent_at x a) → T (enabled_at (site_of sys x) (silent a) s) → (l : ℕ) → suc l ≤ length ps
      → ¬ Within sys x (e ∷ es) (effect (site_of sys x) (silent a) s) l)
      → ShortestFrom sys x n (e ∷ es) s ps
  unfolding silents schedule_from
  shortest_event n e es s ps can h none =
      record {
        order = in_order_lower n (suc n) _ ps (omega arith) (rw upto at h.order);
        own = h.own;
        runs = rw (weave_event n _ e es ps h.order) (run_of_event sys x can (shortest_run_of h)).runs;
        fewest = fewest;
        smallest = smallest;
      }
    where
      upto : suc n + length es ≡ n + length (e ∷ es)
      upto = omega arith

      -- A run that begins with a silent step has more of them.
      more : (a : Silent) (acts : List Action) → RunOf sys x (e ∷ es) s (silent a ∷ acts)
          → length ps ≤ length (silents acts)
      more a acts r =
          let f = step_first sys x r in
          elim (dec_le (length ps) (length (silents acts))) [
            | yes b ↦ b
            | no b ↦ absurd (none a f.0 f.1 (length (silents acts)) (omega arith) (acts, f.2, le_refl _))
          ]

      fewest : (acts : List Action) → RunOf sys x (e ∷ es) s acts → length ps ≤ length (silents acts)
      fewest [] r = absurd (run_of_none sys x r)
      fewest (event d ∷ acts) r = h.fewest acts (event_first sys x r).2
      fewest (silent a ∷ acts) r = omega (arith, more a acts r)

      smallest : (acts : List Action) → RunOf sys x (e ∷ es) s acts → length (silents acts) ≡ length ps
          → ¬ Smaller (schedule_from n acts) ps
      smallest [] r same = absurd (run_of_none sys x r)
      smallest (event d ∷ acts) r same = h.smallest acts (event_first sys x r).2 same
      smallest (silent a ∷ acts) r same = absurd (omega (arith, more a acts r))

  -- ---- first a silent step

  -- Steps that all come later are not smaller than steps of which the first comes now.
  later_not_smaller : (n m : ℕ) (qs : List Step) → T (in_order (suc n) m qs) → (i : Machine) (ps : List Step)
      → ¬ Smaller qs (own_step x n i ∷ ps)
  unfolding Smaller
  later_not_smaller n m [] order i ps h = h
  later_not_smaller n m (q ∷ qs) order i ps h =
      let o = (in_order_cons (suc n) m q qs).0 order in
      ⊎_elim
      (⊎_elim (λ l. omega arith) (λ l. omega (arith, o.0, l.0)))
      (λ l. omega (arith, o.0, ap (λ (p : Step). p.before) l.0))
      h

  -- Of two schedules whose first step comes now the one with the lesser machine is smaller, or, if the first steps are
  -- the same, the one with the smaller rest.
  smaller_own : (n : ℕ) (j i : Machine) (qs ps : List Step) → Smaller (own_step x n j ∷ qs) (own_step x n i ∷ ps)
      → (j < i) ⊎ ((j ≡ i) × Smaller qs ps)
  unfolding Smaller
  smaller_own n j i qs ps =
      ⊎_elim
      (⊎_elim (λ b. absurd (omega arith)) (λ l. ⊎_elim (λ y. absurd (omega arith)) (λ m. inl m.1) l.1))
      (λ e. inr (ap (λ (p : Step). p.machine) e.0, e.1))

  -- If the step by i is enabled, and as many steps as the shortest schedule behind it has suffice neither here nor
  -- behind a step by a lesser machine, then the step and that schedule are the shortest schedule.
  pub shortest_step : (n : ℕ) (es : List Event) (s : Local) (i : Machine) (ps : List Step)
      → T (enabled_at (site_of sys x) (silent (silent_of (own_step x n i))) s)
      → ShortestFrom sys x n es (effect (site_of sys x) (silent (silent_of (own_step x n i))) s) ps
      → ¬ Within sys x es s (length ps)
      → ((j : Machine) → j < i → T (enabled_at (site_of sys x) (silent (silent_of (own_step x n j))) s)
      → ¬ Within sys x es (effect (site_of sys x) (silent (silent_of (own_step x n j))) s) (length ps))
      → ShortestFrom sys x n es s (own_step x n i ∷ ps)
  unfolding silents schedule_from
  shortest_step n es s i ps can h none least =
      record {
        order = (in_order_cons n (n + length es) (own_step x n i) ps).1 (le_refl n, omega arith, h.order);
        own = λ p m. ⊎_elim (ap (λ (q : Step). q.location)) (h.own p) (Memᴰ.cases_cons m);
        runs = rw (weave_due n es (own_step x n i) ps (le_refl n))
            (run_of_step sys x here can (shortest_run_of h)).runs;
        fewest = fewest;
        smallest = smallest;
      }
    where
      here : T (silent_at x (silent_of (own_step x n i)))
      here = rw (silent_at_silent_of x x n i) (eqb_refl x)

      fewest : (acts : List Action) → RunOf sys x es s acts → suc (length ps) ≤ length (silents acts)
      fewest acts r =
          elim (dec_le (length (silents acts)) (length ps)) [
            | yes b ↦ absurd (none (acts, r, b))
            | no b ↦ omega arith
          ]

      -- A run that begins with a step by j has no smaller schedule.
      by : (j : Machine) (acts : List Action) → T (enabled_at (site_of sys x) (silent (silent_of (own_step x n j))) s)
          → RunOf sys x es (effect (site_of sys x) (silent (silent_of (own_step x n j))) s) acts
          → length (silents acts) ≡ length ps → ¬ Smaller (own_step x n j ∷ schedule_from n acts) (own_step x n i ∷ ps)
      by j acts enabled r same small =
          ⊎_elim
          (λ l. least j l enabled (acts, r, le_of_eq same))
          (λ e. h.smallest acts (rw e.0 at r) same e.1)
          (smaller_own n j i (schedule_from n acts) ps small)

      smallest : (acts : List Action) → RunOf sys x es s acts → length (silents acts) ≡ suc (length ps)
          → ¬ Smaller (schedule_from n acts) (own_step x n i ∷ ps)
      smallest [] r same = absurd (omega arith)
      smallest (event d ∷ acts) r same =
          let order = schedule_from_in_order (suc n) (suc n) _ acts (le_refl _) (le_refl _) in
          later_not_smaller n _ (schedule_from (suc n) acts) order i ps
      smallest (silent a ∷ acts) r same =
          let f = step_first sys x r in
          let name = named_step sys x n a s f.0 f.1 in
          rw name.1 (by name.0 acts (rw (← name.2) f.1) (rw (← name.2) f.2) (omega arith))

  -- ---- the known state

  -- In front of the first event the state is known.
  pub known_nil : {s s' : Local} → s' ≡ s → KnownAfter sys x [] s s'
  unfolding after_at
  known_nil e acts r t = rw (ends_nil acts r.of t) (sym e)

  -- It is known behind an event if the event leads to it from the end of every run of those before.
  pub known_last : (es : List Event) (e : Event) {s s' : Local}
      → ((acts : List Action) → RunOf sys x es s acts → T (possible_at sys x (event e) (after_at sys x acts s))
      → next_at sys x (event e) (after_at sys x acts s) ≡ s')
      → KnownAfter sys x (es ++ e ∷ []) s s'
  known_last es e {s} same acts r t =
      let l = last_event sys x acts es e s r t in
      l.leads ∙ same l.front l.begins l.can

  -- It is known behind more events if they lead on from a known state to a known state.
  pub known_append : {es fs : List Event} {s s' s'' : Local} → KnownAfter sys x es s s' → KnownAfter sys x fs s' s''
      → KnownAfter sys x (es ++ fs) s s''
  known_append {es} {fs} {s} known more acts r t =
      let k = halves sys x es fs s acts r in
      let there = known k.front k.begins k.ends in
      rw (k.whole, after_at_append sys x k.front k.back s, there)
      (more k.back (rw there at k.goes_on) (ends_behind k.front k.back (rw k.whole at t)))

  -- ---- one shortest schedule after another

  -- A list without events and silent steps is empty.
  no_action : (acts : List Action) → events acts ≡ [] → length (silents acts) ≡ 0 → acts ≡ []
  unfolding events silents
  no_action [] p q = refl
  no_action (event e ∷ acts) p q = absurd (cons≢nil p)
  no_action (silent a ∷ acts) p q = absurd (omega arith)

  -- The weaving of the shortest schedule ends with the last event: a silent step behind it would be one too many.
  pub shortest_ends : {n : ℕ} {es : List Event} {s : Local} {ps : List Step} → ShortestFrom sys x n es s ps
      → T (ends_in_event (weave_from n es ps))
  shortest_ends {n} {es} {s} {ps} h =
      let acts = weave_from n es ps in
      let run : RunOf sys x (es ++ []) s acts = rw (append-nil es) (shortest_run_of h) in
      let parts = halves sys x es [] s acts run in
      let few = h.fewest parts.front parts.begins in
      let all = ap (λ (l : List Action). length (silents l)) parts.whole in
      let sum = length_silents parts.front parts.back in
      let none : length (silents parts.back) ≡ 0 = omega (arith, length_weave_from n es ps) in
      rw (parts.whole, no_action parts.back parts.goes_on.of none, append-nil parts.front) parts.ends

  -- Where the state between them is known, one shortest schedule after another is the shortest one of all events.
  pub shortest_append : {n : ℕ} {es fs : List Event} {s s' : Local} {ps qs : List Step} → KnownAfter sys x es s s'
      → ShortestFrom sys x n es s ps → ShortestFrom sys x (n + length es) fs s' qs
      → ShortestFrom sys x n (es ++ fs) s (ps ++ qs)
  shortest_append {n} {es} {fs} {s} {s'} {ps} {qs} known h g =
      record {
        order = in_order_append n (n + length es) (n + length (es ++ fs)) ps qs (omega arith)
            (omega (arith, length-append es fs)) h.order (rw upto at g.order);
        own = λ p m. ⊎_elim (h.own p) (g.own p) (Memᴰ.append_cases ps m);
        runs = rw woven run.runs;
        fewest = fewest;
        smallest = smallest;
      }
    where
      upto : n + length es + length fs ≡ n + length (es ++ fs)
      upto = omega (arith, length-append es fs)

      front : List Action
      front = weave_from n es ps

      back : List Action
      back = weave_from (n + length es) fs qs

      leads : after_at sys x front s ≡ s'
      leads = known front (shortest_run_of h) (shortest_ends h)

      run : RunOf sys x (es ++ fs) s (front ++ back)
      run = run_of_append sys x (shortest_run_of h) (rw leads (shortest_run_of g))

      -- The schedule of a run in two halves.
      in_turn : (k l : List Action) → events k ≡ es
          → schedule_from n (k ++ l) ≡ schedule_from n k ++ schedule_from (n + length es) l
      in_turn k l e = rw (← e) (schedule_from_append n k l)

      schedule : schedule_from n (front ++ back) ≡ ps ++ qs
      schedule = rw (in_turn front back (shortest_run_of h).of, shortest_schedule h, shortest_schedule g)

      woven : weave_from n (es ++ fs) (ps ++ qs) ≡ front ++ back
      woven = rw (← schedule) (weave_run_of sys x n run)

      -- The second half of any run is a run from the known state.
      behind : {acts : List Action} (k : Halves sys x es fs s acts) → RunOf sys x fs s' k.back
      behind k = rw (known k.front k.begins k.ends) at k.goes_on

      count : {acts : List Action} (k : Halves sys x es fs s acts)
          → length (silents acts) ≡ length (silents k.front) + length (silents k.back)
      count k = ap (λ (l : List Action). length (silents l)) k.whole ∙ length_silents k.front k.back

      fewest : (acts : List Action) → RunOf sys x (es ++ fs) s acts → length (ps ++ qs) ≤ length (silents acts)
      fewest acts r =
          let k = halves sys x es fs s acts r in
          let few = h.fewest k.front k.begins in
          let few' = g.fewest k.back (behind k) in
          omega (arith, count k, length-append ps qs)

      smallest : (acts : List Action) → RunOf sys x (es ++ fs) s acts → length (silents acts) ≡ length (ps ++ qs)
          → ¬ Smaller (schedule_from n acts) (ps ++ qs)
      smallest acts r same small =
          let k = halves sys x es fs s acts r in
          let few = h.fewest k.front k.begins in
          let few' = g.fewest k.back (behind k) in
          let all = count k in
          let sum = length-append ps qs in
          let first : length (silents k.front) ≡ length ps = omega arith in
          let second : length (silents k.back) ≡ length qs = omega arith in
          let sized = length_schedule_from n k.front ∙ first in
          ⊎_elim
          (h.smallest k.front k.begins first)
          (λ e. g.smallest k.back (behind k) second e.1)
          ((smaller_append (schedule_from n k.front) ps (schedule_from (n + length es) k.back) qs sized).0
          (rw (k.whole, in_turn k.front k.back k.begins.of) at small))
