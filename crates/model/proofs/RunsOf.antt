-- Runs of events at one location: action by action, one after another, and where a run of events and more events falls
-- apart.
use Prim.Native.Nat.{ℕ, zero, suc, ◌+◌}
use native.Mathlib.Nat.{le_refl, le_of_eq}
use native.Mathlib.Omega.{arith}
use mathlib.Core.Path.{◌≡◌, refl, sym, ap, ◌∙◌}
use mathlib.Core.Bool.{not, ◌&&◌, and_assoc}
use mathlib.Core.List.{List, [], ◌∷◌, ◌++◌, nil≢cons, cons≢nil, head-eq_of_cons-eq, tail-eq_of_cons-eq}
use lib.Dec.{T, eqb, eqb→eq}
use lib.ListN.{length}
use Rattle.model.specs.Cxl0.{Machine, Location, Topology, Event, Silent, Propagate, WriteBack}
use Rattle.model.specs.Cxl0.{Action, event, silent, events, silents}
use Rattle.model.specs.Schedule.{Step, silent_of, step_of, steps, weave_from, schedule_from}
use Rattle.model.specs.Sharers.{has}
use Rattle.model.specs.OneLocation.{Local, silent_at, site_of, enabled_at, effect, possible_at, next_at}
use Rattle.model.specs.OneLocation.{runs_at, after_at, own_steps}
use Rattle.model.specs.ShortestAt.{RunOf, ends_in_event}
use Rattle.model.proofs.Tests.{and_i, and_l, and_r}
use Rattle.model.proofs.Goes.{events_append}
use Rattle.model.proofs.Gaps.{own_possible, own_next}
use Rattle.model.proofs.Weaving.{before_step_of, schedule_from_in_order, weave_due, weave_event}

-- ---- lists of actions

-- The step of x with this machine (0: write-back) when n events have passed.
abbrev pub own_step : Location → ℕ → Machine → Step
own_step x n i = record { before = n; location = x; machine = i }

-- Two lists have as many silent steps as both together.
pub length_silents : (k l : List Action) → length (silents (k ++ l)) ≡ length (silents k) + length (silents l)
unfolding silents
length_silents [] l = omega arith
length_silents (event e ∷ k) l = length_silents k l
length_silents (silent a ∷ k) l = omega (arith, length_silents k l)

-- The schedule of one list after another is one schedule after another.
pub schedule_from_append : (n : ℕ) (k l : List Action)
    → schedule_from n (k ++ l) ≡ schedule_from n k ++ schedule_from (n + length (events k)) l
unfolding schedule_from events
schedule_from_append n [] l = ap (λ (m : ℕ). schedule_from m l) (omega arith)
schedule_from_append n (event e ∷ k) l =
    schedule_from_append (suc n) k l ∙ ap (λ (m : ℕ). schedule_from (suc n) k ++ schedule_from m l) (omega arith)
schedule_from_append n (silent a ∷ k) l = ap (◌∷◌ (step_of n a)) (schedule_from_append n k l)

-- The schedule of a list has as many steps as the list has silent steps.
pub length_schedule_from : (n : ℕ) (acts : List Action) → length (schedule_from n acts) ≡ length (silents acts)
unfolding schedule_from silents
length_schedule_from n [] = refl
length_schedule_from n (event e ∷ acts) = length_schedule_from (suc n) acts
length_schedule_from n (silent a ∷ acts) = ap suc (length_schedule_from n acts)

-- A silent step in front of a list that has an event leaves the end as it is.
ends_more : (a : Silent) (acts : List Action) {e : Event} {es : List Event} → events acts ≡ e ∷ es
    → T (ends_in_event acts) → T (ends_in_event (silent a ∷ acts))
unfolding ends_in_event events
ends_more a [] p t = absurd (nil≢cons p)
ends_more a (b ∷ acts) p t = t

ends_less : (a : Silent) (acts : List Action) → T (ends_in_event (silent a ∷ acts)) → T (ends_in_event acts)
unfolding ends_in_event
ends_less a [] t = tt
ends_less a (b ∷ acts) t = t

-- The second of two lists ends as both together do.
pub ends_behind : (k l : List Action) → T (ends_in_event (k ++ l)) → T (ends_in_event l)
unfolding ends_in_event
ends_behind [] l t = t
ends_behind (event e ∷ k) l t = ends_behind k l t
ends_behind (silent a ∷ k) l t = ends_behind k l (ends_less a (k ++ l) t)

-- A list without events whose last action is an event is empty.
pub ends_nil : (acts : List Action) → events acts ≡ [] → T (ends_in_event acts) → acts ≡ []
unfolding events ends_in_event
ends_nil [] p t = refl
ends_nil (event e ∷ acts) p t = absurd (cons≢nil p)
ends_nil (silent a ∷ []) p t = absurd t
ends_nil (silent a ∷ b ∷ acts) p t = absurd (cons≢nil (ends_nil (b ∷ acts) p t))

module _ (sys : Topology) (x : Location) where
  -- ---- action by action

  pub run_of_nil : {s : Local} → RunOf sys x [] s []
  unfolding events own_steps runs_at
  run_of_nil = record { of = refl; own = tt; runs = tt }

  -- An event in front of a run.
  pub run_of_event : {e : Event} {es : List Event} {s : Local} {acts : List Action} → T (possible_at sys x (event e) s)
      → RunOf sys x es (next_at sys x (event e) s) acts → RunOf sys x (e ∷ es) s (event e ∷ acts)
  unfolding events own_steps runs_at
  run_of_event {e} {s = s} {acts = acts} can r =
      record {
        of = ap (◌∷◌ e) r.of;
        own = r.own;
        runs = and_i (possible_at sys x (event e) s) (runs_at sys x acts (next_at sys x (event e) s)) can r.runs;
      }

  -- A silent step of x in front of a run.
  pub run_of_step : {a : Silent} {es : List Event} {s : Local} {acts : List Action}
      → T (silent_at x a) → T (enabled_at (site_of sys x) (silent a) s)
      → RunOf sys x es (effect (site_of sys x) (silent a) s) acts → RunOf sys x es s (silent a ∷ acts)
  unfolding events own_steps runs_at
  run_of_step {a} {s = s} {acts = acts} here can r =
      record {
        of = r.of;
        own = and_i (silent_at x a) (own_steps x acts) here r.own;
        runs = and_i (possible_at sys x (silent a) s) (runs_at sys x acts (next_at sys x (silent a) s))
            (rw (own_possible sys x a s here) can)
            (rw (own_next sys x a s here) r.runs);
      }

  -- No run of an event is empty.
  pub run_of_none : {e : Event} {es : List Event} {s : Local} → ¬ RunOf sys x (e ∷ es) s []
  unfolding events
  run_of_none r = nil≢cons r.of

  -- A run that begins with an event: it is the first event, it is possible, and the rest runs after it.
  pub event_first : {d e : Event} {es : List Event} {s : Local} {acts : List Action}
      → RunOf sys x (e ∷ es) s (event d ∷ acts)
      → (d ≡ e) × T (possible_at sys x (event e) s) × RunOf sys x es (next_at sys x (event e) s) acts
  unfolding events own_steps runs_at
  event_first {d} {s = s} {acts = acts} r =
      let can = possible_at sys x (event d) s in
      let rest = runs_at sys x acts (next_at sys x (event d) s) in
      let same = head-eq_of_cons-eq r.of in (
        same,
        rw (← same) (and_l can rest r.runs),
        rw (← same) (record { of = tail-eq_of_cons-eq r.of; own = r.own; runs = and_r can rest r.runs }),
      )

  -- A run that begins with a silent step: it is one of x, it is enabled, and the rest runs after it.
  pub step_first : {a : Silent} {es : List Event} {s : Local} {acts : List Action} → RunOf sys x es s (silent a ∷ acts)
      → T (silent_at x a)
      × T (enabled_at (site_of sys x) (silent a) s)
      × RunOf sys x es (effect (site_of sys x) (silent a) s) acts
  unfolding events own_steps runs_at
  step_first {a} {s = s} {acts = acts} r =
      let here = and_l (silent_at x a) (own_steps x acts) r.own in
      let can = possible_at sys x (silent a) s in
      let rest = runs_at sys x acts (next_at sys x (silent a) s) in (
        here,
        rw (own_possible sys x a s here) at (and_l can rest r.runs),
        record {
          of = r.of;
          own = and_r (silent_at x a) (own_steps x acts) r.own;
          runs = rw (own_next sys x a s here) at (and_r can rest r.runs);
        },
      )

  -- ---- a run is its events woven with its schedule

  -- An enabled silent step of x is the one that its machine's number names: machine 0, which means write-back, never
  -- propagates.
  pub named_step : (n : ℕ) (a : Silent) (s : Local) → T (silent_at x a) → T (enabled_at (site_of sys x) (silent a) s)
      → (j : Machine) × (step_of n a ≡ own_step x n j) × (a ≡ silent_of (own_step x n j))
  unfolding silent_at enabled_at has step_of silent_of
  named_step n (Propagate zero y) s here can =
      absurd (and_r (not (eqb zero (site_of sys x).owner)) (has zero s.code) can)
  named_step n (Propagate (suc i) y) s here can =
      let same = sym (eqb→eq x y here) in
      (suc i, λ k. own_step (same k) n (suc i), λ k. Propagate (suc i) (same k))
  named_step n (WriteBack y) s here can =
      let same = sym (eqb→eq x y here) in
      (0, λ k. own_step (same k) n 0, λ k. WriteBack (same k))

  weave_back : (n : ℕ) (acts : List Action) (s : Local) → RunOf sys x (events acts) s acts
      → weave_from n (events acts) (schedule_from n acts) ≡ acts
  unfolding events schedule_from
  weave_back n [] s r = unfold weave_from steps in refl
  weave_back n (event e ∷ acts) s r =
      let m = suc n + length (events acts) in
      let none_due = schedule_from_in_order (suc n) (suc n) m acts (le_refl _) (le_refl _) in
      rw (weave_event n m e _ _ none_due, weave_back (suc n) acts _ (event_first r).2)
  weave_back n (silent a ∷ acts) s r =
      let f = step_first r in
      let name = named_step n a s f.0 f.1 in
      weave_due n _ (step_of n a) _ (le_of_eq (before_step_of n a))
      ∙ rw (name.1, ← name.2, weave_back n acts _ f.2)

  -- Weaving the events of a run at x with its schedule gives the run back.
  pub weave_run_of : {es : List Event} {s : Local} {acts : List Action} (n : ℕ) → RunOf sys x es s acts
      → weave_from n es (schedule_from n acts) ≡ acts
  weave_run_of {s = s} {acts} n r = rw (← r.of) (weave_back n acts s (rw r.of r))

  -- ---- one run after another

  -- The second list leads on from the short form that the first leads to.
  pub after_at_append : (k l : List Action) (s : Local)
      → after_at sys x (k ++ l) s ≡ after_at sys x l (after_at sys x k s)
  unfolding after_at
  after_at_append [] l s = refl
  after_at_append (a ∷ k) l s = after_at_append k l (next_at sys x a s)

  -- Both run, the second from the short form that the first leads to.
  pub runs_at_append : (k l : List Action) (s : Local)
      → runs_at sys x (k ++ l) s ≡ (runs_at sys x k s && runs_at sys x l (after_at sys x k s))
  unfolding runs_at after_at
  runs_at_append [] l s = refl
  runs_at_append (a ∷ k) l s =
      let then = next_at sys x a s in
      let last = runs_at sys x l (after_at sys x k then) in
      rw (runs_at_append k l then, and_assoc (possible_at sys x a s) (runs_at sys x k then) last)

  pub own_steps_append : (k l : List Action) → own_steps x (k ++ l) ≡ (own_steps x k && own_steps x l)
  unfolding own_steps
  own_steps_append [] l = refl
  own_steps_append (event e ∷ k) l = own_steps_append k l
  own_steps_append (silent a ∷ k) l =
      rw (own_steps_append k l, and_assoc (silent_at x a) (own_steps x k) (own_steps x l))

  -- A run that goes on from where another one leads.
  pub run_of_append : {es fs : List Event} {s : Local} {k l : List Action} → RunOf sys x es s k
      → RunOf sys x fs (after_at sys x k s) l → RunOf sys x (es ++ fs) s (k ++ l)
  run_of_append {s = s} {k} {l} p q =
      record {
        of = rw (events_append k l, p.of, q.of);
        own = rw (own_steps_append k l) (and_i (own_steps x k) (own_steps x l) p.own q.own);
        runs = rw (runs_at_append k l s) (and_i (runs_at sys x k s) _ p.runs q.runs);
      }

  -- A run of the events es and then fs falls apart right after the last of es.
  pub record Halves (es fs : List Event) (s : Local) (acts : List Action) : Type 0 where
    pub front : List Action
    pub back : List Action
    pub whole : acts ≡ front ++ back
    pub ends : T (ends_in_event front)
    pub begins : RunOf sys x es s front
    pub goes_on : RunOf sys x fs (after_at sys x front s) back

  pub halves : (es fs : List Event) (s : Local) (acts : List Action) → RunOf sys x (es ++ fs) s acts
      → Halves es fs s acts
  unfolding ends_in_event after_at
  halves [] fs s acts r =
      record { front = []; back = acts; whole = refl; ends = tt; begins = run_of_nil; goes_on = r }
  halves (e ∷ es) fs s [] r = absurd (run_of_none r)
  halves (e ∷ es) fs s (event d ∷ acts) r =
      let f = event_first r in
      let h = halves es fs (next_at sys x (event e) s) acts f.2 in
      record {
        front = event e ∷ h.front;
        back = h.back;
        whole = λ j. event (f.0 j) ∷ h.whole j;
        ends = h.ends;
        begins = run_of_event f.1 h.begins;
        goes_on = h.goes_on;
      }
  halves (e ∷ es) fs s (silent a ∷ acts) r =
      let f = step_first r in
      let h = halves (e ∷ es) fs (effect (site_of sys x) (silent a) s) acts f.2 in
      record {
        front = silent a ∷ h.front;
        back = h.back;
        whole = ap (◌∷◌ (silent a)) h.whole;
        ends = ends_more a h.front h.begins.of h.ends;
        begins = run_of_step f.0 f.1 h.begins;
        goes_on = rw (own_next sys x a s f.0) h.goes_on;
      }

  -- A run of the events es and then e that ends with e: behind a run of es, e is possible, and leads to the end.
  pub record Last (es : List Event) (e : Event) (s : Local) (acts : List Action) : Type 0 where
    pub front : List Action
    pub begins : RunOf sys x es s front
    pub can : T (possible_at sys x (event e) (after_at sys x front s))
    pub leads : after_at sys x acts s ≡ next_at sys x (event e) (after_at sys x front s)

  pub last_event : (acts : List Action) (es : List Event) (e : Event) (s : Local)
      → RunOf sys x (es ++ e ∷ []) s acts → T (ends_in_event acts) → Last es e s acts
  unfolding ends_in_event after_at
  last_event [] [] e s r t = absurd (run_of_none r)
  last_event [] (c ∷ es) e s r t = absurd (run_of_none r)
  last_event (event d ∷ acts) [] e s r t =
      let f = event_first r in
      record { front = []; begins = run_of_nil; can = f.1; leads = rw (ends_nil acts f.2.of t, f.0) }
  last_event (event d ∷ acts) (c ∷ es) e s r t =
      let f = event_first r in
      let l = last_event acts es e (next_at sys x (event c) s) f.2 t in
      record {
        front = event c ∷ l.front;
        begins = run_of_event f.1 l.begins;
        can = l.can;
        leads = ap (λ (b : Event). after_at sys x acts (next_at sys x (event b) s)) f.0 ∙ l.leads;
      }
  last_event (silent a ∷ acts) es e s r t =
      let f = step_first r in
      let l = last_event acts es e (effect (site_of sys x) (silent a) s) f.2 (ends_less a acts t) in
      let same = own_next sys x a s f.0 in
      record {
        front = silent a ∷ l.front;
        begins = run_of_step f.0 f.1 l.begins;
        can = rw same l.can;
        leads = rw same l.leads;
      }
