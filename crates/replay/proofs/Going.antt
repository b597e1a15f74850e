-- How a replay goes on: what is next in the log and the schedule, and what it comes to.
use Prim.Native.Nat.{ℕ, zero, suc, ◌+◌, ◌≤◌, ◌<◌}
use native.Mathlib.Numerals.{add-one}
use native.Mathlib.Omega.{arith}
use mathlib.Core.Path.{◌≡◌, refl, sym, ap, ◌∙◌, subst}
use mathlib.Core.Logic.{◌≢◌}
use mathlib.Core.Bool.{Bool, true, false, cond}
use mathlib.Core.List.{List, [], ◌∷◌}
use mathlib.Core.Option.{none, some, some-injective}
use lib.Dec.{T}
use lib.ListN.{length, drop}
use Rattle.std.specs.Prelude.{Option, Some, None}
use Rattle.std.specs.Option.{IsSomeAnd}
use Rattle.model.specs.Cxl0 as cxl0
use Rattle.model.specs.Cxl0.{Event, Action, event, silent, Propagate, WriteBack, possible, next}
use Rattle.model.specs.Operations.{is_operation}
use Rattle.model.specs.Schedule.{Step, silent_of, steps, weave_from, in_order}
use Rattle.model.specs.Meaning.{topology_of, within_limits, Outcome, attempt, attempt_event}
use Rattle.model.specs.declared.Topology.{Topology}
use Rattle.model.specs.declared.Event as model
use Rattle.model.proofs.Tests.{T→true}
use Rattle.model.proofs.Weaving.{in_order_cons, weave_due, weave_event}
use Rattle.log_bytes.proofs.Elements.{no_elements}
use Rattle.log_bytes.proofs.Checks.{clash}
use Rattle.log_bytes.specs.Payloads.{Numbers, event_with}
use Rattle.log_bytes.specs.Answers.{numbers_of}
use Rattle.cursors.specs.Cursors.{event_at, Events, next_event}
use Rattle.cursors.proofs.Found.{operation_found}
use Rattle.schedules.specs.Schedules.{step_at, read_steps}
use Rattle.schedules.proofs.Cursor.{walks, stops}
use Rattle.replay.specs.Replaying.{Answer, counted, replay_from}
use Rattle.replay.specs.Places.{taken, Stands, Goes, Takes}
use Rattle.replay.specs.declared.walking.Place.{Place}
use Rattle.replay.specs.declared.walking.Next.{Next}

-- A step of a machine, which is never 0, propagates its copy.
pub propagates : (p : Step) → p.machine ≢ 0 → silent_of p ≡ Propagate p.machine p.location
unfolding silent_of
propagates p h = go p.machine h
  where
    go : (i : ℕ) → i ≢ 0
        → elim i [ zero ↦ WriteBack p.location | suc i ↦ Propagate (suc i) p.location ]
        ≡ Propagate i p.location
    go zero h = absurd (h refl)
    go (suc i) h = refl

-- ---- one action

two_tests : true ≡ false → ⊥
two_tests e = clash (cc)

-- What comes of an action: its test decides between going on and the answer no.
module _ (s : cxl0.State) (more : cxl0.State → Answer) (halt a : Answer) where
  decides : (b : Bool) (o : Outcome) (after : cxl0.State)
      → o ≡ cond b (record { possible = true; state = after }) (record { possible = false; state = s })
      → cond b (more after) halt ≡ a
      → (o.possible ≡ true → more o.state ≡ a) × (o.possible ≡ false → halt ≡ a)
  decides true o after e h =
      (λ _. rw e h, λ f. absurd (two_tests (sym (ap (λ (x : Outcome). x.possible) e) ∙ f)))
  decides false o after e h =
      (λ f. absurd (two_tests (sym f ∙ ap (λ (x : Outcome). x.possible) e)), λ _. h)

-- An action that comes first: replay goes on after it if it is possible, and if not the answer is no.
one_action : (t : Topology) → T (within_limits t)
    → (n : ℕ) (act : Action) (acts : List Action) (s : cxl0.State) (a : Answer) (o : Outcome)
    → replay_from (topology_of t) n (act ∷ acts) s ≡ a → o ≡ attempt t act s
    → (o.possible ≡ true → replay_from (topology_of t) (counted n act) acts o.state ≡ a)
    × (o.possible ≡ false → Answer.no n ≡ a)
unfolding replay_from attempt
one_action t w n act acts s a o e h =
    decides s (replay_from (topology_of t) (counted n act) acts) (Answer.no n) a
    (possible (topology_of t) act s) o (next (topology_of t) act s)
    (rw (T→true {b = within_limits t} w) at h) e

-- ---- what is next

-- What follows from P of a value that is there holds of it.
some_then : {A : Type 0} {P Q : A → Type 0} (r : Option A) → IsSomeAnd r P → ((x : A) → P x → Q x) → IsSomeAnd r Q
some_then None h f = h
some_then (Some x) h f = f x h

-- What is asked of the struct of an event that is found is what is asked of the event.
pub attempted : (t : Topology) (s : List ℕ) (at : ℕ) (d : model.Event) {e : Numbers} {i : ℕ}
    → event_at s at ≡ some (e, i) → numbers_of d ≡ e → (state : cxl0.State)
    → attempt_event t d state ≡ attempt t (event (event_with e)) state
attempted t s at d {e} {i} found same state =
    let known : is_operation d.operation ≡ true =
    ap (λ (x : Numbers). is_operation x.operation) same ∙ operation_found s at e i found in
    rw (known, ← same)

module _ {s f : List ℕ} {t : Topology} {n : ℕ} {a : Answer} {k : ℕ} {x : cxl0.State} {w : Place}
    (g : Stands s f t n a (suc k) x w) where
  -- Where an action is next, and these events and steps come after it, replay goes on from them or stops.
  goes : (act : Action) (es : List Event) (ps : List Step) (i j end least : ℕ) (r : Next)
      → weave_from w.passed g.es g.ps ≡ act ∷ weave_from (counted w.passed act) es ps
      → Events s i es end → read_steps (drop j f) ≡ some ps → length es + length ps ≡ k
      → counted w.passed act + length es ≡ n → T (in_order least n ps)
      → Takes t x act (counted w.passed act) i j r
      → Goes s f t n a k x w r
  goes act es ps i j end least r woven events steps ahead all order takes =
      let answer = rw woven at g.answer in
      let one = one_action t g.limits w.passed act (weave_from (counted w.passed act) es ps)
      x a (taken t r.thing x) answer takes.outcome in
      record {
        on = λ yes. record {
          limits = g.limits;
          es = es;
          ps = ps;
          end = end;
          events = subst (λ (at : ℕ). Events s at es end) (sym takes.event) events;
          steps = rw takes.step steps;
          ahead = ahead;
          all = rw takes.passed all;
          least = least;
          order = order;
          answer = rw takes.passed (one.0 yes);
        };
        stop = λ no. one.1 no;
      }

  -- A step that is due.
  pub step_goes : (p : Step) (j : ℕ) (r : Next) → step_at f w.step ≡ some (p, j) → p.before ≤ w.passed
      → Takes t x (silent (silent_of p)) w.passed w.event j r
      → Goes s f t n a k x w r
  step_goes p j r found due takes = go g.ps refl
    where
      go : (ps : List Step) → g.ps ≡ ps → Goes s f t n a k x w r
      go [] e =
          let last = stops f w.step (rw e at g.steps) in
          clash (cc)
      go (q ∷ qs) e =
          let (first, rest) = walks f w.step (rw e at g.steps) in
          let both = some-injective (q, w.step + 6) (p, j) (sym first ∙ found) in
          let same : q ≡ p = ap (λ (x : Step × ℕ). x.0) both in
          let position : w.step + 6 ≡ j = ap (λ (x : Step × ℕ). x.1) both in
          let order = ((in_order_cons g.least n q qs).0 (rw e at g.order)).2 in
          goes (silent (silent_of p)) g.es qs w.event j g.end q.before r
          (rw (e, same) (weave_due w.passed g.es p qs due))
          g.events (rw (← position) rest) (omega (arith, g.ahead, ap length e)) g.all order takes

  -- The event, where no step is due.
  event_next : T (in_order (suc w.passed) n g.ps) → 1 ≤ length g.es → (r : Option Next)
      → ((e : Numbers) (i : ℕ) → event_at s w.event ≡ some (e, i) → w.passed < n
      → IsSomeAnd r (Takes t x (event (event_with e)) (w.passed + 1) i w.step))
      → IsSomeAnd r (Goes s f t n a k x w)
  event_next later more r takes = go w.event g.es g.end g.events refl refl
    where
      go : (at : ℕ) (es : List Event) (end : ℕ) → Events s at es end → w.event ≡ at → g.es ≡ es
          → IsSomeAnd r (Goes s f t n a k x w)
      go at [] end events x y = absurd (omega (arith, ap length y))
      go at (_ ∷ es) end (next_event e i found events) x y =
          let v = event_with e in
          let low : w.passed < n = omega (arith, g.all) in
          some_then r (takes e i (rw x found) low)
          (λ next takes.
          goes (event v) es g.ps i w.step end g.least next
          (rw y (weave_event w.passed n v es g.ps later))
          events g.steps
          (omega (arith, g.ahead, ap length y)) (omega (arith, g.all, ap length y)) g.order
          (rw add-one at takes))

  -- What the event comes to, where there is one.
  abbrev pub Event-takes : Option Next → Type 0
  Event-takes r =
      (e : Numbers) (i : ℕ) → event_at s w.event ≡ some (e, i) → w.passed < n
      → IsSomeAnd r (Takes t x (event (event_with e)) (w.passed + 1) i w.step)

  -- The event, where the next step comes later.
  pub event_goes : (p : Step) (j : ℕ) (r : Option Next) → step_at f w.step ≡ some (p, j) → w.passed < p.before
      → Event-takes r → IsSomeAnd r (Goes s f t n a k x w)
  event_goes p j r found later takes = go g.ps refl
    where
      go : (ps : List Step) → g.ps ≡ ps → IsSomeAnd r (Goes s f t n a k x w)
      go [] e =
          let last = stops f w.step (rw e at g.steps) in
          clash (cc)
      go (q ∷ qs) e =
          let (first, rest) = walks f w.step (rw e at g.steps) in
          let both = some-injective (q, w.step + 6) (p, j) (sym first ∙ found) in
          let same : q ≡ p = ap (λ (x : Step × ℕ). x.0) both in
          let order = (in_order_cons g.least n q qs).0 (rw e at g.order) in
          let after : suc w.passed ≤ q.before = rw same later in
          event_next (rw e ((in_order_cons (suc w.passed) n q qs).1 (after, order.1, order.2)))
          (omega (arith, g.all, order.1)) r takes

  -- The event, where no step is left.
  pub event_goes_last : (r : Option Next) → step_at f w.step ≡ none → Event-takes r
      → IsSomeAnd r (Goes s f t n a k x w)
  unfolding in_order
  event_goes_last r absent takes = go g.ps refl
    where
      go : (ps : List Step) → g.ps ≡ ps → IsSomeAnd r (Goes s f t n a k x w)
      go [] e = event_next (rw e tt) (omega (arith, g.ahead, ap length e)) r takes
      go (q ∷ qs) e =
          let (first, rest) = walks f w.step (rw e at g.steps) in
          clash (cc)

-- Where nothing is ahead, the answer is yes.
pub stands_done : {s f : List ℕ} {t : Topology} {n : ℕ} {a : Answer} {k : ℕ} {x : cxl0.State} {w : Place}
    → Stands s f t n a k x w → k ≤ 0 → Answer.yes ≡ a
unfolding replay_from weave_from steps
stands_done {t} {w} g h =
    let no_events = no_elements g.es (omega (arith, g.ahead)) in
    let no_steps = no_elements g.ps (omega (arith, g.ahead)) in
    rw (no_events, no_steps) at g.answer
