-- Weaving events with a schedule and taking actions apart into events and schedule undo each other: a run is
-- its events woven with its schedule, and a schedule in order is the schedule of what it weaves.
use Prim.Native.Nat.{ℕ, zero, suc, ◌+◌, ◌≤◌}
use mathlib.Core.Path.{◌≡◌, refl, ◌∙◌}
use mathlib.Core.Logic.{◌↔◌, ⊎_elim}
use mathlib.Core.Bool.{true, false, cond, ◌&&◌}
use mathlib.Core.List.{List, [], ◌∷◌, ◌++◌, map, append-nil, map-append}
use native.Mathlib.Nat.{eq-or-lt_of_le}
use native.Mathlib.Omega.{arith}
use lib.Dec.{T, leb, leb→le, le→leb}
use lib.Ieee.Fits.{and_i, and_l, and_r}
use lib.ListN.{length}
use borrow.Author.Tests.{le-leb, lt-leb}
use Rattle.model.specs.Cxl0.{Topology, is_machine, State, start, Event, Silent, Propagate, WriteBack}
use Rattle.model.specs.Cxl0.{Action, event, silent, named, possible, next, runs, Run, events, silents}
use Rattle.model.specs.Schedule.{Step, silent_of, step_of, due, later, steps, weave_from, weave}
use Rattle.model.specs.Schedule.{schedule_from, schedule, in_order}

-- ---- the events and the silent steps of what is woven

events_steps : (ps : List Step) (acts : List Action) → events (steps ps ++ acts) ≡ events acts
unfolding events steps
events_steps [] acts = refl
events_steps (p ∷ ps) acts = events_steps ps acts

pub events_weave_from : (n : ℕ) (es : List Event) (ps : List Step) → events (weave_from n es ps) ≡ es
unfolding events weave_from
events_weave_from n [] ps = rw (← append-nil (steps ps)) (events_steps ps [])
events_weave_from n (e ∷ es) ps = events_steps (due n ps) _ ∙ rw (events_weave_from (suc n) es (later n ps))

-- The events of a woven list are the events.
pub events_weave : (es : List Event) (ps : List Step) → events (weave es ps) ≡ es
unfolding weave
events_weave es ps = events_weave_from 0 es ps

silents_steps : (ps : List Step) (acts : List Action)
    → silents (steps ps ++ acts) ≡ map silent_of ps ++ silents acts
unfolding silents steps
silents_steps [] acts = refl
silents_steps (p ∷ ps) acts = rw (silents_steps ps acts)

-- What is due and what is later are all of a schedule.
due_later : (n : ℕ) (ps : List Step) → due n ps ++ later n ps ≡ ps
unfolding due later
due_later n [] = refl
due_later n (p ∷ ps) =
    elim (leb p.before n) as (λ b. cond b (p ∷ due n ps) [] ++ cond b (later n ps) (p ∷ ps) ≡ p ∷ ps)
    [ true ↦ rw (due_later n ps) | false ↦ refl ]

pub silents_weave_from : (n : ℕ) (es : List Event) (ps : List Step) → silents (weave_from n es ps) ≡ map silent_of ps
unfolding silents weave_from
silents_weave_from n [] ps = rw (← append-nil (steps ps)) (silents_steps ps [] ∙ append-nil _)
silents_weave_from n (e ∷ es) ps =
    silents_steps (due n ps) _ ∙ rw (silents_weave_from (suc n) es (later n ps), ← map-append, due_later)

-- The silent steps of a woven list are the steps of the schedule, all of them and in order.
pub silents_weave : (es : List Event) (ps : List Step) → silents (weave es ps) ≡ map silent_of ps
unfolding weave
silents_weave es ps = silents_weave_from 0 es ps

-- ---- order

-- What order says of a first step and those after it.
pub in_order_cons : (m n : ℕ) (p : Step) (ps : List Step)
    → T (in_order m n (p ∷ ps)) ↔ ((m ≤ p.before) × (p.before ≤ n) × T (in_order p.before n ps))
unfolding in_order
in_order_cons m n p ps =
    let low = leb m p.before in
    let high = leb p.before n in
    let rest = in_order p.before n ps in (
      λ t. let both = and_l (low && high) rest t in
          (leb→le _ _ (and_l low high both), leb→le _ _ (and_r low high both), and_r (low && high) rest t),
      λ o. and_i (low && high) rest (and_i low high (le→leb _ _ o.0) (le→leb _ _ o.1)) o.2,
    )

pub before_step_of : (n : ℕ) (a : Silent) → (step_of n a).before ≡ n
unfolding step_of
before_step_of n (Propagate i x) = refl
before_step_of n (WriteBack x) = refl

pub schedule_from_in_order : (l n m : ℕ) (acts : List Action) → l ≤ n → n + length (events acts) ≤ m
    → T (in_order l m (schedule_from n acts))
unfolding schedule_from events
schedule_from_in_order l n m [] g h = unfold in_order in tt
schedule_from_in_order l n m (event e ∷ acts) g h =
    schedule_from_in_order l (suc n) m acts (omega arith) (omega arith)
schedule_from_in_order l n m (silent a ∷ acts) g h =
    let p = step_of n a in
    let b = before_step_of n a in
    (in_order_cons l m p (schedule_from n acts)).1
    (omega arith, omega arith, schedule_from_in_order p.before n m acts (omega arith) h)

-- The schedule of a list of actions is in order.
pub schedule_in_order : (acts : List Action) → T (in_order 0 (length (events acts)) (schedule acts))
unfolding schedule
schedule_in_order acts = schedule_from_in_order 0 0 _ acts (omega arith) (omega arith)

-- ---- what comes next in a weaving

-- A step that is due.
pub weave_due : (n : ℕ) (es : List Event) (p : Step) (ps : List Step) → p.before ≤ n
    → weave_from n es (p ∷ ps) ≡ silent (silent_of p) ∷ weave_from n es ps
unfolding weave_from due later steps
weave_due n [] p ps h = refl
weave_due n (e ∷ es) p ps h = rw le-leb

-- An event, where no step is due.
pub weave_event : (n m : ℕ) (e : Event) (es : List Event) (ps : List Step) → T (in_order (suc n) m ps)
    → weave_from n (e ∷ es) ps ≡ event e ∷ weave_from (suc n) es ps
unfolding weave_from due later steps
weave_event n m e es [] t = refl
weave_event n m e es (p ∷ ps) t = rw (lt-leb p.before n ((in_order_cons (suc n) m p ps).0 t).0)

-- ---- the schedule of what is woven

step_of_silent_of : (n x i : ℕ) → let p : Step = record { before = n; location = x; machine = i } in
    step_of n (silent_of p) ≡ p
unfolding step_of silent_of
step_of_silent_of n x zero = refl
step_of_silent_of n x (suc i) = refl

-- If schedules with no step due after n events come back from the weaving, so do those with some.
back_due : (n m : ℕ) (es : List Event)
    → ((ps : List Step) → T (in_order (suc n) m ps) → schedule_from n (weave_from n es ps) ≡ ps)
    → (ps : List Step) → T (in_order n m ps) → schedule_from n (weave_from n es ps) ≡ ps
unfolding in_order schedule_from
back_due n m es back [] t = back [] tt
back_due n m es back (p ∷ ps) t =
    let o = (in_order_cons n m p ps).0 t in
    let same = step_of_silent_of p.before p.location p.machine in
    ⊎_elim
    (λ e. rw (weave_due n es p ps (omega arith), back_due n m es back ps (rw (← e) at o.2), e, same))
    (λ h. back (p ∷ ps) ((in_order_cons (suc n) m p ps).1 (h, o.1, o.2)))
    (eq-or-lt_of_le o.0)

pub schedule_from_weave_from : (n m : ℕ) (es : List Event) (ps : List Step) → m ≤ n + length es → T (in_order n m ps)
    → schedule_from n (weave_from n es ps) ≡ ps
unfolding schedule_from
schedule_from_weave_from n m [] ps h t = back_due n m [] back ps t
  where
    back : (ps : List Step) → T (in_order (suc n) m ps) → schedule_from n (weave_from n [] ps) ≡ ps
    back [] t = unfold weave_from steps in refl
    back (p ∷ ps) t = let o = (in_order_cons (suc n) m p ps).0 t in absurd (omega arith)
schedule_from_weave_from n m (e ∷ es) ps h t =
    back_due n m (e ∷ es)
    (λ qs u. rw (weave_event n m e es qs u, schedule_from_weave_from (suc n) m es qs (omega arith) u))
    ps t

-- A schedule in order is the schedule of what it weaves.
pub schedule_weave : (es : List Event) (ps : List Step) → T (in_order 0 (length es) ps)
    → schedule (weave es ps) ≡ ps
unfolding weave schedule
schedule_weave es ps t = schedule_from_weave_from 0 (length es) es ps (omega arith) t

-- ---- a run is its events woven with its schedule

-- Of a possible silent step the schedule loses nothing: machine 0, which means write-back, never propagates.
silent_of_step_of : (sys : Topology) (n : ℕ) (a : Silent) (s : State) → T (possible sys (silent a) s)
    → silent_of (step_of n a) ≡ a
unfolding silent_of step_of possible named is_machine
silent_of_step_of sys n (Propagate zero x) s t = absurd t
silent_of_step_of sys n (Propagate (suc i) x) s t = refl
silent_of_step_of sys n (WriteBack x) s t = refl

weave_from_schedule_from : (sys : Topology) (n : ℕ) (acts : List Action) (s : State) → T (runs sys acts s)
    → weave_from n (events acts) (schedule_from n acts) ≡ acts
unfolding events schedule_from runs
weave_from_schedule_from sys n [] s t = unfold weave_from steps in refl
weave_from_schedule_from sys n (event e ∷ acts) s t =
    let rest = and_r (possible sys (event e) s) _ t in
    let m = suc n + length (events acts) in
    let none_due = schedule_from_in_order (suc n) (suc n) m acts (omega arith) (omega arith) in
    rw (weave_event n m e _ _ none_due, weave_from_schedule_from sys (suc n) acts _ rest)
weave_from_schedule_from sys n (silent a ∷ acts) s t =
    let here = and_l (possible sys (silent a) s) (runs sys acts (next sys (silent a) s)) t in
    let rest = and_r (possible sys (silent a) s) _ t in
    let b = before_step_of n a in
    weave_due n _ (step_of n a) _ (omega arith)
    ∙ rw (silent_of_step_of sys n a s here, weave_from_schedule_from sys n acts _ rest)

-- Weaving the events of a run with its schedule gives the run back.
pub weave_schedule : (sys : Topology) (acts : List Action) (s : State) → T (runs sys acts s)
    → weave (events acts) (schedule acts) ≡ acts
unfolding weave schedule
weave_schedule sys acts s t = weave_from_schedule_from sys 0 acts s t

pub weave_run : (sys : Topology) (acts : List Action) → Run sys acts
    → weave (events acts) (schedule acts) ≡ acts
weave_run sys acts r = weave_schedule sys acts (start sys) r
