-- A schedule of one location, event by event: steps of the location in order that, woven with the events, run
-- at it. They name machines and locations of the system, and are no more than the events allow for.
use Prim.Native.Nat.{ℕ, suc, ◌≤◌}
use native.Mathlib.Omega.{arith}
use mathlib.Core.Path.{◌≡◌, refl, sym}
use mathlib.Core.Logic.{⊎_elim}
use mathlib.Core.List.{List, [], ◌∷◌, ◌++◌, map, cons≢nil, head-eq_of_cons-eq, tail-eq_of_cons-eq}
use mathlib.Core.List.Memᴰ
use mathlib.Core.List.{Memᴰ}
use lib.Dec.{T}
use lib.Ieee.Fits.{eq→eqb}
use lib.ListN.{length, length-append, length-map}
use Rattle.model.specs.Cxl0.{Machine, Location, Topology, Event, Action, event, silent, silents}
use Rattle.model.specs.Schedule.{Step, silent_of, steps, weave_from, weave, in_order}
use Rattle.model.specs.OneLocation.{Local, silent_at, start_at, own_steps}
use Rattle.model.specs.Allowance.{allowance}
use Rattle.model.specs.ShortestAt.{RunOf}
use Rattle.model.proofs.Tests.{and_i}
use Rattle.model.proofs.Weaving.{events_weave, silents_weave}
use Rattle.model.proofs.Steps.{in_order_append, silent_at_silent_of}
use Rattle.model.proofs.RunBounds.{named_steps, run_of_named, run_of_few}
use Rattle.entries.specs.declared.Site.{Site}
use Rattle.rows.specs.Rows.{state}
use Rattle.rows.specs.Sites.{Describes}
use Rattle.rows.proofs.RowSteps.{begins}
use Rattle.walking.specs.Trails.{step_at, RunsTo}
use Rattle.walking.specs.Walks.{Placed, Schedules}
use Rattle.walking.proofs.Trails.{runs_to_none, runs_to_append}
use Rattle.walking.proofs.StepWords.{at_in_order, at_own, at_before}
use Rattle.search.specs.Paths.{Leading}
use Rattle.search.proofs.OneMore.{weave_more}

-- The silent steps of the actions are those of the schedule.
abbrev Of : List Step → List Action → Type 0
Of ps acts = silents acts ≡ map silent_of ps

-- If each step of the schedule is one of x, so is each silent step of the actions.
pub own-steps : (x : Location) (acts : List Action) (ps : List Step) → Of ps acts
    → ((p : Step) → Memᴰ p ps → p.location ≡ x) → T (own_steps x acts)
unfolding own_steps silents
own-steps x [] ps e own = tt
own-steps x (event f ∷ acts) ps e own = own-steps x acts ps e own
own-steps x (silent a ∷ acts) [] e own = absurd (cons≢nil e)
own-steps x (silent a ∷ acts) (p ∷ ps) e own =
    let here : T (silent_at x a) =
    rw (head-eq_of_cons-eq e, silent_at_silent_of x p.location p.before p.machine)
    (eq→eqb (sym (own p (Memᴰ.head refl)))) in
    and_i (silent_at x a) (own_steps x acts) here
    (own-steps x acts ps (tail-eq_of_cons-eq e) (λ q m. own q (Memᴰ.tail m)))

-- ---- event by event

pub leading_none : (s : Site) → Leading s [] [] (state 0 0 s.initial)
unfolding in_order weave weave_from steps start_at
leading_none s =
    record {
      own = λ p i. absurd (Memᴰ.not-nil i);
      order = tt;
      early = λ p i. absurd (Memᴰ.not-nil i);
      runs = λ sys d. rw (begins d) (runs_to_none sys s.location.0);
    }

-- One event more, with the steps of the machines before it.
pub leading_more : {s : Site} {es : List Event} {ps : List Step} {z : Local} → Leading s es ps z
    → (e : Event) (t : ℕ) (is : List Machine) {z' : Local} → length es ≡ t
    → let qs : List Step = map (step_at t s.location.0) is in
    ((sys : Topology) → Describes sys s → RunsTo sys s.location.0 (steps qs ++ event e ∷ []) z z')
    → Leading s (es ++ e ∷ []) (ps ++ qs) z'
leading_more {s} {es} {ps} l e t is size runs =
    let x = s.location.0 in
    let qs = map (step_at t x) is in
    let before = rw size at l.order in
    let more : length (es ++ e ∷ []) ≡ suc t = rw length-append (omega arith) in
    let woven = weave_more es e ps qs l.order (rw size (at_in_order t t x is (omega arith))) in
    record {
      own = λ p i. ⊎_elim (l.own p) (at_own t x is p) (Memᴰ.append_cases ps i);
      order = rw more
          (in_order_append 0 t (suc t) ps qs (omega arith) (omega arith) before
          (at_in_order t (suc t) x is (omega arith)));
      early = λ p i. ⊎_elim
          (λ b. omega (arith, l.early p b, more))
          (λ b. omega (arith, at_before t x is p b, more))
          (Memᴰ.append_cases ps i);
      runs = λ sys d. rw woven (runs_to_append sys x (weave es ps) (l.runs sys d) (runs sys d));
    }

-- ---- the whole schedule

module _ (s : Site) (es : List Event) (ps : List Step) (z : Local) (l : Leading s es ps z)
    (system : Topology) (placed : Placed system s es) where
  -- Woven with the events it is a run at the site.
  run : (sys : Topology) → Describes sys s → RunOf sys s.location.0 es (start_at sys s.location.0) (weave es ps)
  run sys d =
      record {
        of = events_weave es ps;
        own = own-steps s.location.0 (weave es ps) ps (silents_weave es ps) l.own;
        runs = (l.runs sys d).runs;
      }

  bounded : length ps ≤ allowance s.location.0 es
  bounded =
      let here = run system placed.describes in
      let few = run_of_few system placed.well_formed placed.listed placed.named here in
      omega (arith, rw (silents_weave es ps) at few, length-map ps silent_of)

  pub schedules : Schedules s es ps
  schedules =
      record {
        own = l.own;
        in_order = l.order;
        early = l.early;
        few = bounded;
        named = λ sys p. named_steps sys (weave es ps) ps (silents_weave es ps)
            (run_of_named sys p.well_formed p.listed p.named (run sys p.describes));
        runs = λ sys d. (l.runs sys d).runs;
      }
