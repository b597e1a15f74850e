-- What a run of the whole system is at one location, and what its schedule counts and names.
use Prim.Native.Nat.{ℕ, suc}
use mathlib.Core.Path.{◌≡◌, refl, sym, ap, subst}
use mathlib.Core.Logic.{⊎_elim}
use mathlib.Core.List.Memᴰ
use mathlib.Core.List.{List, [], ◌∷◌, Memᴰ}
use lib.Dec.{T}
use lib.ListN.{length}
use Rattle.model.specs.Cxl0.{Location, Topology, is_machine, is_location, WellFormed}
use Rattle.model.specs.Cxl0.{Silent, Propagate, WriteBack, Action, event, silent, named, all_named}
use Rattle.model.specs.Cxl0.{Run, events, silents}
use Rattle.model.specs.Schedule.{Step, step_of, schedule_from, schedule}
use Rattle.model.specs.OneLocation.{start_at, own_of}
use Rattle.model.specs.ShortestAt.{RunOf}
use Rattle.model.proofs.Tests.{and_l, and_r}
use Rattle.model.proofs.Split.{split_run, runs_at_own, events_own, own_own}

-- A run with only x's own silent steps is a run of its events at x.
pub own_run_of : (sys : Topology) → WellFormed sys → (acts : List Action) → Run sys acts
    → (x : Location) → T (is_location sys x) → RunOf sys x (events acts) (start_at sys x) (own_of x acts)
own_run_of sys w acts r x l =
    record {
      of = events_own x acts;
      own = own_own x acts;
      runs = rw (runs_at_own sys x acts (start_at sys x)) at (((split_run sys w acts).0 r).1 x l);
    }

-- ---- the schedule

length_schedule_from : (n : ℕ) (acts : List Action) → length (schedule_from n acts) ≡ length (silents acts)
unfolding schedule_from silents
length_schedule_from n [] = refl
length_schedule_from n (event e ∷ acts) = length_schedule_from (suc n) acts
length_schedule_from n (silent a ∷ acts) = ap suc (length_schedule_from n acts)

-- The schedule has a step for each silent step.
pub length_schedule : (acts : List Action) → length (schedule acts) ≡ length (silents acts)
unfolding schedule
length_schedule acts = length_schedule_from 0 acts

step_of_located : (sys : Topology) (n : ℕ) (a : Silent) → T (named sys (silent a))
    → T (is_location sys (step_of n a).location)
unfolding named step_of
step_of_located sys n (Propagate i x) t = and_r (is_machine sys i) (is_location sys x) t
step_of_located sys n (WriteBack x) t = t

schedule_from_located : (sys : Topology) (n : ℕ) (acts : List Action) → T (all_named sys acts)
    → (p : Step) → Memᴰ p (schedule_from n acts) → T (is_location sys p.location)
unfolding schedule_from all_named
schedule_from_located sys n [] t p m = absurd (Memᴰ.not-nil m)
schedule_from_located sys n (event e ∷ acts) t p m =
    schedule_from_located sys (suc n) acts (and_r (named sys (event e)) (all_named sys acts) t) p m
schedule_from_located sys n (silent a ∷ acts) t p m =
    ⊎_elim
    (λ e. subst (λ (q : Step). T (is_location sys q.location)) (sym e)
    (step_of_located sys n a (and_l (named sys (silent a)) (all_named sys acts) t)))
    (schedule_from_located sys n acts (and_r (named sys (silent a)) (all_named sys acts) t) p)
    (Memᴰ.cases_cons m)

-- The steps of a run's schedule are at locations of the system.
pub schedule_located : (sys : Topology) → WellFormed sys → (acts : List Action) → Run sys acts
    → (p : Step) → Memᴰ p (schedule acts) → T (is_location sys p.location)
unfolding schedule
schedule_located sys w acts r = schedule_from_located sys 0 acts ((split_run sys w acts).0 r).0
