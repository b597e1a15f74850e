-- A run of a system's events at one location: its silent steps name machines and locations of the system, and are no
-- more than the events allow for. So it is with the shortest schedule.
use Prim.Native.Nat.{◌≤◌}
use native.Mathlib.Omega.{arith}
use mathlib.Core.Path.{◌≡◌, sym, ap, ◌∙◌, subst}
use mathlib.Core.Logic.{⊎_elim}
use mathlib.Core.List.{List, [], ◌∷◌, map, cons≢nil, nil≢cons, head-eq_of_cons-eq, tail-eq_of_cons-eq}
use mathlib.Core.List.Memᴰ
use mathlib.Core.List.{Memᴰ}
use lib.Dec.{T}
use lib.ListN.{length}
use Rattle.model.specs.Cxl0.{Location, Topology, is_location, WellFormed, Event, Silent, Action, event, silent}
use Rattle.model.specs.Cxl0.{named, all_named, silents}
use Rattle.model.specs.Schedule.{Step, silent_of, weave_from}
use Rattle.model.specs.OneLocation.{start_at}
use Rattle.model.specs.Allowance.{allowance}
use Rattle.model.specs.ShortestAt.{RunOf, ShortestAt}
use Rattle.model.proofs.Tests.{and_l, and_r}
use Rattle.model.proofs.Merge.{each}
use Rattle.model.proofs.Expand.{start_in_range}
use Rattle.model.proofs.Split.{own_named}
use Rattle.model.proofs.Potential.{rank_start}
use Rattle.model.proofs.Allowance.{rank_runs}
use Rattle.model.proofs.Weaving.{silents_weave_from}
use Rattle.model.proofs.Smallest.{length_weave_from, shortest_run_of}

-- If actions whose silent steps are those of a schedule name machines and locations of the system, so does each step of
-- the schedule.
pub named_steps : (sys : Topology) (acts : List Action) (ps : List Step) → silents acts ≡ map silent_of ps
    → T (each (named sys) acts)
    → (p : Step) → Memᴰ p ps → T (named sys (silent (silent_of p)))
unfolding each silents
named_steps sys [] [] e t p m = absurd (Memᴰ.not-nil m)
named_steps sys [] (q ∷ ps) e t p m = absurd (nil≢cons e)
named_steps sys (event f ∷ acts) ps e t p m =
    named_steps sys acts ps e (and_r (named sys (event f)) (each (named sys) acts) t) p m
named_steps sys (silent a ∷ acts) [] e t p m = absurd (cons≢nil e)
named_steps sys (silent a ∷ acts) (q ∷ ps) e t p m =
    let here = and_l (named sys (silent a)) (each (named sys) acts) t in
    let rest = and_r (named sys (silent a)) (each (named sys) acts) t in
    let same = head-eq_of_cons-eq e in
    ⊎_elim
    (λ h. subst (λ (b : Silent). T (named sys (silent b))) (same ∙ ap silent_of (sym h)) here)
    (named_steps sys acts ps (tail-eq_of_cons-eq e) rest p)
    (Memᴰ.cases_cons m)

module _ (sys : Topology) (w : WellFormed sys) {x : Location} (l : T (is_location sys x)) {es : List Event}
    (names : T (all_named sys (map event es))) where
  -- A run of the events at x names machines and locations of the system.
  pub run_of_named : {acts : List Action} → RunOf sys x es (start_at sys x) acts → T (each (named sys) acts)
  run_of_named {acts} r =
      own_named sys x w l acts (start_at sys x) (start_in_range sys x) r.own (rw r.of names) r.runs

  -- Its silent steps are no more than the events allow for.
  pub run_of_few : {acts : List Action} → RunOf sys x es (start_at sys x) acts → length (silents acts) ≤ allowance x es
  run_of_few {acts} r =
      let all = rank_runs sys x (w x l) acts (start_at sys x) (run_of_named r) r.own r.runs in
      omega (arith, rw r.of at all, rank_start sys x)

  module _ {ps : List Step} (h : ShortestAt sys x es ps) where
    -- Each step of the shortest schedule names a location and, unless it is a write-back, a machine of the system.
    pub shortest_named : (p : Step) → Memᴰ p ps → T (named sys (silent (silent_of p)))
    shortest_named =
        named_steps sys (weave_from 0 es ps) ps (silents_weave_from 0 es ps) (run_of_named (shortest_run_of h))

    -- And there are no more of them than the events allow for.
    pub shortest_few : length ps ≤ allowance x es
    shortest_few = omega (arith, run_of_few (shortest_run_of h), length_weave_from 0 es ps)
