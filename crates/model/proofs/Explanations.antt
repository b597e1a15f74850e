-- What the explanation of events is worth: it is their shortest schedule, and they have one exactly where they have a
-- run. Where they have none, the least number of events without an explanation is that of the first impossible event.
use Prim.Native.Nat.{ℕ, suc, ◌≤◌, ◌<◌}
use native.Mathlib.Omega.{arith}
use mathlib.Core.Path.{◌≡◌, refl, ap}
use mathlib.Core.Logic.{◌≢◌, ◌⊎◌, ⊎_elim}
use mathlib.Core.Bool.{Bool}
use mathlib.Core.List.{List, []}
use mathlib.Core.Option.{Option, none, some, get_or}
use lib.Dec.{T}
use lib.ListN.{length, take}
use lib.Seq.{take-length}
use Rattle.model.specs.Cxl0.{Topology, WellFormed, start, Event, Action, runs, Run, events, silents}
use Rattle.model.specs.Cxl0.{HasRun, FirstImpossible}
use Rattle.model.specs.Schedule.{Step, weave, schedule, in_order}
use Rattle.model.specs.Shortest.{Smaller, Shortest}
use Rattle.model.specs.Explanations.{below, first, is_none, schedules_for, explains, explanation, first_unexplained}
use Rattle.model.proofs.Tests.{and_i, and_l, and_r}
use Rattle.model.proofs.Weaving.{events_weave, schedule_in_order, weave_run}
use Rattle.model.proofs.Smallest.{smaller_irreflexive, smaller_trans}
use Rattle.model.proofs.ShortestParts.{length_schedule}
use Rattle.model.proofs.Firsts.{mem_below, of_below, pairwise_below, First, first_some, first_none}
use Rattle.model.proofs.ListedSchedules.{Before, all_in_order, run_listed}

-- ---- a schedule that explains events

module _ (sys : Topology) (es : List Event) (ps : List Step) where
  explains_order : T (explains sys es ps) → T (in_order 0 (length es) ps)
  unfolding explains
  explains_order t = and_l (in_order 0 (length es) ps) (runs sys (weave es ps) (start sys)) t

  explains_run : T (explains sys es ps) → Run sys (weave es ps)
  unfolding explains
  explains_run t = and_r (in_order 0 (length es) ps) (runs sys (weave es ps) (start sys)) t

-- The schedule of a run explains its events.
pub run_explains : (sys : Topology) (acts : List Action) → Run sys acts → T (explains sys (events acts) (schedule acts))
unfolding explains
run_explains sys acts run =
    let order = in_order 0 (length (events acts)) (schedule acts) in
    let runs_so = runs sys (weave (events acts) (schedule acts)) (start sys) in
    and_i order runs_so (schedule_in_order acts) (rw (weave_run sys acts run) run)

module _ (sys : Topology) (w : WellFormed sys) where
  -- ---- where there is an explanation

  module _ (es : List Event) (ps : List Step) (e : explanation sys es ≡ some ps) where
    first_explanation : First Before (explains sys es) (schedules_for sys es) ps
    unfolding explanation
    first_explanation = first_some Before (explains sys es) (schedules_for sys es) ps (all_in_order sys es) e

    -- The schedule of any run of the events is this one, or comes after it.
    others : (acts : List Action) → events acts ≡ es → Run sys acts → (schedule acts ≡ ps) ⊎ Before ps (schedule acts)
    others acts of run =
        first_explanation.others (schedule acts)
        (rw of at (run_listed sys w acts run)) (rw of at (run_explains sys acts run))

    fewest : (acts : List Action) → events acts ≡ es → Run sys acts → length ps ≤ length (silents acts)
    fewest acts of run =
        let long = length_schedule acts in
        ⊎_elim
        (λ same. omega (arith, long, ap length same))
        (⊎_elim (λ fewer. omega (arith, long)) (λ as_many. omega (arith, long, as_many.0)))
        (others acts of run)

    smallest : (acts : List Action) → events acts ≡ es → Run sys acts → length (silents acts) ≡ length ps
        → ¬ Smaller (schedule acts) ps
    smallest acts of run as_many smaller =
        ⊎_elim
        (λ same. smaller_irreflexive ps (rw same at smaller))
        (⊎_elim
        (λ fewer. omega (arith, length_schedule acts, as_many))
        (λ larger. smaller_irreflexive ps (smaller_trans ps (schedule acts) ps larger.1 smaller)))
        (others acts of run)

    -- The explanation is the shortest schedule.
    pub explanation_shortest : Shortest sys es ps
    explanation_shortest =
        record {
          order = explains_order sys es ps first_explanation.passes;
          run = explains_run sys es ps first_explanation.passes;
          fewest = fewest;
          smallest = smallest;
        }

    -- So the events have a run.
    explained : HasRun sys es
    unfolding HasRun
    explained = (weave es ps, events_weave es ps, explanation_shortest.run)

  -- ---- where there is none

  -- The events have no run: its schedule would be listed.
  unexplained : (es : List Event) → explanation sys es ≡ none → ¬ HasRun sys es
  unfolding explanation HasRun
  unexplained es e (acts, of, run) =
      first_none (explains sys es) (schedules_for sys es) e (schedule acts)
      (rw of at (run_listed sys w acts run)) (rw of at (run_explains sys acts run))

  module _ (es : List Event) where
    -- The first e events have no explanation.
    abbrev without : ℕ → Bool
    without e = is_none (explanation sys (take e es))

    without_run : (e : ℕ) → T (without e) → ¬ HasRun sys (take e es)
    without_run e t = go (explanation sys (take e es)) refl t
      where
        go : (o : Option (List Step)) → explanation sys (take e es) ≡ o → T (is_none o) → ¬ HasRun sys (take e es)
        go none same t = unexplained (take e es) same
        go (some ps) same t = absurd t

    with_run : (e : ℕ) → ¬ T (without e) → HasRun sys (take e es)
    with_run e t = go (explanation sys (take e es)) refl t
      where
        go : (o : Option (List Step)) → explanation sys (take e es) ≡ o → ¬ T (is_none o) → HasRun sys (take e es)
        go none same t = absurd (t tt)
        go (some ps) same t = explained (take e es) ps same

    -- No events have a run.
    nothing_runs : HasRun sys (take 0 es)
    unfolding HasRun events runs
    nothing_runs = ([], refl, tt)

    -- 0 to the number of events.
    abbrev numbers : List ℕ
    numbers = below (suc (length es))

    -- The least of these numbers without an explanation is that of the first impossible event.
    least_first : (e : ℕ) → First ◌<◌ without numbers e → FirstImpossible sys es e
    unfolding FirstImpossible
    least_first e least =
        let within = of_below (suc (length es)) e least.member in
        let no_run = without_run e least.passes in
        let not_0 : e ≢ 0 = λ zero. no_run (rw zero nothing_runs) in (
          omega (arith, not_0),
          omega (arith, within),
          no_run,
          λ d h. with_run d (λ t.
              ⊎_elim (λ same. omega (arith, same)) (λ later. omega arith)
              (least.others d (mem_below (suc (length es)) d (omega (arith, within))) t)),
        )

    -- There is one, where not all events have an explanation.
    pub unexplained_first : explanation sys es ≡ none → FirstImpossible sys es (first_unexplained sys es)
    unfolding first_unexplained
    unexplained_first e = go (first without numbers) refl
      where
        go : (o : Option ℕ) → first without numbers ≡ o → FirstImpossible sys es (get_or o 0)
        go none same =
            let all : T (without (length es)) = rw (take-length es, e) tt in
            let last = mem_below (suc (length es)) (length es) (omega arith) in
            absurd (first_none without numbers same (length es) last all)
        go (some n) same =
            least_first n (first_some ◌<◌ without numbers n (pairwise_below (suc (length es))) same)
