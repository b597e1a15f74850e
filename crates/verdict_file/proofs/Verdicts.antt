-- The verdict that `verdict_of` gives is the one that is right: its schedule is the shortest one, or its event is the
-- first impossible one.
use Prim.Native.Nat.{ℕ, ◌<◌}
use native.Mathlib.Omega.{arith}
use mathlib.Core.Path.{◌≡◌, refl, sym, ap, subst}
use mathlib.Core.Logic.{◌↔◌}
use mathlib.Core.List.{List}
use mathlib.Core.Option.{Option, none, some}
use Rattle.model.specs.Cxl0.{Topology, WellFormed, Event, HasRun, FirstImpossible}
use Rattle.model.specs.Schedule.{Step, weave}
use Rattle.model.specs.Shortest.{Shortest}
use Rattle.model.specs.Explanations.{explanation}
use Rattle.model.proofs.Prefixes.{has_run_prefix}
use Rattle.model.proofs.Weaving.{events_weave}
use Rattle.model.proofs.Smallest.{shortest_unique}
use Rattle.model.proofs.Explanations.{explanation_shortest, unexplained_first}
use Rattle.verdict_file.specs.Files.{Verdict, allowed, impossible}
use Rattle.verdict_file.specs.Verdicts.{verdict_of}

-- What is asked of a verdict on the events of a system.
unfoldable pub Right : Topology → List Event → Verdict → Type 0
Right sys es (allowed ps) = Shortest sys es ps
Right sys es (impossible event) = FirstImpossible sys es event

module _ (sys : Topology) (es : List Event) where
  -- Events with a right schedule have a run.
  pub right_runs : (ps : List Step) → Right sys es (allowed ps) → HasRun sys es
  unfolding Right HasRun
  right_runs ps right = (weave es ps, events_weave es ps, right.run)

  -- So none of them is impossible.
  not_both : (ps : List Step) (e : ℕ) → Right sys es (allowed ps) → ¬ Right sys es (impossible e)
  unfolding Right FirstImpossible
  not_both ps e right first = first.2 (has_run_prefix sys es e (right_runs ps right))

  -- One event is the first impossible one.
  first_one : (d e : ℕ) → FirstImpossible sys es d → FirstImpossible sys es e → d ≡ e
  unfolding FirstImpossible
  first_one d e f g =
      let low : ¬ (d < e) = λ h. f.2 (g.3 d h) in
      let high : ¬ (e < d) = λ h. g.2 (f.3 e h) in
      omega arith

  -- At most one verdict is right.
  right_one : (v u : Verdict) → Right sys es v → Right sys es u → v ≡ u
  unfolding Right
  right_one (allowed ps) (allowed qs) right also = ap allowed (shortest_unique sys es ps qs right also)
  right_one (allowed ps) (impossible e) right also = absurd (not_both ps e right also)
  right_one (impossible e) (allowed ps) right also = absurd (not_both ps e also right)
  right_one (impossible d) (impossible e) right also = ap impossible (first_one d e right also)

  module _ (w : WellFormed sys) where
    -- The verdict is right,
    pub verdict_right : Right sys es (verdict_of sys es)
    unfolding Right verdict_of
    verdict_right = go (explanation sys es) refl
      where
        go : (o : Option (List Step)) → explanation sys es ≡ o → Right sys es (verdict_of sys es)
        go none e = rw (e, Right) (unexplained_first sys w es e)
        go (some ps) e = rw (e, Right) (explanation_shortest sys w es ps e)

    -- and no other is.
    pub right_exactly : (v : Verdict) → Right sys es v ↔ (v ≡ verdict_of sys es)
    right_exactly v = (
      λ right. right_one v (verdict_of sys es) right verdict_right,
      λ same. subst (Right sys es) (sym same) verdict_right,
    )
