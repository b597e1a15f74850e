-- Copies of one location agree in value, in every state that a run reaches: each such state is one that short
-- forms of the locations describe.
use mathlib.Core.Path.{◌≡◌, refl, sym, ap, ◌∙◌}
use mathlib.Core.Bool.{Bool, true, false, cond}
use mathlib.Core.List.{List, [], ◌∷◌}
use mathlib.Core.Option.{none, some, some-injective, none-ne-some}
use lib.Dec.{T}
use Rattle.model.specs.Cxl0.{Machine, Location, Value, Topology, WellFormed, State, start, Action}
use Rattle.model.specs.Cxl0.{named, enabled, possible, runs, after, Run}
use Rattle.model.specs.Sharers.{has}
use Rattle.model.specs.OneLocation.{Local, expand, next_at, after_at, start_at}
use Rattle.model.proofs.Tests.{and_l}
use Rattle.model.proofs.Expand.{InRange, next_expand, next_in_range, runs_first}
use Rattle.model.proofs.Expand.{start_expand, start_in_range}

-- A list that runs leads the whole system and the short forms of its locations to the same state.
pub reached : (sys : Topology) → WellFormed sys → (acts : List Action) (f : Location → Local) → InRange sys f
    → T (runs sys acts (expand f)) → after sys acts (expand f) ≡ expand (λ x. after_at sys x acts (f x))
unfolding after after_at possible
reached sys w [] f r t = refl
reached sys w (a ∷ acts) f r t =
    let p = runs_first sys f w r a acts t in
    let n = and_l (named sys a) (enabled sys a (expand f)) p.0 in
    ap (after sys acts) (next_expand sys f w r a p.0)
    ∙ reached sys w acts (λ x. next_at sys x a (f x)) (next_in_range sys f w r a n) p.1

-- The state that a run reaches is the one that the short forms at its end describe.
pub run_reached : (sys : Topology) → WellFormed sys → (acts : List Action) → Run sys acts
    → after sys acts (start sys) ≡ expand (λ x. after_at sys x acts (start_at sys x))
run_reached sys w acts t =
    ap (after sys acts) (start_expand sys)
    ∙ reached sys w acts (start_at sys) (start_in_range sys) (rw (start_expand sys) at t)

shown_value : (b : Bool) (c u : Value) → cond b (some c) none ≡ some u → c ≡ u
shown_value true c u e = some-injective c u e
shown_value false c u e = absurd (none-ne-some u e)

-- In a state that short forms describe, each copy has the value that its location's short form gives.
copy_value : (s : State) (f : Location → Local) → s ≡ expand f → (i : Machine) (x : Location) (u : Value)
    → s.cache i x ≡ some u → (f x).copy ≡ u
unfolding expand
copy_value s f e i x u h =
    shown_value (has i (f x).code) (f x).copy u (sym (ap (λ s. s.cache i x) e) ∙ h)

-- Two copies of one location have the same value, in every state that a run reaches.
pub copies_agree : (sys : Topology) → WellFormed sys → (acts : List Action) → Run sys acts
    → (i j : Machine) (x : Location) (u v : Value)
    → (after sys acts (start sys)).cache i x ≡ some u → (after sys acts (start sys)).cache j x ≡ some v → u ≡ v
copies_agree sys w acts t i j x u v p q =
    let s = after sys acts (start sys) in
    let f : Location → Local = λ x. after_at sys x acts (start_at sys x) in
    let e = run_reached sys w acts t in
    sym (copy_value s f e i x u p) ∙ copy_value s f e j x v q
