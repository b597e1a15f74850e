-- A run has at most two silent steps for each store and one for each load: the potentials of all locations
-- together start at 0, and an action changes them as it changes the potential of its own location.
use Prim.Native.Nat.{ℕ, suc, ◌+◌, ◌*◌, ◌≤◌}
use native.Mathlib.Omega.{arith}
use mathlib.Core.Path.{◌≡◌, refl, ◌∙◌}
use mathlib.Core.Logic.{◌⊎◌, inl, inr, ⊎_elim}
use mathlib.Core.Bool.{Bool, true, false, cond}
use mathlib.Core.List.{List, [], ◌∷◌}
use lib.Dec.{T, eqb, eqb_refl, ltb→lt, lt→ltb}
use lib.ListN.{length}
use Rattle.model.specs.Cxl0.{Location, Topology, WellFormed, is_machine, is_location, named, all_named}
use Rattle.model.specs.Cxl0.{LStore, RStore, MStore, Load, LFlush, RFlush, Crash, SetCrash, RMW}
use Rattle.model.specs.Cxl0.{Propagate, WriteBack}
use Rattle.model.specs.Cxl0.{Event, Action, event, silent, Run, events, silents, count, is_store, is_load}
use Rattle.model.specs.OneLocation.{Local, silent_at, concerns}
use Rattle.model.specs.OneLocation.{possible_at, next_at, start_at, runs_at}
use Rattle.model.proofs.Tests.{and_l, and_r, by_test, T→true, not→false, ne→test}
use Rattle.model.specs.Sums.{sum}
use Rattle.model.proofs.Sums.{sum_zero, sum_le, sum_at}
use Rattle.model.proofs.Potential.{one, rank, rank_start, gain, loss, rank_step}
use Rattle.model.proofs.Split.{split_run}
use Rattle.model.proofs.Locations.{IsCrash, single, several, located, named_location}

-- A listed location that action a concerns, and the only one.
abbrev OnlyAt : Topology → Action → Type 0
OnlyAt sys a = (y : Location) × T (is_location sys y) × ((x : Location) → concerns x a ≡ eqb x y)

-- An action concerns one location, or it is a crash, which may add nothing and has nothing to take away.
crash_adds : {e : Event} → IsCrash e → (gain (event e) ≡ 0) × (loss (event e) ≡ 0)
unfolding gain loss is_store is_load
crash_adds (single i) = (refl, refl)
crash_adds (several set) = (refl, refl)

only_at : (sys : Topology) (a : Action) → T (named sys a) → OnlyAt sys a ⊎ ((gain a ≡ 0) × (loss a ≡ 0))
unfolding named concerns silent_at
only_at sys (event e) m =
    ⊎_elim
    (λ at. inl (at.0, named_location sys e at.1 m, at.2))
    (λ crash. inr (crash_adds crash))
    (located e)
only_at sys (silent (Propagate i y)) m = inl (y, and_r (is_machine sys i) (is_location sys y) m, λ x. refl)
only_at sys (silent (WriteBack y)) m = inl (y, m, λ x. refl)

-- The potential of all locations together.
total : Topology → (Location → Local) → ℕ
total sys f = sum (length sys.homes) (λ x. rank sys x (f x))

-- A step from the short forms f: action a is named and is possible at every location.
module _ (sys : Topology) (w : WellFormed sys) (a : Action) (m : T (named sys a)) (f : Location → Local)
    (p : (x : Location) → T (is_location sys x) → T (possible_at sys x a (f x))) where
  abbrev then : Location → Local
  then x = next_at sys x a (f x)

  -- Where the action concerns a location, its potential changes; elsewhere it stays.
  here : (x : Location) → T (is_location sys x) → concerns x a ≡ true
      → rank sys x (then x) + loss a ≤ rank sys x (f x) + gain a
  unfolding next_at possible_at
  here x l e = rw e (rank_step sys x a (f x) (w x l) m (rw e at (p x l)))

  elsewhere : (x : Location) → concerns x a ≡ false → rank sys x (then x) ≤ rank sys x (f x)
  unfolding next_at
  elsewhere x e = rw e (omega arith)

  -- The sum changes as at the one location that the action concerns, and a crash adds nowhere.
  at_one : OnlyAt sys a → total sys then + loss a ≤ total sys f + gain a
  unfolding total is_location
  at_one u =
      let y = u.0 in
      sum_at (length sys.homes) y (λ x. rank sys x (then x)) (λ x. rank sys x (f x)) (loss a) (gain a)
      (ltb→lt y (length sys.homes) u.1)
      (λ x ne. elsewhere x (u.2 x ∙ not→false (ne→test x y ne)))
      (here y u.1 (u.2 y ∙ T→true (eqb_refl y)))

  at_all : gain a ≡ 0 → loss a ≡ 0 → total sys then ≤ total sys f
  unfolding total is_location
  at_all g e =
      sum_le (length sys.homes) (λ x. rank sys x (then x)) (λ x. rank sys x (f x))
      (λ x l.
      by_test (concerns x a)
      (λ t. omega (arith, here x (lt→ltb x (length sys.homes) l) (T→true t)))
      (λ t. elsewhere x (not→false t)))

  -- Each action changes the potential of all locations by no more than it may at one.
  total_step : total sys then + loss a ≤ total sys f + gain a
  total_step = ⊎_elim at_one (λ u. omega (arith, at_all u.0 u.1)) (only_at sys a m)

-- What a list of events may add.
abbrev budget : List Event → ℕ
budget es = 2 * count is_store es + count is_load es

add_one : (b : Bool) (n : ℕ) → cond b (suc n) n ≡ one b + n
add_one true n = omega arith
add_one false n = omega arith

budget_cons : (a : Action) (acts : List Action) → budget (events (a ∷ acts)) ≡ gain a + budget (events acts)
unfolding events count gain
budget_cons (event e) acts =
    let es = events acts in
    omega (arith, add_one (is_store e) (count is_store es), add_one (is_load e) (count is_load es))
budget_cons (silent s) acts = omega arith

silents_cons : (a : Action) (acts : List Action)
    → length (silents (a ∷ acts)) ≡ loss a + length (silents acts)
unfolding silents loss
silents_cons (event e) acts = omega arith
silents_cons (silent s) acts = omega arith

-- From any short forms, silent steps are paid for by their potential and by what the events add.
bound_from : (sys : Topology) → WellFormed sys → (acts : List Action) (f : Location → Local)
    → T (all_named sys acts) → ((x : Location) → T (is_location sys x) → T (runs_at sys x acts (f x)))
    → length (silents acts) ≤ total sys f + budget (events acts)
unfolding all_named runs_at silents
bound_from sys w [] f m r = omega arith
bound_from sys w (a ∷ acts) f m r =
    let g : Location → Local = λ x. next_at sys x a (f x) in
    omega (
      arith,
      total_step sys w a (and_l (named sys a) (all_named sys acts) m) f
          (λ x l. and_l (possible_at sys x a (f x)) (runs_at sys x acts (g x)) (r x l)),
      bound_from sys w acts g (and_r (named sys a) (all_named sys acts) m)
          (λ x l. and_r (possible_at sys x a (f x)) (runs_at sys x acts (g x)) (r x l)),
      budget_cons a acts,
      silents_cons a acts,
    )

total_start : (sys : Topology) → total sys (start_at sys) ≡ 0
unfolding total
total_start sys = sum_zero (length sys.homes) (λ x. rank sys x (start_at sys x)) (rank_start sys)

-- A run has at most two silent steps for each store and one for each load.
pub bound : (sys : Topology) → WellFormed sys → (acts : List Action) → Run sys acts
    → length (silents acts) ≤ 2 * count is_store (events acts) + count is_load (events acts)
bound sys w acts r =
    let s = (split_run sys w acts).0 r in
    omega (arith, bound_from sys w acts (start_at sys) s.0 s.1, total_start sys)

-- An event adds at most 2.
budget_le : (es : List Event) → budget es ≤ 2 * length es
unfolding count is_store is_load
budget_le [] = omega arith
budget_le (LStore i x v ∷ es) = omega (arith, budget_le es)
budget_le (RStore i x v ∷ es) = omega (arith, budget_le es)
budget_le (MStore i x v ∷ es) = omega (arith, budget_le es)
budget_le (Load i x v ∷ es) = omega (arith, budget_le es)
budget_le (LFlush i x ∷ es) = omega (arith, budget_le es)
budget_le (RFlush i x ∷ es) = omega (arith, budget_le es)
budget_le (Crash i ∷ es) = omega (arith, budget_le es)
budget_le (SetCrash set ∷ es) = omega (arith, budget_le es)
budget_le (RMW form i x v w ∷ es) = omega (arith, budget_le es)

-- A run of a log, which has at most 128 events, has at most 256 silent steps.
pub bound_256 : (sys : Topology) → WellFormed sys → (acts : List Action) → Run sys acts
    → length (events acts) ≤ 128 → length (silents acts) ≤ 256
bound_256 sys w acts r h = omega (arith, bound sys w acts r, budget_le (events acts))
