-- A function that computes whether a list of events has a run, by a search of each location alone.
use Prim.Native.Nat.{ℕ, zero, suc, ◌^◌, ◌<◌}
use native.Mathlib.Nat.{not-suc-le-zero}
use native.Mathlib.Omega.{arith}
use mathlib.Core.Logic.{◌↔◌}
use mathlib.Core.Bool.{Bool, true, ◌&&◌}
use mathlib.Core.List.{List, [], ◌∷◌, map}
use lib.Dec.{T, eqb, eqb→eq, ltb→lt, lt→ltb}
use lib.ListN.{length}
use lib.Pow.{pow_pos}
use Rattle.model.specs.Cxl0.{Location, Topology, is_location, owner, WellFormed}
use Rattle.model.specs.Cxl0.{Event, event, named, all_named, HasRun}
use Rattle.model.specs.OneLocation.{Local, possible_at, next_at, start_at, HasRunAt, Silently}
use Rattle.model.proofs.Tests.{and_l, and_r, and_i, by_test, ne_test}
use Rattle.model.proofs.Expand.{machine_bounds, next_at_bound}
use Rattle.model.proofs.SilentSteps.{silently_bound}
use Rattle.model.proofs.Gaps.{has_run_nil, has_run_cons}
use Rattle.model.proofs.SomeSilent.{some_silent, some-silent}
use Rattle.model.proofs.Split.{split}

-- From s some gap leads to where the first event is possible, and after it the others are good.
unfoldable pub good : Topology → Location → List Event → Local → Bool
good sys x [] s = true
good sys x (e ∷ es) s =
    some_silent sys x
    (λ t.
    let rest = good sys x es (next_at sys x (event e) t) in
    possible_at sys x (event e) t && rest)
    s

module _ (sys : Topology) (w : WellFormed sys) (x : Location) (l : T (is_location sys x)) where
  -- A gap and an event of the system keep a code among those of the system's machines.
  gap_range : (e : Event) {s t : Local} → T (named sys (event e)) → Silently sys x s t
      → s.code < 2 ^ sys.machines → (next_at sys x (event e) t).code < 2 ^ sys.machines
  gap_range e {t} n r h =
      let b = machine_bounds sys (owner sys x) (w x l) in
      next_at_bound sys x w (event e) t n (silently_bound sys x sys.machines b.0 b.1 r h)

  -- The search is right for e and then es, if it is right for es from wherever e leads.
  good_cons : (e : Event) (es : List Event) (s : Local) → s.code < 2 ^ sys.machines
      → ((t : Local) → Silently sys x s t
      → T (good sys x es (next_at sys x (event e) t)) ↔ HasRunAt sys x es (next_at sys x (event e) t))
      → T (good sys x (e ∷ es) s) ↔ HasRunAt sys x (e ∷ es) s
  unfolding good
  good_cons e es s h later =
      let b = machine_bounds sys (owner sys x) (w x l) in
      let can : Local → Bool = possible_at sys x (event e) in
      let rest : Local → Bool = λ t. good sys x es (next_at sys x (event e) t) in
      let some = some-silent sys x b.0 b.1 (λ t. can t && rest t) s h in
      let first = has_run_cons sys x e es s in (
        λ g.
            let m = some.0 g in
            let c = can m.0 in
            let r = rest m.0 in
            first.1 (m.0, m.1, and_l c r m.2, (later m.0 m.1).0 (and_r c r m.2)),
        λ r.
            let f = first.0 r in
            some.1 (f.0, f.1, and_i (can f.0) (rest f.0) f.2 ((later f.0 f.1).1 f.3)),
      )

  -- The search at x finds a run of the events exactly where there is one.
  pub good_correct : (es : List Event) (s : Local)
      → s.code < 2 ^ sys.machines → T (all_named sys (map event es))
      → T (good sys x es s) ↔ HasRunAt sys x es s
  unfolding good all_named
  good_correct [] s h a = (λ t. has_run_nil sys x s, λ r. tt)
  good_correct (e ∷ es) s h a =
      let n = and_l (named sys (event e)) (all_named sys (map event es)) a in
      let ns = and_r (named sys (event e)) (all_named sys (map event es)) a in
      good_cons e es s h (λ t r. good_correct es (next_at sys x (event e) t) (gap_range e n r h) ns)

  good_start : (es : List Event) → T (all_named sys (map event es))
      → T (good sys x es (start_at sys x)) ↔ HasRunAt sys x es (start_at sys x)
  unfolding start_at
  good_start es = good_correct es (start_at sys x) (pow_pos sys.machines)

-- Every location below n passes a test.
unfoldable pub every_below : ℕ → (Location → Bool) → Bool
every_below zero test = true
every_below (suc n) test =
    let rest = every_below n test in
    test n && rest

below_e : (n : ℕ) (test : Location → Bool) → T (every_below n test) → (x : Location) → x < n → T (test x)
unfolding every_below
below_e zero test t x h = absurd (not-suc-le-zero h)
below_e (suc n) test t x h =
    by_test (eqb x n)
    (λ e. rw (eqb→eq x n e) (and_l (test n) (every_below n test) t))
    (λ e. below_e n test (and_r (test n) (every_below n test) t) x (omega (arith, ne_test x n e)))

below_i : (n : ℕ) (test : Location → Bool) → ((x : Location) → x < n → T (test x)) → T (every_below n test)
unfolding every_below
below_i zero test f = tt
below_i (suc n) test f =
    and_i (test n) (every_below n test) (f n (omega arith)) (below_i n test (λ x h. f x (omega arith)))

-- The events name machines and locations of the system, and every location has a run of them.
unfoldable pub decide : Topology → List Event → Bool
decide sys es =
    let search = every_below (length sys.homes) (λ x. good sys x es (start_at sys x)) in
    all_named sys (map event es) && search

-- The function says whether the events have a run.
pub decide_correct : (sys : Topology) → WellFormed sys → (es : List Event) → T (decide sys es) ↔ HasRun sys es
unfolding decide is_location
decide_correct sys w es =
    let fit = all_named sys (map event es) in
    let n = length sys.homes in
    let test : Location → Bool = λ x. good sys x es (start_at sys x) in (
      λ t.
          let a = and_l fit (every_below n test) t in
          let every = below_e n test (and_r fit (every_below n test) t) in
          (split sys w es).1 (a, λ x l. (good_start sys w x l es a).0 (every x (ltb→lt x n l))),
      λ r.
          let m = (split sys w es).0 r in
          and_i fit (every_below n test) m.0
          (below_i n test (λ x h. let l = lt→ltb x n h in (good_start sys w x l es m.0).1 (m.1 x l))),
    )
