-- A set crash is the row of its single crashes, in any order, with nothing between them; copies that move between
-- single crashes are what it rules out. And a crash of all machines leaves every cache empty.
use Prim.Native.Nat.{ℕ, zero, suc, ◌^◌, ◌≤◌}
use native.Mathlib.Omega.{arith}
use mathlib.Core.Path.{◌≡◌, refl, sym, ap, ◌∙◌, subst}
use mathlib.Core.Logic.{◌↔◌, ⊎_elim}
use mathlib.Core.Bool.{Bool, true, false, cond, not, ◌&&◌, ◌||◌, and-true}
use mathlib.Core.List.{List, [], ◌∷◌, ◌++◌, map}
use mathlib.Core.Option.{none}
use lib.Dec.{T, T_not, leb, ltb, eqb, eqb→eq, eqb_refl, le→leb, ltb→lt, lt→ltb}
use Rattle.model.specs.Cxl0.{Machine, Location, MachineSet, Topology, State, is_machine, start}
use Rattle.model.specs.Cxl0.{every_machine, holds, cached, crashes, clears, crashed, owner, initial, is_persistent}
use Rattle.model.specs.Cxl0.{Event, Crash, SetCrash, Action, event, named, enabled, possible, next}
use Rattle.model.specs.Cxl0.{all_named, runs, after, events, Run, HasRun}
use Rattle.model.specs.Sharers.{has}
use Rattle.model.specs.Goes.{Goes, is_in, Lists, crash_row}
use Rattle.model.proofs.Tests.{by_test, T→true, same_test, and_i, and_l, and_r, or_l, or_r, or_cases, ne_test}
use Rattle.model.proofs.Machines.{every_e, none_i}
use Rattle.model.proofs.Sharers.{has_bound, members_bound}
use Rattle.model.proofs.Expand.{machine_bounds, branch}
use Rattle.model.proofs.Goes.{after_append, runs_append, in_turn, parts, first}

abbrev row : List Machine → List Action
row is = map event (crash_row is)

-- ---- the machines of a set

-- Those of machines 1 to n that are in the set, from the last on.
abbrev listed : ℕ → MachineSet → List Machine
listed zero set = []
listed (suc n) set = cond (has (suc n) set) (suc n ∷ listed n set) (listed n set)

listed_has : (n : ℕ) (set : MachineSet) (j : Machine) → T (is_in j (listed n set)) → T (has j set)
unfolding is_in
listed_has zero set j t = absurd t
listed_has (suc n) set j t =
    branch (λ is. T (is_in j is) → T (has j set)) (has (suc n) set) (suc n ∷ listed n set) (listed n set)
    (λ in_set u.
    ⊎_elim (λ e. rw (eqb→eq j (suc n) e) in_set) (listed_has n set j)
    (or_cases (eqb j (suc n)) (is_in j (listed n set)) u))
    (λ out u. listed_has n set j u)
    t

has_listed : (n : ℕ) (set : MachineSet) (j : Machine) → 1 ≤ j → j ≤ n → T (has j set) → T (is_in j (listed n set))
unfolding is_in
has_listed zero set j l h t = absurd (omega arith)
has_listed (suc n) set j l h t =
    branch (λ is. T (is_in j is)) (has (suc n) set) (suc n ∷ listed n set) (listed n set)
    (λ in_set.
    by_test (eqb j (suc n))
    (λ e. or_l (eqb j (suc n)) (is_in j (listed n set)) e)
    (λ e.
    let other = ne_test j (suc n) e in
    or_r (eqb j (suc n)) (is_in j (listed n set)) (has_listed n set j l (omega arith) t)))
    (λ out.
    by_test (eqb j (suc n))
    (λ e. absurd (T_not (has (suc n) set) out (rw (eqb→eq j (suc n) e) at t)))
    (λ e. let other = ne_test j (suc n) e in has_listed n set j l (omega arith) t))

-- Every set of machines of the system has a list of them.
pub some_list : (sys : Topology) (set : MachineSet) → T (named sys (event (SetCrash set)))
    → (is : List Machine) × Lists set is
unfolding named
some_list sys set names =
    let n = sys.machines in (
      listed n set,
      λ j. same_test (has j set) (is_in j (listed n set))
          (λ t. let b = has_bound n j set (ltb→lt set (2 ^ n) names) t in has_listed n set j b.0 b.1 t)
          (listed_has n set j),
    )

-- ---- the state after a row of crashes

-- What is lost twice is lost once.
lost_twice {ℓ} : {A : Type ℓ} (a b : Bool) (c d : A) → cond b c (cond a c d) ≡ cond (a || b) c d
lost_twice true true c d = refl
lost_twice true false c d = refl
lost_twice false b c d = refl

cleared_twice {ℓ} : {A : Type ℓ} (a b v : Bool) (c d : A)
    → cond (b && v) c (cond (a && v) c d) ≡ cond ((a || b) && v) c d
cleared_twice a b v c d = lost_twice (a && v) (b && v) c d ∙ ap (λ t. cond t c d) (go a b v)
  where
    go : (a b v : Bool) → ((a && v) || (b && v)) ≡ ((a || b) && v)
    go true true true = refl
    go true true false = refl
    go true false true = refl
    go true false false = refl
    go false b v = refl

module _ (sys : Topology) where
  -- The caches of its machines are empty, and their volatile memories have their initial values again.
  row_cache : (is : List Machine) (s : State) (j : Machine) (y : Location)
      → (after sys (row is) s).cache j y ≡ cond (is_in j is) none (s.cache j y)
  unfolding after next crashes is_in crash_row
  row_cache [] s j y = refl
  row_cache (i ∷ is) s j y =
      row_cache is (crashed sys (Crash i) s) j y ∙ lost_twice (eqb j i) (is_in j is) none (s.cache j y)

  row_memory : (is : List Machine) (s : State) (y : Location)
      → (after sys (row is) s).memory y
      ≡ cond (is_in (owner sys y) is && not (is_persistent sys y)) (initial sys y) (s.memory y)
  unfolding after next crashes clears is_in crash_row
  row_memory [] s y = refl
  row_memory (i ∷ is) s y =
      let k = owner sys y in
      row_memory is (crashed sys (Crash i) s) y
      ∙ cleared_twice (eqb k i) (is_in k is) (not (is_persistent sys y)) (initial sys y) (s.memory y)

  -- ---- what a row names

  row_named : (is : List Machine) → ((j : Machine) → T (is_in j is) → T (is_machine sys j)) → T (all_named sys (row is))
  unfolding all_named named is_in crash_row
  row_named [] f = tt
  row_named (i ∷ is) f =
      and_i (is_machine sys i) (all_named sys (row is))
      (f i (or_l (eqb i i) (is_in i is) (eqb_refl i)))
      (row_named is (λ j t. f j (or_r (eqb j i) (is_in j is) t)))

  named_row : (is : List Machine) → T (all_named sys (row is)) → (j : Machine) → T (is_in j is) → T (is_machine sys j)
  unfolding all_named named is_in crash_row
  named_row [] n j t = absurd t
  named_row (i ∷ is) n j t =
      ⊎_elim
      (λ e. rw (eqb→eq j i e) (and_l (is_machine sys i) (all_named sys (row is)) n))
      (named_row is (and_r (is_machine sys i) (all_named sys (row is)) n) j)
      (or_cases (eqb j i) (is_in j is) t)

  -- A row of crashes is possible exactly where it names machines of the system.
  row_runs : (is : List Machine) (s : State) → runs sys (row is) s ≡ all_named sys (row is)
  unfolding runs possible named enabled all_named crash_row
  row_runs [] s = refl
  row_runs (i ∷ is) s =
      rw (and-true (is_machine sys i), row_runs is (next sys (event (Crash i)) s))

  -- ---- a set and the row of its machines

  module _ (set : MachineSet) (is : List Machine) (lists : Lists set is) where
    -- Both lead to the same state.
    same_state : (s : State) → next sys (event (SetCrash set)) s ≡ after sys (row is) s
    unfolding next crashes clears
    same_state s =
        let k : Location → Machine = owner sys in
        let caches : (j : Machine) (y : Location)
        → cond (has j set) none (s.cache j y) ≡ (after sys (row is) s).cache j y
        = λ j y. ap (λ b. cond b none (s.cache j y)) (lists j) ∙ sym (row_cache is s j y) in
        let memories : (y : Location)
        → cond (has (k y) set && not (is_persistent sys y)) (initial sys y) (s.memory y)
        ≡ (after sys (row is) s).memory y
        = λ y. ap (λ b. cond (b && not (is_persistent sys y)) (initial sys y) (s.memory y)) (lists (k y))
        ∙ sym (row_memory is s y) in
        λ t. record { cache = λ j y. caches j y t; memory = λ y. memories y t }

    pub after_set : (acts : List Action) (s : State)
        → after sys (event (SetCrash set) ∷ acts) s ≡ after sys (row is ++ acts) s
    unfolding after
    after_set acts s = ap (after sys acts) (same_state s) ∙ sym (after_append sys (row is) acts s)

    -- Both name machines of the system, or neither does.
    same_names : named sys (event (SetCrash set)) ≡ all_named sys (row is)
    unfolding named is_machine
    same_names =
        let n = sys.machines in
        same_test (ltb set (2 ^ n)) (all_named sys (row is))
        (λ t.
        row_named is
        (λ j in_row.
        let b = has_bound n j set (ltb→lt set (2 ^ n) t) (rw (lists j) in_row) in
        and_i (leb 1 j) (leb j n) (le→leb 1 j b.0) (le→leb j n b.1)))
        (λ t.
        lt→ltb set (2 ^ n)
        (members_bound n set (λ j m. (machine_bounds sys j (named_row is t j (rw (lists j) at m))).1)))

    runs_set : (acts : List Action) (s : State)
        → runs sys (event (SetCrash set) ∷ acts) s ≡ runs sys (row is ++ acts) s
    unfolding runs possible enabled
    runs_set acts s =
        rw (
          runs_append sys (row is) acts s,
          row_runs is s,
          and-true (named sys (event (SetCrash set))),
          same_names,
          same_state s,
        )

    -- A list with a set crash is a run exactly where it is one with the row in its place, and no silent step between.
    pub run_set : (before acts : List Action)
        → Run sys (before ++ event (SetCrash set) ∷ acts) ↔ Run sys (before ++ (row is ++ acts))
    run_set before acts =
        let same = runs_append sys before (event (SetCrash set) ∷ acts) (start sys)
        ∙ ap (λ (b : Bool). runs sys before (start sys) && b) (runs_set acts (after sys before (start sys)))
        ∙ sym (runs_append sys before (row is ++ acts) (start sys)) in
        (subst T same, subst T (sym same))

    events_row : (is : List Machine) → events (row is) ≡ crash_row is
    unfolding events crash_row
    events_row [] = refl
    events_row (i ∷ is) = ap (◌∷◌ (Crash i)) (events_row is)

    -- So events that have a run with the set crash have one with the row in its place.
    pub has_run_row : (es fs : List Event)
        → HasRun sys (es ++ SetCrash set ∷ fs) → HasRun sys (es ++ (crash_row is ++ fs))
    unfolding HasRun possible
    has_run_row es fs r =
        let p = parts sys es (SetCrash set ∷ fs) (start sys) (r.0, r.1, r.2, refl) in
        let f = first sys p.0 p.2 in
        let names = and_l (named sys (event (SetCrash set))) (enabled sys (event (SetCrash set)) f.at) f.can in
        let run : T (runs sys (row is) f.at) = rw (row_runs is f.at, ← same_names) names in
        let crash : Goes sys (crash_row is) f.at (next sys (event (SetCrash set)) f.at) =
        (row is, events_row is, run, sym (same_state f.at)) in
        let rest = in_turn sys p.0 f.before (in_turn sys f.at crash f.rest) in
        let q = in_turn sys (start sys) p.1 rest in
        (q.0, q.1, q.2)

  -- ---- all machines

  -- A crash of every machine leaves every cache empty.
  pub all_empty : (set : MachineSet) → T (every_machine sys.machines (λ j. has j set))
      → (s : State) (x : Location) → T (not (cached sys (next sys (event (SetCrash set)) s) x))
  unfolding next cached crashes
  all_empty set all s x =
      none_i sys.machines (λ j. holds (cond (has j set) none (s.cache j x)))
      (λ j l h. rw (T→true {b = has j set} (every_e sys.machines (λ j. has j set) all j l h)) tt)
