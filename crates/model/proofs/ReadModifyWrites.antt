-- A read-modify-write is a load and a store side by side. Its load changes no memory and no other location, and its
-- store settles what caches hold of x, so that it leaves the state that the store alone leaves.
use mathlib.Core.Path.{◌≡◌, refl, sym, ap, ◌∙◌, subst}
use mathlib.Core.Logic.{◌↔◌}
use mathlib.Core.Bool.{Bool, true, false, cond, ◌&&◌}
use mathlib.Core.List.{List, ◌∷◌, ◌++◌}
use mathlib.Core.Option.{Option, none, some}
use lib.Dec.{T, eqb}
use Rattle.model.specs.Cxl0.{Machine, Location, Value, Topology, State, is_machine, is_location, owner, start}
use Rattle.model.specs.Cxl0.{Form, L, R, M, Load, RMW, Action, event}
use Rattle.model.specs.Cxl0.{cached, also, stored, loaded, readable, named, enabled, possible, next}
use Rattle.model.specs.Cxl0.{runs, after, Run}
use Rattle.model.specs.OneLocation.{Site, Local, stored_at, loaded_at}
use Rattle.model.specs.Goes.{store_of}
use Rattle.model.proofs.Tests.{by_test, T→true, not→false}
use Rattle.model.proofs.Goes.{runs_append}

-- ---- the state after it

module _ (sys : Topology) (i : Machine) (x : Location) (v : Value) (s : State) where
  abbrev read : State
  read = loaded sys i x v s

  -- The load leaves every other location as it is, and every memory.
  pub load_apart : (j : Machine) (y : Location) → eqb y x ≡ false → read.cache j y ≡ s.cache j y
  load_apart j y d = go (cached sys s x)
    where
      go : (b : Bool)
          → (cond b (record { cache = also i x (some v) s; memory = s.memory }) s).cache j y ≡ s.cache j y
      go true = rw d
      go false = refl

  pub load_memory : (y : Location) → read.memory y ≡ s.memory y
  load_memory y = go (cached sys s x)
    where
      go : (b : Bool) → (cond b (record { cache = also i x (some v) s; memory = s.memory }) s).memory y ≡ s.memory y
      go true = refl
      go false = refl

  -- What a store says of x, the load does not change.
  settled : (c : Option Value) (j : Machine) (y : Location)
      → cond (eqb y x) c (read.cache j y) ≡ cond (eqb y x) c (s.cache j y)
  settled c j y =
      by_test (eqb y x)
      (λ t. rw (T→true {b = eqb y x} t))
      (λ t. rw (not→false {b = eqb y x} t) (load_apart j y (not→false {b = eqb y x} t)))

  -- After the store the load makes no difference.
  pub store_settles : (form : Form) (w : Value) → stored sys form i x w read ≡ stored sys form i x w s
  store_settles L w =
      λ t. record { cache = λ j y. settled (cond (eqb j i) (some w) none) j y t; memory = λ y. load_memory y t }
  store_settles R w =
      let k = owner sys x in
      λ t. record { cache = λ j y. settled (cond (eqb j k) (some w) none) j y t; memory = λ y. load_memory y t }
  store_settles M w =
      λ t. record { cache = λ j y. settled none j y t; memory = λ y. ap (cond (eqb y x) w) (load_memory y) t }

-- So it is at one location.
pub settles_at : (k : Site) (form : Form) (i : Machine) (w : Value) (s : Local)
    → stored_at k form i w (loaded_at i s) ≡ stored_at k form i w s
settles_at k L i w s = refl
settles_at k R i w s = refl
settles_at k M i w s = refl

-- ---- its runs

-- What names what is there, and can be read, is not asked twice.
asked_once : (names reads rest : Bool) → (names && reads && rest) ≡ (names && reads && (names && true && rest))
asked_once true reads rest = refl
asked_once false reads rest = refl

module _ (sys : Topology) (i : Machine) (x : Location) (v w : Value) where
  -- It is possible, and what follows runs from there, exactly as with load and store in its place and nothing between.
  runs_both : (form : Form) (acts : List Action) (s : State)
      → runs sys (event (RMW form i x v w) ∷ acts) s
      ≡ runs sys (event (Load i x v) ∷ event (store_of form i x w) ∷ acts) s
  unfolding runs possible named enabled next
  runs_both L acts s = asked_once (is_machine sys i && is_location sys x) (readable sys x v s) _
  runs_both R acts s = asked_once (is_machine sys i && is_location sys x) (readable sys x v s) _
  runs_both M acts s = asked_once (is_machine sys i && is_location sys x) (readable sys x v s) _

  -- The state is the same too.
  pub after_both : (form : Form) (acts : List Action) (s : State)
      → after sys (event (RMW form i x v w) ∷ acts) s
      ≡ after sys (event (Load i x v) ∷ event (store_of form i x w) ∷ acts) s
  unfolding after next
  after_both L acts s = refl
  after_both R acts s = refl
  after_both M acts s = refl

  -- A list with a read-modify-write is a run exactly where it is one with load and store side by side in its place.
  pub run_both : (form : Form) (before acts : List Action)
      → Run sys (before ++ event (RMW form i x v w) ∷ acts)
      ↔ Run sys (before ++ event (Load i x v) ∷ event (store_of form i x w) ∷ acts)
  run_both form before acts =
      let both = event (Load i x v) ∷ event (store_of form i x w) ∷ acts in
      let same = runs_append sys before (event (RMW form i x v w) ∷ acts) (start sys)
      ∙ ap (λ (b : Bool). runs sys before (start sys) && b) (runs_both form acts (after sys before (start sys)))
      ∙ sym (runs_append sys before both (start sys)) in
      (subst T same, subst T (sym same))
