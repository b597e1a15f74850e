-- A location whose value is in memory alone stays so until the next store of it, through crashes too if its
-- owner's memory is persistent; and a load of it returns that value.
use Prim.Native.Nat.{ℕ, suc}
use native.Mathlib.Omega.{arith}
use mathlib.Core.Path.{◌≡◌, refl, sym, ap, ◌∙◌, subst, fun_ext}
use mathlib.Core.Bool.{Bool, true, false, cond, not, ◌&&◌, and-false}
use mathlib.Core.List.{List, [], ◌∷◌, ◌++◌}
use mathlib.Core.Option.{Option, none}
use lib.Dec.{T, T_not, eqb, eqb→eq}
use Rattle.model.specs.Cxl0.{Machine, Location, Value, Topology, is_machine, is_location, owner, is_persistent}
use Rattle.model.specs.Cxl0.{WellFormed, State, holds, some_machine, cached, crashes, clears, crashed}
use Rattle.model.specs.Cxl0.{LStore, RStore, MStore, Load, LFlush, RFlush, Crash, SetCrash}
use Rattle.model.specs.Cxl0.{RMW, Form, L, R, M}
use Rattle.model.specs.Cxl0.{Propagate, WriteBack, stored}
use Rattle.model.specs.Cxl0.{Event, Silent, Action, event, silent, named, enabled, possible, next}
use Rattle.model.specs.Cxl0.{runs, after, events, count, is_store}
use Rattle.model.specs.OneLocation.{concerns, event_at, silent_at, location_of}
use Rattle.model.specs.Goes.{Goes, NoStore}
use Rattle.model.proofs.Tests.{by_test, T→true, not→false, and_l, and_r}
use Rattle.model.proofs.Machines.{none_e, none_i}
use Rattle.model.proofs.Goes.{first, parts}
use Rattle.model.proofs.Stores.{uncached_lacks, steps_of}
use Rattle.model.proofs.ReadModifyWrites.{load_apart, load_memory, store_settles}

-- x is m in memory alone: no cache holds x, and its memory holds m.
abbrev pub InMemory : Topology → Location → Value → State → Type 0
InMemory sys x m s = T (not (cached sys s x)) × (s.memory x ≡ m)

-- ---- an action elsewhere

store_apart_cache : (sys : Topology) (x y : Location) (form : Form) (i : Machine) (v : Value) (s : State)
    → eqb x y ≡ false → (j : Machine) → (stored sys form i y v s).cache j x ≡ s.cache j x
store_apart_cache sys x y L i v s d j = rw d
store_apart_cache sys x y R i v s d j = rw d
store_apart_cache sys x y M i v s d j = rw d

store_apart_memory : (sys : Topology) (x y : Location) (form : Form) (i : Machine) (v : Value) (s : State)
    → eqb x y ≡ false → (stored sys form i y v s).memory x ≡ s.memory x
store_apart_memory sys x y L i v s d = refl
store_apart_memory sys x y R i v s d = refl
store_apart_memory sys x y M i v s d = rw d

apart_cache : (sys : Topology) (x : Location) (a : Action) (s : State) → T (not (concerns x a))
    → (j : Machine) → (next sys a s).cache j x ≡ s.cache j x
unfolding next concerns event_at location_of silent_at
apart_cache sys x (event (LStore i y v)) s d j = store_apart_cache sys x y L i v s (not→false d) j
apart_cache sys x (event (RStore i y v)) s d j = store_apart_cache sys x y R i v s (not→false d) j
apart_cache sys x (event (MStore i y v)) s d j = store_apart_cache sys x y M i v s (not→false d) j
apart_cache sys x (event (Load i y v)) s d j = load_apart sys i y v s j x (not→false d)
apart_cache sys x (event (LFlush i y)) s d j = refl
apart_cache sys x (event (RFlush i y)) s d j = refl
apart_cache sys x (event (Crash i)) s d j = absurd d
apart_cache sys x (event (SetCrash set)) s d j = absurd d
apart_cache sys x (event (RMW form i y v w)) s d j =
    rw (store_settles sys i y v s form w) (store_apart_cache sys x y form i w s (not→false d) j)
apart_cache sys x (silent (Propagate i y)) s d j = rw (not→false {b = eqb x y} d)
apart_cache sys x (silent (WriteBack y)) s d j = rw (not→false {b = eqb x y} d)

apart_memory : (sys : Topology) (x : Location) (a : Action) (s : State) → T (not (concerns x a))
    → (next sys a s).memory x ≡ s.memory x
unfolding next concerns event_at location_of silent_at
apart_memory sys x (event (LStore i y v)) s d = store_apart_memory sys x y L i v s (not→false d)
apart_memory sys x (event (RStore i y v)) s d = store_apart_memory sys x y R i v s (not→false d)
apart_memory sys x (event (MStore i y v)) s d = store_apart_memory sys x y M i v s (not→false d)
apart_memory sys x (event (Load i y v)) s d = load_memory sys i y v s x
apart_memory sys x (event (LFlush i y)) s d = refl
apart_memory sys x (event (RFlush i y)) s d = refl
apart_memory sys x (event (Crash i)) s d = absurd d
apart_memory sys x (event (SetCrash set)) s d = absurd d
apart_memory sys x (event (RMW form i y v w)) s d =
    rw (store_settles sys i y v s form w) (store_apart_memory sys x y form i w s (not→false d))
apart_memory sys x (silent (Propagate i y)) s d = refl
apart_memory sys x (silent (WriteBack y)) s d = rw (not→false {b = eqb x y} d)

apart_cached : (sys : Topology) (x : Location) (a : Action) (s : State) → T (not (concerns x a))
    → cached sys (next sys a s) x ≡ cached sys s x
unfolding cached
apart_cached sys x a s d =
    ap (some_machine sys.machines) (fun_ext (λ j. ap holds (apart_cache sys x a s d j)))

-- An action elsewhere leaves x as it is.
apart_kept : (sys : Topology) (x : Location) (m : Value) (a : Action) (s : State) → T (not (concerns x a))
    → InMemory sys x m s → InMemory sys x m (next sys a s)
apart_kept sys x m a s d h = (rw (apart_cached sys x a s d) h.0, apart_memory sys x a s d ∙ h.1)

-- ---- an action of x

-- A crash leaves no cache with x, where none has it.
crash_cached : (sys : Topology) (x : Location) (e : Event) (s : State) → T (not (cached sys s x))
    → T (not (cached sys (crashed sys e s) x))
unfolding cached
crash_cached sys x e s h =
    none_i sys.machines (λ j. holds (cond (crashes e j) none (s.cache j x)))
    (λ j l u. lose (crashes e j) (s.cache j x) (none_e sys.machines (λ j. holds (s.cache j x)) h j l u))
  where
    lose : (b : Bool) (c : Option Value) → T (not (holds c)) → T (not (holds (cond b none c)))
    lose true c t = tt
    lose false c t = t

-- And it leaves x in memory alone, also if the owner crashes, where the memory is persistent.
crash_kept : (sys : Topology) (x : Location) (m : Value) → T (is_persistent sys x)
    → (e : Event) (s : State) → InMemory sys x m s → InMemory sys x m (crashed sys e s)
unfolding clears
crash_kept sys x m p e s h =
    let kept = T→true {b = is_persistent sys x} p in
    (crash_cached sys x e s h.0, rw (kept, and-false (crashes e (owner sys x))) h.1)

-- So does any other event that is no store.
event_kept : (sys : Topology) (x : Location) (m : Value) → T (is_persistent sys x)
    → (e : Event) (s : State) → T (event_at x e) → T (not (is_store e))
    → InMemory sys x m s → InMemory sys x m (next sys (event e) s)
unfolding next event_at location_of is_store
event_kept sys x m p (LStore i y v) s t n h = absurd n
event_kept sys x m p (RStore i y v) s t n h = absurd n
event_kept sys x m p (MStore i y v) s t n h = absurd n
event_kept sys x m p (Load i y v) s t n h =
    let empty = subst (λ (y : Location). T (not (cached sys s y))) (eqb→eq x y t) h.0 in
    rw (not→false {b = cached sys s y} empty) h
event_kept sys x m p (LFlush i y) s t n h = h
event_kept sys x m p (RFlush i y) s t n h = h
event_kept sys x m p (Crash i) s t n h = crash_kept sys x m p (Crash i) s h
event_kept sys x m p (SetCrash set) s t n h = crash_kept sys x m p (SetCrash set) s h
event_kept sys x m p (RMW form i y v w) s t n h = absurd n

-- Where no cache holds x, no silent step of x is possible.
silent_none : (sys : Topology) → WellFormed sys → (x : Location) (s : State) → T (not (cached sys s x))
    → (a : Silent) → T (silent_at x a) → ¬ T (possible sys (silent a) s)
unfolding possible named enabled
silent_none sys w x s empty =
    let k = owner sys x in
    steps_of x _
    (λ i c.
    let fit = is_machine sys i && is_location sys x in
    let asks = not (eqb i k) && holds (s.cache i x) in
    let h = and_r (not (eqb i k)) (holds (s.cache i x)) (and_r fit asks c) in
    let m = and_l (is_machine sys i) (is_location sys x) (and_l fit asks c) in
    T_not (holds (s.cache i x)) (uncached_lacks sys x s i empty m) h)
    (λ c.
    let l = and_l (is_location sys x) (holds (s.cache k x)) c in
    let h = and_r (is_location sys x) (holds (s.cache k x)) c in
    T_not (holds (s.cache k x)) (uncached_lacks sys x s k empty (w x l)) h)

-- ---- any actions but stores of x

no_store : (x : Location) (e : Event) (es : List Event) → NoStore x (e ∷ es)
    → T (not (event_at x e && is_store e)) × NoStore x es
unfolding count
no_store x e es n = go (event_at x e && is_store e) (count (λ e. event_at x e && is_store e) es) n
  where
    go : (b : Bool) (c : ℕ) → cond b (suc c) c ≡ 0 → T (not b) × (c ≡ 0)
    go true c h = absurd (omega arith)
    go false c h = (tt, h)

module _ (sys : Topology) (w : WellFormed sys) (x : Location) (p : T (is_persistent sys x)) where
  event_step : (m : Value) (e : Event) (s : State) → T (not (event_at x e && is_store e))
      → InMemory sys x m s → InMemory sys x m (next sys (event e) s)
  unfolding concerns
  event_step m e s n h =
      by_test (event_at x e)
      (λ t. event_kept sys x m p e s t (rw (T→true {b = event_at x e} t) at n) h)
      (λ t. apart_kept sys x m (event e) s t h)

  silent_step : (m : Value) (a : Silent) (s : State) → T (possible sys (silent a) s)
      → InMemory sys x m s → InMemory sys x m (next sys (silent a) s)
  unfolding concerns
  silent_step m a s c h =
      by_test (silent_at x a)
      (λ t. absurd (silent_none sys w x s h.0 a t c))
      (λ t. apart_kept sys x m (silent a) s t h)

  -- One after the other, they leave x in memory alone.
  each_kept : (m : Value) (acts : List Action) (s : State) → T (runs sys acts s) → NoStore x (events acts)
      → InMemory sys x m s → InMemory sys x m (after sys acts s)
  unfolding runs after events
  each_kept m [] s r n h = h
  each_kept m (event e ∷ acts) s r n h =
      let then = next sys (event e) s in
      let o = no_store x e (events acts) n in
      let rest = and_r (possible sys (event e) s) (runs sys acts then) r in
      each_kept m acts then rest o.1 (event_step m e s o.0 h)
  each_kept m (silent a ∷ acts) s r n h =
      let then = next sys (silent a) s in
      let c = and_l (possible sys (silent a) s) (runs sys acts then) r in
      let rest = and_r (possible sys (silent a) s) (runs sys acts then) r in
      each_kept m acts then rest n (silent_step m a s c h)

  kept : (m : Value) {es : List Event} {s' : State} (s : State) → Goes sys es s s' → NoStore x es
      → InMemory sys x m s → InMemory sys x m s'
  kept m s q n h = subst (InMemory sys x m) q.3 (each_kept m q.0 s q.2 (rw q.1 n) h)

  -- So a load of x that follows returns the value in memory.
  pub reads : (m v : Value) (j : Machine) (es fs : List Event) {s' : State} (s : State) → NoStore x es
      → InMemory sys x m s → Goes sys (es ++ Load j x v ∷ fs) s s' → v ≡ m
  unfolding possible enabled count
  reads m v j es fs s n h q =
      let a = parts sys es (Load j x v ∷ fs) s q in
      let f = first sys a.0 a.2 in
      let t = f.at in
      let r = kept m a.0 f.before refl (kept m s a.1 n h) in
      let c = and_r (named sys (event (Load j x v))) _ f.can in
      let e = rw (not→false {b = cached sys t x} r.0) at c in
      sym (eqb→eq (t.memory x) v e) ∙ r.1
