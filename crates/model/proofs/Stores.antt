-- The stores against each other. After a store its copy is the only one, so that the next silent step of the
-- location can only carry this copy on, and makes of the store the next stronger one.
use mathlib.Core.Path.{◌≡◌, refl, sym, ◌∙◌, subst}
use mathlib.Core.Logic.{◌≢◌}
use mathlib.Core.Bool.{Bool, true, false, cond, not, ◌&&◌}
use mathlib.Core.List.{List, [], ◌∷◌, cons≢nil}
use mathlib.Core.Option.{none, some}
use lib.Dec.{T, T_not, eqb, eqb→eq, eqb_refl}
use Rattle.model.specs.Cxl0.{Machine, Location, Value, Topology, is_machine, is_location, owner}
use Rattle.model.specs.Cxl0.{WellFormed, State, holds, cached, only, without}
use Rattle.model.specs.Cxl0.{LStore, RStore, MStore, LFlush, RFlush, Propagate, WriteBack}
use Rattle.model.specs.Cxl0.{Event, Silent, Action, event, silent, named, enabled, possible, next}
use Rattle.model.specs.Cxl0.{runs, after, events}
use Rattle.model.specs.OneLocation.{silent_at}
use Rattle.model.specs.Goes.{Goes}
use Rattle.model.proofs.Tests.{by_test, T→true, not→false, and_i, and_l, and_r, ne_test, ne→test}
use Rattle.model.proofs.Machines.{none_e, none_i}
use Rattle.model.proofs.Expand.{machine_bounds}
use Rattle.model.proofs.Goes.{by_event, by_silent, in_turn, first, last_of_two, instead}

-- The state after m's cache got v for x and every other one lost x: after LStore by m, and after RStore if m
-- is the owner.
abbrev pub alone : Machine → Location → Value → State → State
alone m x v s = record { cache = only m x (some v) s; memory = s.memory }

-- Machine m's cache holds nothing for x.
abbrev pub Lacks : Machine → Location → State → Type 0
Lacks m x s = T (not (holds (s.cache m x)))

-- Where no cache holds x, the cache of no machine of the system does.
pub uncached_lacks : (sys : Topology) (x : Location) (s : State) (i : Machine) → T (not (cached sys s x))
    → T (is_machine sys i) → Lacks i x s
unfolding cached
uncached_lacks sys x s i h m =
    let b = machine_bounds sys i m in
    none_e sys.machines (λ j. holds (s.cache j x)) h i b.0 b.1

-- A silent step of x is a move of x or the write-back of x.
pub steps_of : (x : Location) (P : Silent → Type 0) → ((i : Machine) → P (Propagate i x)) → P (WriteBack x)
    → (a : Silent) → T (silent_at x a) → P a
unfolding silent_at
steps_of x P f g (Propagate i y) t = subst (λ (y : Location). P (Propagate i y)) (eqb→eq x y t) (f i)
steps_of x P f g (WriteBack y) t = subst (λ (y : Location). P (WriteBack y)) (eqb→eq x y t) g

-- ---- silent steps after a store

module _ (sys : Topology) (x : Location) (v : Value) where
  -- m holds x after the store, and no other machine does.
  stored_holds : (m : Machine) (s : State) → T (holds ((alone m x v s).cache m x))
  stored_holds m s = rw (T→true {b = eqb x x} (eqb_refl x), T→true {b = eqb m m} (eqb_refl m)) tt

  stored_lacks : (m j : Machine) (s : State) → j ≢ m → Lacks j x (alone m x v s)
  stored_lacks m j s d = rw (T→true {b = eqb x x} (eqb_refl x), not→false {b = eqb j m} (ne→test j m d)) tt

  holder : (m j : Machine) (s : State) → T (holds ((alone m x v s).cache j x)) → j ≡ m
  holder m j s h =
      by_test (eqb j m)
      (eqb→eq j m)
      (λ t. absurd (T_not (holds ((alone m x v s).cache j x)) (stored_lacks m j s (ne_test j m t)) h))

  -- The copy of another machine goes to the owner: RStore.
  pub move_stored : (i : Machine) (s : State) → i ≢ owner sys x
      → next sys (silent (Propagate i x)) (alone i x v s) ≡ alone (owner sys x) x v s
  unfolding next
  move_stored i s d = λ t. record { cache = λ j y. at j y t; memory = s.memory }
    where
      pick : (a b : Bool) → (T a → T b → ⊥)
          → cond a none (cond b (some v) (cond a (some v) none)) ≡ cond b (some v) none
      pick true true n = absurd (n tt tt)
      pick true false n = refl
      pick false b n = refl

      at : (j : Machine) (y : Location)
          → (next sys (silent (Propagate i x)) (alone i x v s)).cache j y
          ≡ (alone (owner sys x) x v s).cache j y
      at j y =
          by_test (eqb y x)
          (λ t.
          rw (T→true {b = eqb y x} t, T→true {b = eqb i i} (eqb_refl i))
          (pick (eqb j i) (eqb j (owner sys x)) (λ a b. d (sym (eqb→eq j i a) ∙ eqb→eq j (owner sys x) b))))
          (λ t. rw (not→false {b = eqb y x} t))

  -- The copy of the owner goes to memory: MStore.
  pub write_stored : (i : Machine) (s : State)
      → next sys (silent (WriteBack x)) (alone (owner sys x) x v s) ≡ next sys (event (MStore i x v)) s
  unfolding next
  write_stored i s = λ t. record { cache = λ j y. copies j y t; memory = λ y. value y t }
    where
      copies : (j : Machine) (y : Location)
          → without x (alone (owner sys x) x v s) j y ≡ without x s j y
      copies j y =
          by_test (eqb y x) (λ t. rw (T→true {b = eqb y x} t)) (λ t. rw (not→false {b = eqb y x} t))

      value : (y : Location)
          → (next sys (silent (WriteBack x)) (alone (owner sys x) x v s)).memory y
          ≡ cond (eqb y x) v (s.memory y)
      value y =
          let k = owner sys x in
          by_test (eqb y x)
          (λ t. rw (T→true {b = eqb y x} t, T→true {b = eqb k k} (eqb_refl k)))
          (λ t. rw (not→false {b = eqb y x} t))

  -- A location y that is not x, and a location z that is.
  other : (y z : Location) → T (not (eqb x y)) → T (eqb z x) → eqb z y ≡ false
  other y z d t = not→false (ne→test z y (λ e. ne_test x y d (sym (eqb→eq z x t) ∙ e)))

  away : (y : Location) → T (not (eqb x y)) → eqb y x ≡ false
  away y d = not→false (ne→test y x (λ e. ne_test x y d (sym e)))

  -- A silent step of another location asks for the same before the store and after it.
  apart_enabled : (m : Machine) (a : Silent) (s : State) → T (not (silent_at x a))
      → enabled sys (silent a) (alone m x v s) ≡ enabled sys (silent a) s
  unfolding enabled silent_at
  apart_enabled m (Propagate i y) s d = rw (away y d)
  apart_enabled m (WriteBack y) s d = rw (away y d)

  -- And it leads to the same state before the store and after it.
  apart_cache : (m : Machine) (a : Silent) (s : State) → T (not (silent_at x a)) → (j : Machine) (z : Location)
      → (next sys (silent a) (alone m x v s)).cache j z ≡ (alone m x v (next sys (silent a) s)).cache j z
  unfolding next silent_at
  apart_cache m (Propagate i y) s d j z =
      by_test (eqb z x)
      (λ t. rw (other y z d t, T→true {b = eqb z x} t))
      (λ t. rw (not→false {b = eqb z x} t))
  apart_cache m (WriteBack y) s d j z =
      by_test (eqb z x)
      (λ t. rw (other y z d t, T→true {b = eqb z x} t))
      (λ t. rw (not→false {b = eqb z x} t))

  apart_memory : (m : Machine) (a : Silent) (s : State) → T (not (silent_at x a)) → (z : Location)
      → (next sys (silent a) (alone m x v s)).memory z ≡ (next sys (silent a) s).memory z
  unfolding next silent_at
  apart_memory m (Propagate i y) s d z = refl
  apart_memory m (WriteBack y) s d z =
      by_test (eqb z x)
      (λ t. rw (other y z d t))
      (λ t. rw (not→false {b = eqb z x} t))

  apart_next : (m : Machine) (a : Silent) (s : State) → T (not (silent_at x a))
      → next sys (silent a) (alone m x v s) ≡ alone m x v (next sys (silent a) s)
  apart_next m a s d =
      λ t. record { cache = λ j y. apart_cache m a s d j y t; memory = λ y. apart_memory m a s d y t }

  -- ---- a store whose copy is gone at the end

  -- Each silent step of x that is possible after the store leads where the event e leads.
  abbrev Becomes : Machine → Event → Type 0
  Becomes m e =
      (a : Silent) → T (silent_at x a) → (s : State) → T (enabled sys (silent a) (alone m x v s))
      → next sys (silent a) (alone m x v s) ≡ next sys (event e) s

  -- m's copy goes by a silent step of x. Those of other locations before it could as well come before the
  -- store. So e leads wherever silent steps lead that end without m's copy.
  gone : (m : Machine) (e : Event) → ((s : State) → T (possible sys (event e) s)) → Becomes m e
      → (acts : List Action) (s : State) → events acts ≡ [] → T (runs sys acts (alone m x v s))
      → Lacks m x (after sys acts (alone m x v s))
      → Goes sys (e ∷ []) s (after sys acts (alone m x v s))
  unfolding events runs after possible
  gone m e can becomes [] s p r h = absurd (T_not (holds ((alone m x v s).cache m x)) h (stored_holds m s))
  gone m e can becomes (event d ∷ acts) s p r h = absurd (cons≢nil p)
  gone m e can becomes (silent a ∷ acts) s p r h =
      let u = next sys (silent a) (alone m x v s) in
      let names = named sys (silent a) in
      let asks = enabled sys (silent a) (alone m x v s) in
      let c = and_l (names && asks) (runs sys acts u) r in
      let rest = and_r (names && asks) (runs sys acts u) r in
      by_test (silent_at x a)
      (λ t.
      let same = becomes a t s (and_r names asks c) in
      let on = subst (λ (w : State). Goes sys [] w (after sys acts u)) same (acts, p, rest, refl) in
      in_turn sys s (by_event sys e s (can s)) on)
      (λ t.
      let same = apart_next m a s t in
      let asks' = rw (apart_enabled m a s t) at (and_r names asks c) in
      let h' = subst (λ (w : State). Lacks m x (after sys acts w)) same h in
      let on = gone m e can becomes acts (next sys (silent a) s) p (rw same at rest) h' in
      let first = by_silent sys a s (and_i names (enabled sys (silent a) s) (and_l names asks c) asks') in
      rw same (in_turn sys s first on))

  -- The same for the way by an event d that is a store at m, if e is possible where d is.
  gone_by : (m : Machine) (d e : Event) → ((s : State) → next sys (event d) s ≡ alone m x v s)
      → ((s t : State) → T (possible sys (event d) s) → T (possible sys (event e) t)) → Becomes m e
      → {s' : State} (s : State) → Goes sys (d ∷ []) s s' → Lacks m x s' → Goes sys (e ∷ []) s s'
  gone_by m d e is can becomes {s'} s p h =
      let f = first sys s p in
      let t = f.at in
      let r = subst (λ (w : State). Goes sys [] w s') (is t) f.rest in
      let h' = subst (Lacks m x) (sym r.3) h in
      let q = gone m e (λ u. can t u f.can) becomes r.0 t r.1 r.2 h' in
      in_turn sys s f.before (subst (Goes sys (e ∷ []) t) r.3 q)

  -- LStore by the owner is RStore.
  pub owner_lstore : (i : Machine) → i ≡ owner sys x → (s : State) → T (possible sys (event (LStore i x v)) s)
      → Goes sys (RStore i x v ∷ []) s (next sys (event (LStore i x v)) s)
  unfolding next possible named enabled
  owner_lstore i e s c =
      subst (λ (m : Machine). Goes sys (RStore i x v ∷ []) s (alone m x v s)) (sym e)
      (by_event sys (RStore i x v) s c)

  -- LStore leads where RStore leads, if its copy is gone at the end.
  lstore_gone : (i : Machine) {s' : State} (s : State)
      → Goes sys (LStore i x v ∷ []) s s' → Lacks i x s' → Goes sys (RStore i x v ∷ []) s s'
  unfolding next possible named enabled
  lstore_gone i s p h =
      let k = owner sys x in
      by_test (eqb i k)
      (λ t. instead sys (LStore i x v) (RStore i x v ∷ []) (owner_lstore i (eqb→eq i k t)) s p)
      (λ t.
      let d = ne_test i k t in
      gone_by i (LStore i x v) (RStore i x v) (λ u. refl) (λ u w c. c)
      (steps_of x _
      (λ j u q.
      let e = holder i j u (and_r (not (eqb j k)) (holds ((alone i x v u).cache j x)) q) in
      rw e (move_stored i u d))
      (λ u q. absurd (d (sym (holder i k u q)))))
      s p h)

  -- RStore leads where MStore leads, if its copy is gone at the end.
  rstore_gone : (i : Machine) {s' : State} (s : State)
      → Goes sys (RStore i x v ∷ []) s s' → Lacks (owner sys x) x s' → Goes sys (MStore i x v ∷ []) s s'
  unfolding next possible named enabled
  rstore_gone i =
      let k = owner sys x in
      gone_by k (RStore i x v) (MStore i x v) (λ s. refl) (λ s t c. c)
      (steps_of x _
      (λ j s q.
      let l = and_l (not (eqb j k)) (holds ((alone k x v s).cache j x)) q in
      let h = and_r (not (eqb j k)) (holds ((alone k x v s).cache j x)) q in
      absurd (ne_test j k l (holder k j s h)))
      (λ s q. write_stored i s))

  -- ---- a store and a silent step

  -- LStore, and then a move of its copy to the owner, is RStore.
  pub lstore_moves : (i : Machine) (s : State) → T (possible sys (event (RStore i x v)) s)
      → Goes sys (LStore i x v ∷ []) s (next sys (event (RStore i x v)) s)
  unfolding next possible named enabled
  lstore_moves i s c =
      let k = owner sys x in
      let fit = is_machine sys i && is_location sys x in
      let store = by_event sys (LStore i x v) s c in
      by_test (eqb i k)
      (λ t. subst (λ (m : Machine). Goes sys (LStore i x v ∷ []) s (alone m x v s)) (eqb→eq i k t) store)
      (λ t.
      let p = and_i (not (eqb i k)) (holds ((alone i x v s).cache i x)) t (stored_holds i s) in
      let move = by_silent sys (Propagate i x) (alone i x v s) (and_i fit _ (and_l fit true c) p) in
      rw (← move_stored i s (ne_test i k t)) (in_turn sys s store move))

  -- RStore, and then a write-back, is MStore.
  pub rstore_writes : (i : Machine) (s : State) → T (possible sys (event (MStore i x v)) s)
      → Goes sys (RStore i x v ∷ []) s (next sys (event (MStore i x v)) s)
  unfolding next possible named enabled
  rstore_writes i s c =
      let k = owner sys x in
      let fit = is_machine sys i && is_location sys x in
      let l = and_r (is_machine sys i) (is_location sys x) (and_l fit true c) in
      let p = and_i (is_location sys x) (holds ((alone k x v s).cache k x)) l (stored_holds k s) in
      let write = by_silent sys (WriteBack x) (alone k x v s) p in
      rw (← write_stored i s) (in_turn sys s (by_event sys (RStore i x v) s c) write)

  -- ---- a store and a flush

  -- After RStore by a machine that is not the owner, its LFlush is possible.
  pub rstore_lflush : (j : Machine) → j ≢ owner sys x
      → (s : State) → T (possible sys (event (RStore j x v)) s)
      → Goes sys (RStore j x v ∷ LFlush j x ∷ []) s (next sys (event (RStore j x v)) s)
  unfolding next possible named enabled
  rstore_lflush j d s c =
      let k = owner sys x in
      let fit = is_machine sys j && is_location sys x in
      let p = and_i fit _ (and_l fit true c) (stored_lacks k j s d) in
      in_turn sys s (by_event sys (RStore j x v) s c) (by_event sys (LFlush j x) (alone k x v s) p)

  -- After MStore no cache holds x, so that RFlush is possible.
  pub mstore_uncached : (i : Machine) (s : State) → T (not (cached sys (next sys (event (MStore i x v)) s) x))
  unfolding next cached
  mstore_uncached i s =
      none_i sys.machines (λ j. holds (without x s j x))
      (λ j l h. rw (T→true {b = eqb x x} (eqb_refl x)) tt)

  pub mstore_rflush : (i : Machine) (s : State) → T (possible sys (event (MStore i x v)) s)
      → Goes sys (MStore i x v ∷ RFlush i x ∷ []) s (next sys (event (MStore i x v)) s)
  unfolding next possible named enabled
  mstore_rflush i s c =
      let u = next sys (event (MStore i x v)) s in
      let fit = is_machine sys i && is_location sys x in
      let p = and_i fit _ (and_l fit true c) (mstore_uncached i s) in
      in_turn sys s (by_event sys (MStore i x v) s c) (by_event sys (RFlush i x) u p)

  -- LStore and an LFlush by the same machine lead where RStore leads.
  pub lstore_lflush : (i : Machine) {s' : State} (s : State)
      → Goes sys (LStore i x v ∷ LFlush i x ∷ []) s s' → Goes sys (RStore i x v ∷ []) s s'
  unfolding next possible named enabled
  lstore_lflush i s p =
      let q = last_of_two sys s p in
      let h = and_r (is_machine sys i && is_location sys x) (not (holds (q.0.cache i x))) q.2 in
      in_turn sys s (lstore_gone i s q.1 h) q.3

  -- LStore and an RFlush lead where MStore leads: the copy is gone from the machine that stored, and from the
  -- owner.
  pub lstore_rflush : WellFormed sys → (i : Machine) {s' : State} (s : State)
      → Goes sys (LStore i x v ∷ RFlush i x ∷ []) s s' → Goes sys (MStore i x v ∷ []) s s'
  unfolding next possible named enabled
  lstore_rflush w i s p =
      let q = last_of_two sys s p in
      let u = q.0 in
      let fit = and_l (is_machine sys i && is_location sys x) (not (cached sys u x)) q.2 in
      let empty = and_r (is_machine sys i && is_location sys x) (not (cached sys u x)) q.2 in
      let m = and_l (is_machine sys i) (is_location sys x) fit in
      let o = w x (and_r (is_machine sys i) (is_location sys x) fit) in
      let r = lstore_gone i s q.1 (uncached_lacks sys x u i empty m) in
      in_turn sys s (rstore_gone i s r (uncached_lacks sys x u (owner sys x) empty o)) q.3

-- Where RFlush is possible, LFlush is.
pub rflush_lflush : (sys : Topology) (i : Machine) (x : Location) (s : State)
    → T (possible sys (event (RFlush i x)) s) → T (possible sys (event (LFlush i x)) s)
unfolding possible named enabled
rflush_lflush sys i x s c =
    let fit = is_machine sys i && is_location sys x in
    let f = and_l fit (not (cached sys s x)) c in
    let m = and_l (is_machine sys i) (is_location sys x) f in
    let empty = and_r fit (not (cached sys s x)) c in
    and_i fit (not (holds (s.cache i x))) f (uncached_lacks sys x s i empty m)
