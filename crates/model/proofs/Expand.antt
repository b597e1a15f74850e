-- The whole system and the short forms of its locations take the same steps.
use Prim.Native.Nat.{ℕ, zero, suc, ◌≤◌, ◌<◌, ◌^◌}
use native.Mathlib.Nat.{not-suc-le-zero}
use native.Mathlib.Omega.{arith}
use mathlib.Core.Path.{◌≡◌, refl, sym, ap, ◌∙◌, subst, fun_ext}
use mathlib.Core.Bool.{Bool, true, false, cond, not, ◌&&◌, ◌||◌, or-false, not-not}
use mathlib.Core.List.{List, ◌∷◌}
use mathlib.Core.Option.{Option, none, some}
use lib.Dec.{T, leb, eqb, eqb→eq, eqb_refl, leb→le}
use lib.Pow.{pow_pos}
use Rattle.model.specs.Cxl0.{Machine, Location, Value, Topology, is_machine, is_location, owner, initial}
use Rattle.model.specs.Cxl0.{WellFormed, start, holds, agrees, some_machine, every_machine, cached}
use Rattle.model.specs.Cxl0.{LStore, RStore, MStore, Load, LFlush, RFlush, Crash, SetCrash}
use Rattle.model.specs.Cxl0.{RMW, Form, L, R, M, Propagate, WriteBack, readable, stored}
use Rattle.model.specs.Cxl0.{Action, event, silent, crashes, clears, named, enabled, possible, next, runs}
use Rattle.model.specs.Sharers.{has, insert, remove}
use Rattle.model.specs.OneLocation.{Local, expand, concerns, event_at, silent_at, enabled_at, location_of, site_of}
use Rattle.model.specs.OneLocation.{readable_at, moved, stored_at, loaded_at, effect, next_at, start_at}
use Rattle.model.proofs.Tests.{by_test, T→true, not→false, and_l, and_r, ne_test, same_test}
use Rattle.model.proofs.Machines.{every_e, every_i}
use Rattle.model.proofs.Sharers.{has_insert, has_remove, has_remove_all, has_none, insert_bound}
use Rattle.model.proofs.Sharers.{remove_le, remove_all_le, member, some_has}
use Rattle.model.proofs.ReadModifyWrites.{store_settles, settles_at}

-- Each code is that of a set of machines of the system.
abbrev pub InRange : Topology → (Location → Local) → Type 0
InRange sys f = (x : Location) → (f x).code < 2 ^ sys.machines

-- What machine j's cache holds for a location, by the location's short form.
abbrev shown : Machine → Local → Option Value
shown j s = cond (has j s.code) (some s.copy) none

holds_shown : (b : Bool) (u : Value) → holds (cond b (some u) none) ≡ b
holds_shown true u = refl
holds_shown false u = refl

-- A cache holds x exactly where x's code is not 0.
cached_expand : (sys : Topology) (f : Location → Local) → InRange sys f → (x : Location)
    → cached sys (expand f) x ≡ not (eqb (f x).code 0)
unfolding cached expand
cached_expand sys f r x =
    ap (some_machine sys.machines) (fun_ext (λ j. holds_shown (has j (f x).code) (f x).copy))
    ∙ some_has sys.machines (f x).code (r x)

agrees_shown : (b : Bool) (u v : Value) → T (eqb u v) → T (agrees v (cond b (some u) none))
agrees_shown true u v t = t
agrees_shown false u v t = tt

-- Where some cache holds a copy, every cache agrees with v exactly if the copies have the value v.
every_agrees : (n : ℕ) (s : Local) (v : Value) → s.code < 2 ^ n → T (not (eqb s.code 0))
    → every_machine n (λ j. agrees v (shown j s)) ≡ eqb s.copy v
every_agrees n s v h t =
    same_test (every_machine n (λ j. agrees v (shown j s))) (eqb s.copy v)
    (λ a.
    let m = member n s.code h (ne_test s.code 0 t) in
    let agree = every_e n (λ j. agrees v (shown j s)) a (suc m.0) (omega arith) m.1 in
    rw (T→true {b = has (suc m.0) s.code} m.2) at agree)
    (λ a. every_i n (λ j. agrees v (shown j s)) (λ j l k. agrees_shown (has j s.code) s.copy v a))

-- What a load asks of the caches and of memory, it asks of the short form.
readable_expand : (sys : Topology) (f : Location → Local) → InRange sys f → (x : Location) (v : Value)
    → readable sys x v (expand f) ≡ readable_at v (f x)
unfolding expand
readable_expand sys f r x v =
    rw (cached_expand sys f r x)
    (by_test (eqb (f x).code 0)
    (λ t. rw (T→true {b = eqb (f x).code 0} t))
    (λ t. rw (not→false {b = eqb (f x).code 0} t) (every_agrees sys.machines (f x) v (r x) t)))

-- What an action asks of the whole system, it asks of the short form of each location that it concerns.
pub enabled_expand : (sys : Topology) (f : Location → Local) → InRange sys f → (a : Action) (x : Location)
    → T (concerns x a) → enabled sys a (expand f) ≡ enabled_at (site_of sys x) a (f x)
unfolding enabled enabled_at site_of expand concerns event_at location_of silent_at
enabled_expand sys f r (event (LStore i y v)) x t = refl
enabled_expand sys f r (event (RStore i y v)) x t = refl
enabled_expand sys f r (event (MStore i y v)) x t = refl
enabled_expand sys f r (event (Load i y v)) x t = rw (eqb→eq x y t) (readable_expand sys f r y v)
enabled_expand sys f r (event (LFlush i y)) x t =
    rw (eqb→eq x y t) (ap not (holds_shown (has i (f y).code) (f y).copy))
enabled_expand sys f r (event (RFlush i y)) x t =
    rw (eqb→eq x y t, cached_expand sys f r y) (not-not (eqb (f y).code 0))
enabled_expand sys f r (event (Crash i)) x t = refl
enabled_expand sys f r (event (SetCrash set)) x t = refl
enabled_expand sys f r (event (RMW form i y v w)) x t = rw (eqb→eq x y t) (readable_expand sys f r y v)
enabled_expand sys f r (silent (Propagate i y)) x t =
    rw (eqb→eq x y t) (ap (λ b. not (eqb i (owner sys y)) && b) (holds_shown (has i (f y).code) (f y).copy))
enabled_expand sys f r (silent (WriteBack y)) x t =
    rw (eqb→eq x y t) (holds_shown (has (owner sys y) (f y).code) (f y).copy)

-- ---- the state after an action

-- A change at one location, in the whole state and in the short form.
place {ℓ κ} : {A : Type ℓ} {B : Type κ} (part : A → B) (b : Bool) (new : B) (s t : A) → (T b → new ≡ part t)
    → cond b new (part s) ≡ part (cond b t s)
place part true new s t e = e tt
place part false new s t e = refl

-- A change that keeps a part as it is.
kept {ℓ κ} : {A : Type ℓ} {B : Type κ} (part : A → B) (b : Bool) (s t : A) → (T b → part s ≡ part t)
    → part s ≡ part (cond b t s)
kept part true s t e = e tt
kept part false s t e = refl

pub has_insert_of : (i j : Machine) (c : ℕ) → 1 ≤ i → has j (insert i c) ≡ (eqb j i || has j c)
has_insert_of zero j c l = absurd (not-suc-le-zero l)
has_insert_of (suc i) j c l = has_insert i j c

-- The caches where machine i's alone has a copy.
one_shown : (i j : Machine) (v : Value) → 1 ≤ i
    → cond (eqb j i) (some v) none ≡ cond (has j (insert i 0)) (some v) none
one_shown i j v l = rw (has_insert_of i j 0 l, has_none j, or-false (eqb j i))

-- The caches where machine i's gets a copy too.
also_shown : (i j : Machine) (s : Local) (v : Value) → 1 ≤ i → s.copy ≡ v
    → cond (eqb j i) (some v) (shown j s) ≡ cond (has j (insert i s.code)) (some s.copy) none
also_shown i j s v l e = rw (has_insert_of i j s.code l) (go (eqb j i) (has j s.code))
  where
    go : (a b : Bool) → cond a (some v) (cond b (some s.copy) none) ≡ cond (a || b) (some s.copy) none
    go true b = ap some (sym e)
    go false b = refl

-- The caches where machine j's loses its copy if it is among those that are gone.
less_shown : (gone : Bool) (j : Machine) (s : Local) (c : ℕ) → has j c ≡ (not gone && has j s.code)
    → cond gone none (shown j s) ≡ cond (has j c) (some s.copy) none
less_shown gone j s c e = rw e (go gone (has j s.code))
  where
    go : (a b : Bool) → cond a none (cond b (some s.copy) none) ≡ cond (not a && b) (some s.copy) none
    go true b = refl
    go false b = refl

-- The caches where machine i's copy goes to the owner k.
move_shown : (k i j : Machine) (s : Local) → 1 ≤ k → T (not (eqb i k) && has i s.code)
    → cond (eqb j i) none (cond (eqb j k) (shown i s) (shown j s))
    ≡ cond (has j (moved k i s.code)) (some s.copy) none
unfolding moved
move_shown k i j s l e =
    let d = and_l (not (eqb i k)) (has i s.code) e in
    let h = and_r (not (eqb i k)) (has i s.code) e in
    rw (has_insert_of k j (remove i s.code) l, has_remove i j s.code, T→true {b = has i s.code} h)
    (go (eqb j i) (eqb j k) (has j s.code) (λ t u. ne_test i k d (sym (eqb→eq j i t) ∙ eqb→eq j k u)))
  where
    go : (a b c : Bool) → (T a → T b → ⊥)
        → cond a none (cond b (some s.copy) (cond c (some s.copy) none))
        ≡ cond (b || not a && c) (some s.copy) none
    go true true c n = absurd (n tt tt)
    go true false c n = refl
    go false true c n = refl
    go false false c n = refl

-- A machine of the system has a number from 1 to the number of machines.
pub machine_bounds : (sys : Topology) (i : Machine) → T (is_machine sys i) → (1 ≤ i) × (i ≤ sys.machines)
unfolding is_machine
machine_bounds sys i t =
    let b = leb i sys.machines in
    (leb→le 1 i (and_l (leb 1 i) b t), leb→le i sys.machines (and_r (leb 1 i) b t))

-- So has the machine of an action, and the owner of its location.
by_bounds : (sys : Topology) (i : Machine) (x : Location) → T (is_machine sys i && is_location sys x)
    → (1 ≤ i) × (i ≤ sys.machines)
by_bounds sys i x n = machine_bounds sys i (and_l (is_machine sys i) (is_location sys x) n)

owner_bounds : (sys : Topology) → WellFormed sys → (i : Machine) (x : Location)
    → T (is_machine sys i && is_location sys x) → (1 ≤ owner sys x) × (owner sys x ≤ sys.machines)
owner_bounds sys w i x n =
    machine_bounds sys (owner sys x) (w x (and_r (is_machine sys i) (is_location sys x) n))

-- Each location that an action concerns is as the action asks.
abbrev Here : Topology → (Location → Local) → Action → Type 0
Here sys f a = (x : Location) → T (concerns x a) → T (enabled_at (site_of sys x) a (f x))

load_cache : (sys : Topology) (f : Location → Local) → InRange sys f
    → (i : Machine) (x : Location) (v : Value) → 1 ≤ i → Here sys f (event (Load i x v))
    → (j : Machine) (y : Location)
    → (next sys (event (Load i x v)) (expand f)).cache j y ≡ shown j (next_at sys y (event (Load i x v)) (f y))
unfolding next next_at expand concerns event_at location_of effect enabled_at
load_cache sys f r i x v l h j y =
    rw (cached_expand sys f r x)
    (by_test (eqb (f x).code 0)
    (λ z.
    rw (T→true {b = eqb (f x).code 0} z)
    (kept (shown j) (eqb y x) (f y) _ (λ t. rw (eqb→eq y x t, eqb→eq (f x).code 0 z))))
    (λ z.
    let copies = not→false {b = eqb (f x).code 0} z in
    let value = eqb→eq (f x).copy v (rw copies at (h x (eqb_refl x))) in
    rw copies
    (place (shown j) (eqb y x) _ (f y) _ (λ t. rw (eqb→eq y x t, copies) (also_shown i j (f x) v l value)))))

-- After a store the short forms show what the caches hold.
store_cache : (sys : Topology) (f : Location → Local) → WellFormed sys → (form : Form)
    → (i : Machine) (x : Location) (v : Value) → T (is_machine sys i && is_location sys x)
    → (j : Machine) (y : Location)
    → (stored sys form i x v (expand f)).cache j y
    ≡ shown j (cond (eqb y x) (stored_at (site_of sys y) form i v (f y)) (f y))
unfolding site_of expand
store_cache sys f w L i x v n j y =
    place (shown j) (eqb y x) _ (f y) _ (λ t. one_shown i j v (by_bounds sys i x n).0)
store_cache sys f w R i x v n j y =
    place (shown j) (eqb y x) _ (f y) _
    (λ t. rw (eqb→eq y x t) (one_shown (owner sys x) j v (owner_bounds sys w i x n).0))
store_cache sys f w M i x v n j y = place (shown j) (eqb y x) _ (f y) _ (λ t. rw (has_none j))

-- After an action the short forms show what the caches hold.
next_cache : (sys : Topology) (f : Location → Local) → WellFormed sys → InRange sys f → (a : Action)
    → T (named sys a) → Here sys f a → (j : Machine) (y : Location)
    → (next sys a (expand f)).cache j y ≡ shown j (next_at sys y a (f y))
unfolding named next next_at site_of expand concerns event_at location_of silent_at effect crashes enabled_at
next_cache sys f w r (event (LStore i x v)) n h j y = store_cache sys f w L i x v n j y
next_cache sys f w r (event (RStore i x v)) n h j y = store_cache sys f w R i x v n j y
next_cache sys f w r (event (MStore i x v)) n h j y = store_cache sys f w M i x v n j y
next_cache sys f w r (event (Load i x v)) n h j y = load_cache sys f r i x v (by_bounds sys i x n).0 h j y
next_cache sys f w r (event (LFlush i x)) n h j y = kept (shown j) (eqb y x) (f y) (f y) (λ t. refl)
next_cache sys f w r (event (RFlush i x)) n h j y = kept (shown j) (eqb y x) (f y) (f y) (λ t. refl)
next_cache sys f w r (event (Crash i)) n h j y = less_shown (eqb j i) j (f y) _ (has_remove i j (f y).code)
next_cache sys f w r (event (SetCrash set)) n h j y =
    less_shown (has j set) j (f y) _ (has_remove_all set j (f y).code)
next_cache sys f w r (event (RMW form i x v u)) n h j y =
    rw (store_settles sys i x v (expand f) form u, settles_at (site_of sys y) form i u (f y))
    (store_cache sys f w form i x u n j y)
next_cache sys f w r (silent (Propagate i x)) n h j y =
    let l = (owner_bounds sys w i x n).0 in
    place (shown j) (eqb y x) _ (f y) _
    (λ t. rw (eqb→eq y x t) (move_shown (owner sys x) i j (f x) l (h x (eqb_refl x))))
next_cache sys f w r (silent (WriteBack x)) n h j y =
    place (shown j) (eqb y x) _ (f y) _ (λ t. rw (has_none j))

memory_of : Local → Value
memory_of s = s.memory

-- After a store the short forms show what the memories hold.
store_memory : (sys : Topology) (f : Location → Local) (form : Form) (i : Machine) (x : Location) (v : Value)
    → (y : Location)
    → (stored sys form i x v (expand f)).memory y
    ≡ (cond (eqb y x) (stored_at (site_of sys y) form i v (f y)) (f y)).memory
unfolding expand memory_of
store_memory sys f L i x v y = kept memory_of (eqb y x) (f y) _ (λ t. refl)
store_memory sys f R i x v y = kept memory_of (eqb y x) (f y) _ (λ t. refl)
store_memory sys f M i x v y = place memory_of (eqb y x) v (f y) _ (λ t. refl)

-- After an action the short forms show what the memories hold.
next_memory : (sys : Topology) (f : Location → Local) (a : Action) → Here sys f a → (y : Location)
    → (next sys a (expand f)).memory y ≡ (next_at sys y a (f y)).memory
unfolding next next_at site_of expand concerns event_at location_of silent_at effect enabled_at memory_of clears
next_memory sys f (event (LStore i x v)) h y = store_memory sys f L i x v y
next_memory sys f (event (RStore i x v)) h y = store_memory sys f R i x v y
next_memory sys f (event (MStore i x v)) h y = store_memory sys f M i x v y
next_memory sys f (event (Load i x v)) h y =
    sym (kept (λ s. s.memory y) (cached sys (expand f) x) (expand f) _ (λ t. refl))
    ∙ kept memory_of (eqb y x) (f y) _ (λ t. refl)
next_memory sys f (event (LFlush i x)) h y = kept memory_of (eqb y x) (f y) (f y) (λ t. refl)
next_memory sys f (event (RFlush i x)) h y = kept memory_of (eqb y x) (f y) (f y) (λ t. refl)
next_memory sys f (event (Crash i)) h y = refl
next_memory sys f (event (SetCrash set)) h y = refl
next_memory sys f (event (RMW form i x v w)) h y =
    rw (store_settles sys i x v (expand f) form w, settles_at (site_of sys y) form i w (f y))
    (store_memory sys f form i x w y)
next_memory sys f (silent (Propagate i x)) h y = kept memory_of (eqb y x) (f y) _ (λ t. refl)
next_memory sys f (silent (WriteBack x)) h y =
    place memory_of (eqb y x) _ (f y) _
    (λ t. rw (eqb→eq y x t, T→true {b = has (owner sys x) (f x).code} (h x (eqb_refl x))))

-- An action that is possible leads both to the same state.
pub next_expand : (sys : Topology) (f : Location → Local) → WellFormed sys → InRange sys f → (a : Action)
    → T (possible sys a (expand f)) → next sys a (expand f) ≡ expand (λ x. next_at sys x a (f x))
unfolding possible expand
next_expand sys f w r a p =
    let n = and_l (named sys a) (enabled sys a (expand f)) p in
    let e = and_r (named sys a) (enabled sys a (expand f)) p in
    let h : Here sys f a = λ x t. subst T (enabled_expand sys f r a x t) e in
    λ i. record { cache = λ j y. next_cache sys f w r a n h j y i; memory = λ y. next_memory sys f a h y i }

-- A list that runs: its first action is possible, and the others run from the short forms after it.
pub runs_first : (sys : Topology) (f : Location → Local) → WellFormed sys → InRange sys f
    → (a : Action) (acts : List Action) → T (runs sys (a ∷ acts) (expand f))
    → T (possible sys a (expand f)) × T (runs sys acts (expand (λ x. next_at sys x a (f x))))
unfolding runs
runs_first sys f w r a acts t =
    let p = and_l (possible sys a (expand f)) (runs sys acts (next sys a (expand f))) t in
    let q = and_r (possible sys a (expand f)) (runs sys acts (next sys a (expand f))) t in
    (p, rw (next_expand sys f w r a p) at q)

-- The start is empty at every location.
pub start_expand : (sys : Topology) → start sys ≡ expand (start_at sys)
unfolding start expand start_at
start_expand sys =
    let p : (j : Machine) (x : Location) → none ≡ shown j (start_at sys x) = λ j x. rw (has_none j) in
    λ i. record { cache = λ j x. p j x i; memory = initial sys }

-- ---- codes stay in range

pub start_in_range : (sys : Topology) → InRange sys (start_at sys)
unfolding start_at
start_in_range sys x = pow_pos sys.machines

insert_bound_of : (n : ℕ) (i : Machine) (c : ℕ) → (1 ≤ i) × (i ≤ n) → c < 2 ^ n → insert i c < 2 ^ n
insert_bound_of n zero c b h = absurd (not-suc-le-zero b.0)
insert_bound_of n (suc i) c b h = insert_bound n i c b.1 h

-- What holds of each of two where a test picks it, holds of the one that the test picks.
pub branch {ℓ κ} : {A : Type ℓ} (P : A → Type κ) (b : Bool) (s t : A)
    → (T b → P s) → (T (not b) → P t) → P (cond b s t)
branch P true s t f g = f tt
branch P false s t f g = g tt

store_bound : (sys : Topology) (x : Location) (form : Form) (i : Machine) (v : Value) (s : Local)
    → (1 ≤ i) × (i ≤ sys.machines) → (1 ≤ owner sys x) × (owner sys x ≤ sys.machines)
    → (stored_at (site_of sys x) form i v s).code < 2 ^ sys.machines
unfolding site_of
store_bound sys x L i v s b o = insert_bound_of sys.machines i 0 b (pow_pos sys.machines)
store_bound sys x R i v s b o = insert_bound_of sys.machines (owner sys x) 0 o (pow_pos sys.machines)
store_bound sys x M i v s b o = pow_pos sys.machines

effect_bound : (sys : Topology) (x : Location) → WellFormed sys → (a : Action) (s : Local) → T (named sys a)
    → T (concerns x a) → s.code < 2 ^ sys.machines → (effect (site_of sys x) a s).code < 2 ^ sys.machines
unfolding named concerns event_at location_of silent_at effect site_of moved
effect_bound sys x w (event (LStore i y v)) s n t h =
    store_bound sys x L i v s (by_bounds sys i y n) (rw (eqb→eq x y t) (owner_bounds sys w i y n))
effect_bound sys x w (event (RStore i y v)) s n t h =
    store_bound sys x R i v s (by_bounds sys i y n) (rw (eqb→eq x y t) (owner_bounds sys w i y n))
effect_bound sys x w (event (MStore i y v)) s n t h =
    store_bound sys x M i v s (by_bounds sys i y n) (rw (eqb→eq x y t) (owner_bounds sys w i y n))
effect_bound sys x w (event (Load i y v)) s n t h =
    branch (λ c. c < 2 ^ sys.machines) (eqb s.code 0) 0 (insert i s.code)
    (λ z. pow_pos sys.machines)
    (λ z. insert_bound_of sys.machines i s.code (by_bounds sys i y n) h)
effect_bound sys x w (event (LFlush i y)) s n t h = h
effect_bound sys x w (event (RFlush i y)) s n t h = h
effect_bound sys x w (event (Crash i)) s n t h = omega (arith, remove_le i s.code)
effect_bound sys x w (event (SetCrash set)) s n t h = omega (arith, remove_all_le set s.code)
effect_bound sys x w (event (RMW form i y v u)) s n t h =
    store_bound sys x form i u (loaded_at i s) (by_bounds sys i y n) (rw (eqb→eq x y t) (owner_bounds sys w i y n))
effect_bound sys x w (silent (Propagate i y)) s n t h =
    let less : remove i s.code < 2 ^ sys.machines = omega (arith, remove_le i s.code) in
    rw (eqb→eq x y t)
    (insert_bound_of sys.machines (owner sys y) (remove i s.code) (owner_bounds sys w i y n) less)
effect_bound sys x w (silent (WriteBack y)) s n t h = pow_pos sys.machines

-- No action of the system takes a code out of range.
pub next_at_bound : (sys : Topology) (x : Location) → WellFormed sys → (a : Action) (s : Local)
    → T (named sys a) → s.code < 2 ^ sys.machines → (next_at sys x a s).code < 2 ^ sys.machines
unfolding next_at
next_at_bound sys x w a s n h =
    branch (λ (t : Local). t.code < 2 ^ sys.machines) (concerns x a) (effect (site_of sys x) a s) s
    (λ t. effect_bound sys x w a s n t h)
    (λ t. h)

pub next_in_range : (sys : Topology) (f : Location → Local) → WellFormed sys → InRange sys f → (a : Action)
    → T (named sys a) → InRange sys (λ x. next_at sys x a (f x))
next_in_range sys f w r a n x = next_at_bound sys x w a (f x) n (r x)
