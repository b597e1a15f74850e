-- Two lists of actions with the same events merge into one list, which has these events and the silent steps
-- of both. At a location it runs as the one list does, if the other has no silent step of that location.
use mathlib.Core.Path.{◌≡◌, refl, sym, ap, ◌∙◌, subst}
use mathlib.Core.Logic.{◌≢◌}
use mathlib.Core.Bool.{Bool, true, false, not, ◌&&◌}
use mathlib.Core.List.{List, [], ◌∷◌, map, nil≢cons, cons≢nil, head-eq_of_cons-eq, tail-eq_of_cons-eq}
use lib.Dec.{T, eqb→eq}
use Rattle.model.specs.Cxl0.{Location, Topology, Event, Silent, Propagate, WriteBack}
use Rattle.model.specs.Cxl0.{Action, event, silent, events}
use Rattle.model.specs.OneLocation.{Local, concerns, silent_at, possible_at, next_at, runs_at, own_steps}
use Rattle.model.proofs.Tests.{not→false, and_i, and_l, and_r, ne→test}

-- The third list merges the first two.
pub data Merge : List Action → List Action → List Action → Type 0 where
  nil : Merge [] [] []
  both : {k l m : List Action} (e : Event) → Merge k l m → Merge (event e ∷ k) (event e ∷ l) (event e ∷ m)
  left : {k l m : List Action} (a : Silent) → Merge k l m → Merge (silent a ∷ k) l (silent a ∷ m)
  right : {k l m : List Action} (a : Silent) → Merge k l m → Merge k (silent a ∷ l) (silent a ∷ m)

alone : (l : List Action) → [] ≡ events l → Merge [] l l
unfolding events
alone [] p = nil
alone (event d ∷ l) p = absurd (nil≢cons p)
alone (silent a ∷ l) p = right a (alone l p)

-- After the first event, the rest is merged as `rest` says.
from_event : (e : Event) (k l : List Action)
    → (rest : (l : List Action) → events k ≡ events l → (m : List Action) × Merge k l m)
    → e ∷ events k ≡ events l → (m : List Action) × Merge (event e ∷ k) l m
unfolding events
from_event e k [] rest p = absurd (cons≢nil p)
from_event e k (event d ∷ l) rest p =
    let r = rest l (tail-eq_of_cons-eq p) in
    let m = event e ∷ r.0 in
    (m, subst (λ (d : Event). Merge (event e ∷ k) (event d ∷ l) m) (head-eq_of_cons-eq p) (both e r.1))
from_event e k (silent a ∷ l) rest p =
    let r = from_event e k l rest p in
    (silent a ∷ r.0, right a r.1)

-- Two lists with the same events have a merge.
pub merge : (k l : List Action) → events k ≡ events l → (m : List Action) × Merge k l m
unfolding events
merge [] l p = (l, alone l p)
merge (event e ∷ k) l p = from_event e k l (merge k) p
merge (silent a ∷ k) l p =
    let r = merge k l p in
    (silent a ∷ r.0, left a r.1)

pub swap : {k l m : List Action} → Merge k l m → Merge l k m
swap nil = nil
swap (both e p) = both e (swap p)
swap (left a p) = right a (swap p)
swap (right a p) = left a (swap p)

pub events_merge : {k l m : List Action} → Merge k l m → events m ≡ events k
unfolding events
events_merge nil = refl
events_merge (both e p) = ap (◌∷◌ e) (events_merge p)
events_merge (left a p) = events_merge p
events_merge (right a p) = events_merge p

-- Every action of the list passes a test.
unfoldable pub each : (Action → Bool) → List Action → Bool
each test [] = true
each test (a ∷ acts) = test a && each test acts

pub and_map : (a b c : Bool) → (T b → T c) → T (a && b) → T (a && c)
and_map true b c f t = f t
and_map false b c f t = t

-- A test that every action of both lists passes, every action of their merge passes.
pub each_merge : (test : Action → Bool) {k l m : List Action} → Merge k l m
    → T (each test k) → T (each test l) → T (each test m)
unfolding each
each_merge test nil s t = tt
each_merge test (both {k} {l} {m} e p) s t =
    let t' = and_r (test (event e)) (each test l) t in
    and_map (test (event e)) (each test k) (each test m) (λ s'. each_merge test p s' t') s
each_merge test (left {k} {m} a p) s t =
    and_map (test (silent a)) (each test k) (each test m) (λ s'. each_merge test p s' t) s
each_merge test (right {l} {m} a p) s t =
    and_map (test (silent a)) (each test l) (each test m) (λ t'. each_merge test p s t') t

-- ---- at a location

-- The action is no silent step of x.
unfoldable pub elsewhere : Location → Action → Bool
elsewhere x (event e) = true
elsewhere x (silent a) = not (silent_at x a)

pub events_elsewhere : (x : Location) (es : List Event) → T (each (elsewhere x) (map event es))
unfolding each elsewhere
events_elsewhere x [] = tt
events_elsewhere x (e ∷ es) = events_elsewhere x es

one_place : (x y : Location) → x ≢ y → (a : Silent) → T (silent_at y a) → T (not (silent_at x a))
unfolding silent_at
one_place x y d (Propagate i z) t = ne→test x z (λ e. d (e ∙ sym (eqb→eq y z t)))
one_place x y d (WriteBack z) t = ne→test x z (λ e. d (e ∙ sym (eqb→eq y z t)))

-- A list with silent steps of y alone has none of x.
pub own_elsewhere : (x y : Location) → x ≢ y → (acts : List Action) → T (own_steps y acts)
    → T (each (elsewhere x) acts)
unfolding own_steps each elsewhere
own_elsewhere x y d [] t = tt
own_elsewhere x y d (event e ∷ acts) t = own_elsewhere x y d acts t
own_elsewhere x y d (silent a ∷ acts) t =
    and_i (not (silent_at x a)) (each (elsewhere x) acts)
    (one_place x y d a (and_l (silent_at y a) (own_steps y acts) t))
    (own_elsewhere x y d acts (and_r (silent_at y a) (own_steps y acts) t))

-- A silent step elsewhere does nothing here.
pub skip : (sys : Topology) (x : Location) (a : Silent) (acts : List Action) (s : Local)
    → T (not (silent_at x a)) → runs_at sys x (silent a ∷ acts) s ≡ runs_at sys x acts s
unfolding runs_at possible_at next_at concerns
skip sys x a acts s t = rw (not→false {b = silent_at x a} t)

-- At x a merge runs as the one list does, if the other has no silent step of x.
pub runs_merge : (sys : Topology) (x : Location) {k l m : List Action} → Merge k l m
    → T (each (elsewhere x) l) → (s : Local) → runs_at sys x m s ≡ runs_at sys x k s
unfolding runs_at each elsewhere
runs_merge sys x nil t s = refl
runs_merge sys x (both e p) t s =
    ap (◌&&◌ (possible_at sys x (event e) s)) (runs_merge sys x p t (next_at sys x (event e) s))
runs_merge sys x (left a p) t s =
    ap (◌&&◌ (possible_at sys x (silent a) s)) (runs_merge sys x p t (next_at sys x (silent a) s))
runs_merge sys x (right {l} {m} a p) t s =
    skip sys x a m s (and_l (not (silent_at x a)) (each (elsewhere x) l) t)
    ∙ runs_merge sys x p (and_r (not (silent_at x a)) (each (elsewhere x) l) t) s
