-- The row before an event, closed under the silent steps before it, is right for the event and what follows.
use Prim.Native.Nat.{ℕ, ◌≤◌, ◌<◌}
use mathlib.Core.Path.{◌≡◌, refl, sym, subst}
use mathlib.Core.Logic.{inl, ◌↔◌}
use mathlib.Core.List.{List, [], ◌∷◌}
use lib.Dec.{T}
use Rattle.model.specs.Cxl0.{Location, Value, Topology, owner, Event, event}
use Rattle.model.specs.OneLocation.{Local, possible_at, next_at, HasRunAt}
use Rattle.model.specs.OneLocation.{Reaches}
use Rattle.model.proofs.SilentSteps.{normal_form, silently_bound}
use Rattle.model.proofs.Gaps.{has_run_nil, has_run_cons}
use Rattle.masks.proofs.Constants.{in_every}
use Rattle.rows.specs.declared.Row.{Row}
use Rattle.rows.specs.Rows.{state, Fine, any_row, last_row, Right, Closed, Before, Gap}

-- The last row is right for no events, whatever the copies, and closed.
pub last_right : (sys : Topology) (x : Location) (u : Value) → Right sys x [] u last_row
unfolding any_row
last_right sys x u c m h = (λ r. inl (in_every c h), λ f. has_run_nil sys x (state c u m))

pub last_closed : (u : Value) → Closed u last_row
unfolding any_row
last_closed u f c h z = in_every c h

-- A right row answers for every state with its value of the copies.
right_at : (sys : Topology) (x : Location) (es : List Event) (u : Value) (row : Row) → Right sys x es u row
    → (s : Local) → s.copy ≡ u → s.code < 64 → HasRunAt sys x es s ↔ Fine row s.code s.memory
right_at sys x es u row right s e h =
    let c = s.code in
    let m = s.memory in
    subst (λ (v : Value). HasRunAt sys x es (state c v m) ↔ Fine row c m) (sym e) (right c m h)

-- With copies of value v after the event e and of value u before it, `rest` is right for es, and `inner` is
-- the row before e.
module _ (sys : Topology) (x : Location) (l : 1 ≤ owner sys x) (k : owner sys x ≤ 6)
    (e : Event) (es : List Event) (u v : Value) (rest inner : Row)
    (copy : (s : Local) → s.copy ≡ u → (next_at sys x (event e) s).copy ≡ v)
    (code : (s : Local) → s.code < 64 → (next_at sys x (event e) s).code < 64)
    (right : Right sys x es v rest) (before : Before sys x e u rest inner) where
  after : (d n : ℕ) → d < 64 → let t : Local = next_at sys x (event e) (state d u n) in
      HasRunAt sys x es t ↔ Fine rest t.code t.memory
  after d n b =
      right_at sys x es v rest right (next_at sys x (event e) (state d u n)) (copy (state d u n) refl)
      (code (state d u n) b)

  -- A run of e and then es begins with silent steps that lead into the row before e.
  pub run_enters : (c m : ℕ) → c < 64 → HasRunAt sys x (e ∷ es) (state c u m)
      → (d n : ℕ) × Reaches (owner sys x) (state c u m) (state d u n) × Fine inner d n
  run_enters c m h r =
      let f = (has_run_cons sys x e es (state c u m)).0 r in
      let t = f.0 in
      let reach = (normal_form sys x (state c u m) t l).0 f.1 in
      let bound = silently_bound sys x 6 l k f.1 h in
      let same : t ≡ state t.code u t.memory =
      λ i. record { code = t.code; copy = reach.0 i; memory = t.memory } in
      let can = subst (λ (s : Local). T (possible_at sys x (event e) s)) same f.2 in
      let run = subst (λ (s : Local). HasRunAt sys x es (next_at sys x (event e) s)) same f.3 in (
        t.code,
        t.memory,
        (refl, reach.1),
        (before t.code t.memory bound).0 (can, (after t.code t.memory bound).0 run),
      )

  -- Silent steps that lead into the row before e begin a run of e and then es.
  enters_run : (c m : ℕ) → c < 64
      → (d n : ℕ) × Reaches (owner sys x) (state c u m) (state d u n) × Fine inner d n
      → HasRunAt sys x (e ∷ es) (state c u m)
  enters_run c m h q =
      let silently = (normal_form sys x (state c u m) (state q.0 u q.1) l).1 q.2 in
      let bound = silently_bound sys x 6 l k silently h in
      let b = (before q.0 q.1 bound).1 q.3 in
      (has_run_cons sys x e es (state c u m)).1
      (state q.0 u q.1, silently, b.0, (after q.0 q.1 bound).1 b.1)

-- One event more in front: the row before the event, closed under the gap, is right.
pub right_cons : (sys : Topology) (x : Location) → 1 ≤ owner sys x → owner sys x ≤ 6
    → (e : Event) (es : List Event) (u v : Value) (rest inner row : Row)
    → ((s : Local) → s.copy ≡ u → (next_at sys x (event e) s).copy ≡ v)
    → ((s : Local) → s.code < 64 → (next_at sys x (event e) s).code < 64)
    → Right sys x es v rest → Before sys x e u rest inner → Gap (owner sys x) u inner row
    → Right sys x (e ∷ es) u row
right_cons sys x l k e es u v rest inner row copy code right before gap c m h = (
  λ r. (gap c m h).0 (run_enters sys x l k e es u v rest inner copy code right before c m h r),
  λ g. enters_run sys x l k e es u v rest inner copy code right before c m h ((gap c m h).1 g),
)
