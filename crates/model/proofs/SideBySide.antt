-- A log with a read-modify-write has a run exactly where it has one with the load and the store in its place, one after
-- the other, and silent steps between the two make no difference: what moves between them could as well move before
-- both. So what a read-modify-write rules out is another event between its load and its store, and nothing else.
use Prim.Native.Nat.{◌≤◌}
use mathlib.Core.Path.{◌≡◌, refl, sym, ap, ◌∙◌, subst}
use mathlib.Core.Logic.{◌≢◌, inr, ⊎_elim, ◌↔◌}
use mathlib.Core.Bool.{Bool, true, false, cond, ◌&&◌}
use mathlib.Core.List.{List, [], ◌∷◌, ◌++◌, map}
use lib.Dec.{T, eqb}
use Rattle.model.specs.Cxl0.{Machine, Location, Value, Topology, WellFormed, is_machine, is_location, owner}
use Rattle.model.specs.Cxl0.{Form, L, R, M, Event, Load, RMW, event}
use Rattle.model.specs.Cxl0.{named, all_named, HasRun}
use Rattle.model.specs.OneLocation.{Local, Site, site_of, written, readable_at, stored_at, loaded_at, location_of}
use Rattle.model.specs.OneLocation.{event_at, concerns, enabled_at, effect, possible_at, next_at, start_at}
use Rattle.model.specs.OneLocation.{HasRunAt, Silently, still, step}
use Rattle.model.specs.Goes.{store_of}
use Rattle.model.proofs.Tests.{by_test, T→true, not→false, ne→test}
use Rattle.model.proofs.Expand.{machine_bounds}
use Rattle.model.proofs.SilentSteps.{normal_form}
use Rattle.model.proofs.Gaps.{has_run_cons}
use Rattle.model.proofs.Split.{split}

-- Silent steps after silent steps.
then_silently : {sys : Topology} {y : Location} {s t u : Local}
    → Silently sys y s t → Silently sys y t u → Silently sys y s u
then_silently still q = q
then_silently (step a p r) q = step a p (then_silently r q)

-- Short forms with the same copies and the same memory are alike after a store.
stored_alike : (k : Site) (form : Form) (i : Machine) (w : Value) (s t : Local) → s.copy ≡ t.copy
    → s.memory ≡ t.memory → stored_at k form i w s ≡ stored_at k form i w t
stored_alike k L i w s t p q = λ j. record { code = (stored_at k L i w s).code; copy = w; memory = q j }
stored_alike k R i w s t p q = λ j. record { code = (stored_at k R i w s).code; copy = w; memory = q j }
stored_alike k M i w s t p q = λ j. record { code = 0; copy = p j; memory = w }

-- A load that leaves copies found some, and found them with its value.
found_copies : (i : Machine) (v : Value) (s : Local) → (loaded_at i s).code ≢ 0 → T (readable_at v s)
    → (s.code ≢ 0) × T (eqb s.copy v)
found_copies i v s some can =
    let held : s.code ≢ 0 = λ none. some (rw none refl) in
    (held, rw (not→false {b = eqb s.code 0} (ne→test s.code 0 held)) at can)

module _ (sys : Topology) (form : Form) (i : Machine) (x : Location) (v w : Value) where
  abbrev load : Event
  load = Load i x v

  abbrev store : Event
  store = store_of form i x w

  abbrev rmw : Event
  rmw = RMW form i x v w

  -- ---- at one location

  module _ (y : Location) where
    abbrev k : Site
    k = site_of sys y

    -- A store is always possible.
    store_possible : (s : Local) → T (possible_at sys y (event store) s)
    unfolding possible_at concerns event_at location_of enabled_at
    store_possible s = go form
      where
        always : (b : Bool) → T (cond b true true)
        always true = tt
        always false = tt

        go : (f : Form) → T (possible_at sys y (event (store_of f i x w)) s)
        go L = always (eqb y x)
        go R = always (eqb y x)
        go M = always (eqb y x)

    -- What the store leaves, by its form.
    store_leaves : (s : Local) → next_at sys y (event store) s ≡ cond (eqb y x) (stored_at k form i w s) s
    unfolding next_at concerns event_at location_of effect
    store_leaves s = go form
      where
        go : (f : Form) → next_at sys y (event (store_of f i x w)) s ≡ cond (eqb y x) (stored_at k f i w s) s
        go L = refl
        go R = refl
        go M = refl

    -- Load and store with nothing between them are the read-modify-write.
    pair_leaves : (s : Local)
        → next_at sys y (event store) (next_at sys y (event load) s) ≡ next_at sys y (event rmw) s
    unfolding next_at concerns event_at location_of effect
    pair_leaves s = store_leaves (next_at sys y (event load) s) ∙ go (eqb y x)
      where
        go : (b : Bool)
            → cond b (stored_at k form i w (cond b (loaded_at i s) s)) (cond b (loaded_at i s) s)
            ≡ cond b (stored_at k form i w (loaded_at i s)) s
        go true = refl
        go false = refl

    -- So it can be taken apart,
    apart : (fs : List Event) (s : Local) → HasRunAt sys y (rmw ∷ fs) s → HasRunAt sys y (load ∷ store ∷ fs) s
    unfolding possible_at concerns event_at location_of enabled_at
    apart fs s r =
        let f = (has_run_cons sys y rmw fs s).0 r in
        let t = f.0 in
        let t' = next_at sys y (event load) t in
        let rest = (has_run_cons sys y store fs t').1 (t', still, store_possible t', rw (pair_leaves t) f.3) in
        (has_run_cons sys y load (store ∷ fs) s).1 (t, f.1, f.2, rest)

    -- and put together. At x itself: between load and store there were only moves, which the store does not mind, or
    -- the copies were written back, which could be done before the load.
    module _ (l : 1 ≤ owner sys y) (fs : List Event) (s t t' : Local) (gap : Silently sys y s t)
        (rest : HasRunAt sys y fs (next_at sys y (event store) t')) where
      join_here : eqb y x ≡ true → T (readable_at v t) → Silently sys y (loaded_at i t) t'
          → HasRunAt sys y (rmw ∷ fs) s
      unfolding possible_at next_at concerns event_at location_of enabled_at effect
      join_here here can between =
          let m = (normal_form sys y (loaded_at i t) t' l).0 between in
          let leaves : next_at sys y (event store) t' ≡ stored_at k form i w t' = store_leaves t' ∙ rw here refl in
          let left = subst (HasRunAt sys y fs) leaves rest in
          ⊎_elim
          (λ moved.
          let same = stored_alike k form i w t' (loaded_at i t) m.0 moved.0 in
          (has_run_cons sys y rmw fs s).1
          (t, gap, rw here can, rw here (subst (HasRunAt sys y fs) same left)))
          (λ back.
          let found = found_copies i v t back.0 can in
          let same = stored_alike k form i w t' (loaded_at i (written t)) m.0 back.2 in
          let drained = (normal_form sys y t (written t) l).1 (refl, inr (found.0, refl, refl)) in
          (has_run_cons sys y rmw fs s).1
          (written t, then_silently gap drained, rw here found.1, rw here (subst (HasRunAt sys y fs) same left)))
          m.1

      join_elsewhere : eqb y x ≡ false → Silently sys y t t' → HasRunAt sys y (rmw ∷ fs) s
      unfolding possible_at next_at concerns event_at location_of
      join_elsewhere away between =
          let leaves : next_at sys y (event store) t' ≡ t' = store_leaves t' ∙ rw away refl in
          let left = subst (HasRunAt sys y fs) leaves rest in
          (has_run_cons sys y rmw fs s).1 (t', then_silently gap between, rw away tt, rw away left)

      join : T (possible_at sys y (event load) t) → Silently sys y (next_at sys y (event load) t) t'
          → HasRunAt sys y (rmw ∷ fs) s
      unfolding possible_at next_at concerns event_at location_of enabled_at effect
      join can between =
          by_test (eqb y x)
          (λ q. let here = T→true {b = eqb y x} q in join_here here (rw here at can) (rw here at between))
          (λ q. let away = not→false {b = eqb y x} q in join_elsewhere away (rw away at between))

    together : 1 ≤ owner sys y → (fs : List Event) (s : Local)
        → HasRunAt sys y (load ∷ store ∷ fs) s → HasRunAt sys y (rmw ∷ fs) s
    together l fs s r =
        let f = (has_run_cons sys y load (store ∷ fs) s).0 r in
        let g = (has_run_cons sys y store fs (next_at sys y (event load) f.0)).0 f.3 in
        join l fs s f.0 g.0 f.1 g.3 f.2 g.1

    -- After any events.
    after_events : {ds gs : List Event} → ((s : Local) → HasRunAt sys y ds s → HasRunAt sys y gs s)
        → (es : List Event) (s : Local) → HasRunAt sys y (es ++ ds) s → HasRunAt sys y (es ++ gs) s
    after_events go [] s r = go s r
    after_events {ds} {gs} go (e ∷ es) s r =
        let f = (has_run_cons sys y e (es ++ ds) s).0 r in
        (has_run_cons sys y e (es ++ gs) s).1
        (f.0, f.1, f.2, after_events go es (next_at sys y (event e) f.0) f.3)

  -- ---- the whole system

  -- Both name the same machine and the same location.
  names_alike : (es fs : List Event)
      → all_named sys (map event (es ++ rmw ∷ fs)) ≡ all_named sys (map event (es ++ load ∷ store ∷ fs))
  unfolding all_named named
  names_alike [] fs = go form
    where
      once : (n rest : Bool) → (n && rest) ≡ (n && (n && rest))
      once true rest = refl
      once false rest = refl

      go : (f : Form) → all_named sys (map event (RMW f i x v w ∷ fs))
          ≡ all_named sys (map event (load ∷ store_of f i x w ∷ fs))
      go L = once (is_machine sys i && is_location sys x) (all_named sys (map event fs))
      go R = once (is_machine sys i && is_location sys x) (all_named sys (map event fs))
      go M = once (is_machine sys i && is_location sys x) (all_named sys (map event fs))
  names_alike (e ∷ es) fs = ap (λ (b : Bool). named sys (event e) && b) (names_alike es fs)

  pub has_run_both : WellFormed sys → (es fs : List Event)
      → HasRun sys (es ++ rmw ∷ fs) ↔ HasRun sys (es ++ load ∷ store ∷ fs)
  has_run_both wf es fs = (
    λ r.
        let parts = (split sys wf (es ++ rmw ∷ fs)).0 r in
        (split sys wf (es ++ load ∷ store ∷ fs)).1 (
          subst T (names_alike es fs) parts.0,
          λ y l. after_events y (apart y fs) es (start_at sys y) (parts.1 y l),
        ),
    λ r.
        let parts = (split sys wf (es ++ load ∷ store ∷ fs)).0 r in
        (split sys wf (es ++ rmw ∷ fs)).1 (
          subst T (sym (names_alike es fs)) parts.0,
          λ y l.
              let first = (machine_bounds sys (owner sys y) (wf y l)).0 in
              after_events y (together y first fs) es (start_at sys y) (parts.1 y l),
        ),
  )
