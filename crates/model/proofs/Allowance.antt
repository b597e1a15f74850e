-- A list that runs at x with silent steps of x alone has no more of them than its events allow for.
use Prim.Native.Nat.{ℕ, suc, ◌+◌, ◌*◌, ◌≤◌}
use native.Mathlib.Omega.{arith}
use mathlib.Core.Path.{◌≡◌}
use mathlib.Core.Bool.{Bool, true, false, cond, ◌&&◌}
use mathlib.Core.List.{List, [], ◌∷◌}
use lib.Dec.{T}
use lib.ListN.{length}
use Rattle.model.specs.Cxl0.{Location, Topology, is_machine, owner, Event, Action, event, silent}
use Rattle.model.specs.Cxl0.{named, events, silents, count, is_store, is_load}
use Rattle.model.specs.OneLocation.{Local, site_of, event_at, silent_at, concerns, enabled_at, effect}
use Rattle.model.specs.OneLocation.{possible_at, next_at, runs_at, after_at, own_steps}
use Rattle.model.proofs.Tests.{and_l, and_r, T→true}
use Rattle.model.proofs.Merge.{each}
use Rattle.model.proofs.Potential.{one, rank, gain, loss, rank_step}
use Rattle.model.specs.Allowance.{allowance}

-- What one event may add.
abbrev adds : Location → Event → ℕ
adds x e = cond (event_at x e) (gain (event e)) 0

-- An event and the events after it allow for what they allow for apart.
pub allowance_cons : (x : Location) (e : Event) (es : List Event)
    → allowance x (e ∷ es) ≡ adds x e + allowance x es
unfolding allowance count gain
allowance_cons x e es =
    go (event_at x e) (is_store e) (is_load e)
    (count (λ e. event_at x e && is_store e) es) (count (λ e. event_at x e && is_load e) es)
  where
    go : (at store load : Bool) (m n : ℕ)
        → 2 * cond (at && store) (suc m) m + cond (at && load) (suc n) n
        ≡ cond at (2 * one store + one load) 0 + (2 * m + n)
    go true true true m n = omega arith
    go true true false m n = omega arith
    go true false true m n = omega arith
    go true false false m n = omega arith
    go false store load m n = omega arith

module _ (sys : Topology) (x : Location) (o : T (is_machine sys (owner sys x))) where
  -- An action that concerns x changes the potential of x as it may, and another one does not change it.
  rank_next : (a : Action) (s : Local) → T (named sys a) → T (possible_at sys x a s)
      → rank sys x (next_at sys x a s) + cond (concerns x a) (loss a) 0
      ≤ rank sys x s + cond (concerns x a) (gain a) 0
  unfolding possible_at next_at
  rank_next a s n p = go (concerns x a) p
    where
      go : (b : Bool) → T (cond b (enabled_at (site_of sys x) a s) true)
          → rank sys x (cond b (effect (site_of sys x) a s) s) + cond b (loss a) 0 ≤ rank sys x s + cond b (gain a) 0
      go true p = rank_step sys x a s o n p
      go false p = omega arith

  -- The silent steps and the potential in the end are paid for by the potential at first and by the events.
  pub rank_runs : (acts : List Action) (s : Local) → T (each (named sys) acts) → T (own_steps x acts)
      → T (runs_at sys x acts s)
      → length (silents acts) + rank sys x (after_at sys x acts s) ≤ rank sys x s + allowance x (events acts)
  unfolding each own_steps runs_at after_at silents events concerns gain loss
  rank_runs [] s n t r = omega arith
  rank_runs (event e ∷ acts) s n t r =
      let s' = next_at sys x (event e) s in
      let can = possible_at sys x (event e) s in
      let first = rank_next (event e) s (and_l (named sys (event e)) (each (named sys) acts) n)
      (and_l can (runs_at sys x acts s') r) in
      let rest = rank_runs acts s' (and_r (named sys (event e)) (each (named sys) acts) n) t
      (and_r can (runs_at sys x acts s') r) in
      omega (arith, allowance_cons x e (events acts))
  rank_runs (silent a ∷ acts) s n t r =
      let s' = next_at sys x (silent a) s in
      let can = possible_at sys x (silent a) s in
      let here : silent_at x a ≡ true = T→true (and_l (silent_at x a) (own_steps x acts) t) in
      let first = rw here at (rank_next (silent a) s (and_l (named sys (silent a)) (each (named sys) acts) n)
      (and_l can (runs_at sys x acts s') r)) in
      let rest = rank_runs acts s' (and_r (named sys (silent a)) (each (named sys) acts) n)
      (and_r (silent_at x a) (own_steps x acts) t) (and_r can (runs_at sys x acts s') r) in
      omega arith
