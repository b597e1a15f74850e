-- Trails of silent steps: one after another is a trail, and a trail runs at its location.
use Prim.Native.Nat.{ℕ, zero, suc}
use mathlib.Core.Path.{◌≡◌, refl, sym, subst}
use mathlib.Core.Bool.{true, not}
use mathlib.Core.List.{List, [], ◌∷◌, ◌++◌, map}
use lib.Dec.{T, eqb, eqb_refl}
use Rattle.model.specs.Cxl0.{Machine, Location, Topology, owner, Silent, Propagate, WriteBack, Action, silent}
use Rattle.model.specs.Schedule.{silent_of, steps}
use Rattle.model.specs.Sharers.{has}
use Rattle.model.specs.OneLocation.{Local, silent_at, concerns, site_of, enabled_at, effect, possible_at, next_at}
use Rattle.model.specs.OneLocation.{runs_at, after_at}
use Rattle.model.proofs.Tests.{and_l, and_r, and_i, T→true}
use Rattle.walking.specs.Trails.{Trail, none, moves, writes, step_at, RunsTo}

-- One trail after another.
pub trail_append : {k : Machine} {is js : List Machine} {s t v : Local}
    → Trail k is s t → Trail k js t v → Trail k (is ++ js) s v
trail_append none q = q
trail_append (moves i t r) q = moves i t (trail_append r q)
trail_append (writes t r) q = writes t (trail_append r q)

module _ (sys : Topology) (x : Location) where
  pub runs_to_none : {s : Local} → RunsTo sys x [] s s
  unfolding runs_at after_at
  runs_to_none = record { runs = tt; leads = refl }

  -- One action more in front.
  pub runs_to_cons : {a : Action} {acts : List Action} {s t : Local}
      → T (possible_at sys x a s) → RunsTo sys x acts (next_at sys x a s) t → RunsTo sys x (a ∷ acts) s t
  unfolding runs_at after_at
  runs_to_cons {a} {acts} {s} p r =
      let rest = runs_at sys x acts (next_at sys x a s) in
      record { runs = and_i (possible_at sys x a s) rest p r.runs; leads = r.leads }

  -- One list after another.
  pub runs_to_append : (acts : List Action) {more : List Action} {s t v : Local}
      → RunsTo sys x acts s t → RunsTo sys x more t v → RunsTo sys x (acts ++ more) s v
  unfolding runs_at after_at
  runs_to_append [] {more} {s} {t} {v} p q = subst (λ (z : Local). RunsTo sys x more z v) (sym p.leads) q
  runs_to_append (a ∷ acts) {s} p q =
      let can = possible_at sys x a s in
      let rest = runs_at sys x acts (next_at sys x a s) in
      runs_to_cons (and_l can rest p.runs)
      (runs_to_append acts (record { runs = and_r can rest p.runs; leads = p.leads }) q)

  -- A silent step of x in front.
  runs_to_silent : (a : Silent) {acts : List Action} {s t : Local}
      → T (silent_at x a) → T (enabled_at (site_of sys x) (silent a) s)
      → RunsTo sys x acts (effect (site_of sys x) (silent a) s) t → RunsTo sys x (silent a ∷ acts) s t
  unfolding possible_at next_at concerns
  runs_to_silent a o e r =
      let here : silent_at x a ≡ true = T→true o in
      runs_to_cons (rw here e) (rw here r)

  -- A trail of steps of x runs at x.
  pub trail_runs : (n : ℕ) {is : List Machine} {s t : Local}
      → Trail (owner sys x) is s t → RunsTo sys x (steps (map (step_at n x) is)) s t
  unfolding steps silent_of silent_at site_of enabled_at effect has
  trail_runs n none = runs_to_none
  trail_runs n (moves {s} zero p r) = absurd (and_r (not (eqb zero (owner sys x))) (has zero s.code) p)
  trail_runs n (moves (suc i) p r) = runs_to_silent (Propagate (suc i) x) (eqb_refl x) p (trail_runs n r)
  trail_runs n (writes p r) = runs_to_silent (WriteBack x) (eqb_refl x) p (trail_runs n r)
