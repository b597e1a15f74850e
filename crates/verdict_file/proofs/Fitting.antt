-- The steps of a run fit the system: each names a listed location and a machine that is not its owner.
use Prim.Native.Nat.{ℕ, zero, suc, ◌≤◌}
use native.Mathlib.Omega.{arith}
use mathlib.Core.Path.{◌≡◌, subst}
use mathlib.Core.Bool.{not, ◌&&◌}
use mathlib.Core.List.{List, [], ◌∷◌, map, cons≢nil, nil≢cons, head-eq_of_cons-eq, tail-eq_of_cons-eq}
use lib.Dec.{T, leb, eqb, le→leb}
use Rattle.model.specs.Cxl0.{Topology, is_machine, is_location, owner, WellFormed, State, start}
use Rattle.model.specs.Cxl0.{Event, Silent, WriteBack, Action, event, silent}
use Rattle.model.specs.Cxl0.{named, enabled, holds, possible, next, runs, Run, silents}
use Rattle.model.specs.Schedule.{Step, silent_of, weave}
use Rattle.model.proofs.Tests.{and_i, and_l, and_r, ne→test}
use Rattle.model.proofs.Expand.{machine_bounds}
use Rattle.model.proofs.Weaving.{silents_weave}
use Rattle.verdict_file.specs.Fitting.{step_fits, every_step_fits}

module _ (sys : Topology) where
  -- What it takes for a step to fit.
  fits_i : (p : Step) → T (is_location sys p.location) → p.machine ≤ sys.machines
      → T (not (eqb p.machine (owner sys p.location))) → T (step_fits sys p)
  unfolding step_fits
  fits_i p l m o =
      let listed = is_location sys p.location in
      let few = leb p.machine sys.machines in
      let other = not (eqb p.machine (owner sys p.location)) in
      and_i (listed && few) other (and_i listed few l (le→leb p.machine sys.machines m)) o

  -- A silent step that is possible fits: the owner does not propagate, and is not machine 0, a write-back's.
  possible_fits : WellFormed sys → (n x i : ℕ) (s : State)
      → let p : Step = record { before = n; location = x; machine = i } in
      T (possible sys (silent (silent_of p)) s) → T (step_fits sys p)
  unfolding silent_of possible named enabled
  possible_fits w n x zero s t =
      let l = and_l (is_location sys x) (enabled sys (silent (WriteBack x)) s) t in
      let k = machine_bounds sys (owner sys x) (w x l) in
      fits_i (record { before = n; location = x; machine = 0 }) l (omega arith)
      (ne→test 0 (owner sys x) (omega (arith, k.0)))
  possible_fits w n x (suc i) s t =
      let names = is_machine sys (suc i) && is_location sys x in
      let other = not (eqb (suc i) (owner sys x)) in
      let has = holds (s.cache (suc i) x) in
      let m = and_l names (other && has) t in
      let b = machine_bounds sys (suc i) (and_l (is_machine sys (suc i)) (is_location sys x) m) in
      let l = and_r (is_machine sys (suc i)) (is_location sys x) m in
      fits_i (record { before = n; location = x; machine = suc i }) l b.1
      (and_l other has (and_r names (other && has) t))

  -- Steps whose silent steps are those of actions that run fit.
  silents_fit : WellFormed sys → (acts : List Action) (s : State) → T (runs sys acts s)
      → (ps : List Step) → silents acts ≡ map silent_of ps → T (every_step_fits sys ps)
  unfolding runs silents every_step_fits
  silents_fit w [] s t [] e = tt
  silents_fit w [] s t (p ∷ ps) e = absurd (nil≢cons e)
  silents_fit w (event f ∷ acts) s t ps e =
      let then = next sys (event f) s in
      silents_fit w acts then (and_r (possible sys (event f) s) (runs sys acts then) t) ps e
  silents_fit w (silent a ∷ acts) s t [] e = absurd (cons≢nil e)
  silents_fit w (silent a ∷ acts) s t (p ∷ ps) e =
      let then = next sys (silent a) s in
      let can = and_l (possible sys (silent a) s) (runs sys acts then) t in
      let same = subst (λ (b : Silent). T (possible sys (silent b) s)) (head-eq_of_cons-eq e) can in
      let rest = and_r (possible sys (silent a) s) (runs sys acts then) t in
      and_i (step_fits sys p) (every_step_fits sys ps)
      (possible_fits w p.before p.location p.machine s same)
      (silents_fit w acts then rest ps (tail-eq_of_cons-eq e))

  -- The steps that make a run of events fit.
  pub run_fits : WellFormed sys → (es : List Event) (ps : List Step) → Run sys (weave es ps)
      → T (every_step_fits sys ps)
  run_fits w es ps r = silents_fit w (weave es ps) (start sys) r ps (silents_weave es ps)
