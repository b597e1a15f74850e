-- The list of all schedules that may explain events: it is in order, fewer steps first and smaller numbers first among
-- as many, and it has the schedule of every run of the events.
use Prim.Native.Nat.{ℕ, zero, suc, ◌+◌, ◌≤◌, ◌<◌}
use native.Mathlib.Omega.{arith}
use mathlib.Core.Path.{◌≡◌, refl, sym, ap, ◌∙◌, subst}
use mathlib.Core.Logic.{◌⊎◌, inl, inr}
use mathlib.Core.Bool.{◌&&◌}
use mathlib.Core.List.{List, [], ◌∷◌, flat_map}
use mathlib.Core.List.Memᴰ
use mathlib.Core.List.{Memᴰ}
use lib.Dec.{T, ltb→lt}
use lib.ListN.{length}
use Rattle.model.specs.Cxl0.{Topology, WellFormed, is_machine, is_location, State, start}
use Rattle.model.specs.Cxl0.{Event, Silent, Propagate, WriteBack, Action, event, silent}
use Rattle.model.specs.Cxl0.{named, enabled, possible, next, runs, Run, events, silents}
use Rattle.model.specs.Schedule.{Step, step_of, schedule_from, schedule}
use Rattle.model.specs.Shortest.{Less, Smaller}
use Rattle.model.specs.Pairwise.{Pairwise}
use Rattle.model.specs.Explanations.{below, steps_for, schedules_of, step_bound, schedules_for}
use Rattle.model.proofs.Tests.{and_l, and_r}
use Rattle.model.proofs.Expand.{machine_bounds}
use Rattle.model.proofs.Bound.{bound}
use Rattle.model.proofs.Pairwise.{mem_flat_map, of_flat_map, flat_map_one}
use Rattle.model.proofs.Pairwise.{pairwise_follows, pairwise_map, pairwise_flat_map}
use Rattle.model.proofs.Firsts.{mem_below, pairwise_below}

-- ---- the steps

abbrev step : ℕ → ℕ → ℕ → Step
step b x i = record { before = b; location = x; machine = i }

module _ (sys : Topology) where
  -- The machines, and 0 for a write-back.
  abbrev machines : List ℕ
  machines = below (suc sys.machines)

  abbrev locations : List ℕ
  locations = below (length sys.homes)

  -- The steps after b events at location x.
  abbrev at : ℕ → ℕ → List Step
  at b x = flat_map (λ i. step b x i ∷ []) machines

  -- All steps after b events.
  abbrev after : ℕ → List Step
  after b = flat_map (at b) locations

  at_numbers : (b x : ℕ) (p : Step) → Memᴰ p (at b x) → (p.before ≡ b) × (p.location ≡ x)
  at_numbers b x p m =
      let (i, _, e) = Memᴰ.of_map (step b x) machines (rw (flat_map_one (step b x) machines) at m) in
      (ap (λ (p : Step). p.before) (sym e), ap (λ (p : Step). p.location) (sym e))

  after_before : (b : ℕ) (p : Step) → Memᴰ p (after b) → p.before ≡ b
  after_before b p m = let (x, _, i) = of_flat_map (at b) locations m in (at_numbers b x p i).0

  -- The steps at one location differ by the machine, those after the same events by the location or the machine.
  at_in_order : (b x : ℕ) → Pairwise Less (at b x)
  at_in_order b x =
      rw (flat_map_one (step b x) machines)
      (pairwise_map ◌<◌ Less (step b x) machines (pairwise_below (suc sys.machines))
      (λ i j h. inr (refl, inr (refl, h))))

  after_in_order : (b : ℕ) → Pairwise Less (after b)
  after_in_order b =
      pairwise_flat_map ◌<◌ Less (at b) locations (pairwise_below (length sys.homes)) (at_in_order b)
      (λ x y h p q i j.
      let (same, left) = at_numbers b x p i in
      let (as_well, right) = at_numbers b y q j in
      inr (same ∙ sym as_well, inl (omega (arith, left, right))))

  -- The steps are listed in order.
  steps_in_order : (n : ℕ) → Pairwise Less (steps_for sys n)
  unfolding steps_for
  steps_in_order n =
      pairwise_flat_map ◌<◌ Less after (below (suc n)) (pairwise_below (suc n)) after_in_order
      (λ b c h p q i j. inl (omega (arith, after_before b p i, after_before c q j)))

  -- A step after at most n events, at a location and by a machine of the system, is listed.
  mem_steps : (n b x i : ℕ) → b ≤ n → x < length sys.homes → i ≤ sys.machines
      → Memᴰ (step b x i) (steps_for sys n)
  unfolding steps_for
  mem_steps n b x i h l m =
      mem_flat_map after (below (suc n)) (mem_below (suc n) b (omega arith))
      (mem_flat_map (at b) locations (mem_below (length sys.homes) x l)
      (mem_flat_map (λ i. step b x i ∷ []) machines (mem_below (suc sys.machines) i (omega arith))
      (Memᴰ.head refl)))

-- ---- the schedules of k steps

module _ (steps : List Step) where
  -- The schedules of p and k steps after it.
  abbrev beginning : ℕ → Step → List (List Step)
  beginning k p = flat_map (λ ps. (p ∷ ps) ∷ []) (schedules_of steps k)

  begins : (k : ℕ) (p : Step) (ps : List Step) → Memᴰ ps (beginning k p)
      → (qs : List Step) × Memᴰ qs (schedules_of steps k) × (p ∷ qs ≡ ps)
  begins k p ps m =
      Memᴰ.of_map (λ ps. p ∷ ps) (schedules_of steps k) (rw (flat_map_one (λ ps. p ∷ ps) (schedules_of steps k)) at m)

  length_schedules : (k : ℕ) (ps : List Step) → Memᴰ ps (schedules_of steps k) → length ps ≡ k
  unfolding schedules_of
  length_schedules zero ps m = ap length (Memᴰ.eq_of_singleton m)
  length_schedules (suc k) ps m =
      let (p, _, i) = of_flat_map (beginning k) steps m in
      let (qs, j, e) = begins k p ps i in
      ap length (sym e) ∙ ap suc (length_schedules k qs j)

  -- They are listed in order, since the steps are.
  schedules_in_order : Pairwise Less steps → (k : ℕ) → Pairwise Smaller (schedules_of steps k)
  unfolding schedules_of Smaller
  schedules_in_order o zero = unfold Pairwise in (λ b m. absurd (Memᴰ.not-nil m), tt)
  schedules_in_order o (suc k) =
      pairwise_flat_map Less Smaller (beginning k) steps o
      (λ p.
      rw (flat_map_one (λ ps. p ∷ ps) (schedules_of steps k))
      (pairwise_map Smaller Smaller (λ ps. p ∷ ps) (schedules_of steps k) (schedules_in_order o k)
      (λ ps qs h. inr (refl, h))))
      (λ p q h ps qs i j.
      let (ps', _, e) = begins k p ps i in
      let (qs', _, f) = begins k q qs j in
      subst (λ (l : List Step). Smaller l qs) e (subst (Smaller (p ∷ ps')) f (inl h)))

-- ---- all schedules

-- One schedule has fewer steps than another, or as many and smaller numbers.
abbrev pub Before : List Step → List Step → Type 0
Before ps qs = (length ps < length qs) ⊎ ((length ps ≡ length qs) × Smaller ps qs)

-- The schedules are listed in this order.
pub all_in_order : (sys : Topology) (es : List Event) → Pairwise Before (schedules_for sys es)
unfolding schedules_for
all_in_order sys es =
    let steps = steps_for sys (length es) in
    pairwise_flat_map ◌<◌ Before (schedules_of steps) (below (suc (step_bound es)))
    (pairwise_below (suc (step_bound es)))
    (λ k.
    pairwise_follows Smaller Before (schedules_of steps k)
    (λ ps qs i j h. inr (length_schedules steps k ps i ∙ sym (length_schedules steps k qs j), h))
    (schedules_in_order steps (steps_in_order sys (length es)) k))
    (λ k l h ps qs i j. inl (omega (arith, length_schedules steps k ps i, length_schedules steps l qs j)))

-- ---- the schedule of a run

module _ (sys : Topology) where
  -- A silent step that is possible is listed.
  mem_silent : (n m : ℕ) (a : Silent) (s : State) → n ≤ m → T (possible sys (silent a) s)
      → Memᴰ (step_of n a) (steps_for sys m)
  unfolding step_of possible named is_location
  mem_silent n m (Propagate i x) s h t =
      let names = and_l (is_machine sys i && is_location sys x) (enabled sys (silent (Propagate i x)) s) t in
      let machine = machine_bounds sys i (and_l (is_machine sys i) (is_location sys x) names) in
      let location = ltb→lt x (length sys.homes) (and_r (is_machine sys i) (is_location sys x) names) in
      mem_steps sys m n x i h location machine.1
  mem_silent n m (WriteBack x) s h t =
      let names = and_l (is_location sys x) (enabled sys (silent (WriteBack x)) s) t in
      mem_steps sys m n x 0 h (ltb→lt x (length sys.homes) names) (omega arith)

  -- So the schedule of a run is one of those with as many steps, n events having passed before it.
  mem_schedule : (n m : ℕ) (acts : List Action) (s : State) → n + length (events acts) ≤ m → T (runs sys acts s)
      → Memᴰ (schedule_from n acts) (schedules_of (steps_for sys m) (length (silents acts)))
  unfolding events runs silents schedule_from schedules_of
  mem_schedule n m [] s h r = Memᴰ.head refl
  mem_schedule n m (event e ∷ acts) s h r =
      let then = next sys (event e) s in
      mem_schedule (suc n) m acts then (omega arith) (and_r (possible sys (event e) s) (runs sys acts then) r)
  mem_schedule n m (silent a ∷ acts) s h r =
      let can = possible sys (silent a) s in
      let then = next sys (silent a) s in
      let steps = steps_for sys m in
      let k = length (silents acts) in
      mem_flat_map (beginning steps k) steps
      (mem_silent n m a s (omega arith) (and_l can (runs sys acts then) r))
      (mem_flat_map (λ ps. (step_of n a ∷ ps) ∷ []) (schedules_of steps k)
      (mem_schedule n m acts then h (and_r can (runs sys acts then) r))
      (Memᴰ.head refl))

  -- The schedule of every run of the events is listed, since no run has more steps than the bound.
  pub run_listed : WellFormed sys → (acts : List Action) → Run sys acts
      → Memᴰ (schedule acts) (schedules_for sys (events acts))
  unfolding schedules_for step_bound schedule
  run_listed w acts run =
      let es = events acts in
      mem_flat_map (schedules_of (steps_for sys (length es))) (below (suc (step_bound es)))
      (mem_below (suc (step_bound es)) (length (silents acts)) (omega (arith, bound sys w acts run)))
      (mem_schedule 0 (length es) acts (start sys) (omega arith) run)
