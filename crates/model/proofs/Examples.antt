-- Small logs with their explanations, computed from the definition alone. Each tells a false definition from it.
use Prim.Native.Nat.{ℕ}
use mathlib.Core.Path.{◌≡◌, refl}
use mathlib.Core.List.{[], ◌∷◌, flat_map}
use mathlib.Core.Option.{none, some}
use Rattle.model.specs.Cxl0.{is_machine, is_location, owner, initial, keeps, is_persistent, start, some_machine}
use Rattle.model.specs.Cxl0.{every_machine, cached, crashes, clears, named, enabled, next, possible, runs}
use Rattle.model.specs.Cxl0.{Topology, LStore, Load, LFlush, RFlush, Crash, SetCrash}
use Rattle.model.specs.Cxl0.{count, is_store, is_load}
use Rattle.model.specs.Sharers.{has}
use Rattle.model.specs.Schedule.{Step, silent_of, due, later, steps, weave_from, weave, in_order}
use Rattle.model.specs.MarkedLogs.{three, persistent, volatile, L0, L1}
use Rattle.model.specs.Explanations.{below, first, steps_for, schedules_of, step_bound, schedules_for, explains}
use Rattle.model.specs.Explanations.{explanation, first_unexplained}

-- L0, or L0 and L1, of machine 1.
abbrev pub one : Topology
one = persistent (1 ∷ [])

abbrev pub both : Topology
both = persistent (1 ∷ 1 ∷ [])

abbrev pub step : ℕ → ℕ → ℕ → Step
step b x i = record { before = b; location = x; machine = i }

pub record Examples : Type 0 where
  -- No events need no step.
  pub no_events : explanation one [] ≡ some []
  -- Neither does a load from another machine's cache: schedules are counted from no step.
  pub no_step : explanation one (LStore 2 L0 1 ∷ Load 1 L0 1 ∷ []) ≡ some []
  -- A move and a write-back: as many steps as the bound allows, and in order.
  pub two_steps : explanation one (LStore 2 L0 1 ∷ RFlush 2 L0 ∷ []) ≡ some (step 1 0 2 ∷ step 1 0 0 ∷ [])
  -- A load may cost a step of its own.
  pub three_steps :
      explanation (volatile (1 ∷ []))
      (LStore 2 L0 1 ∷ Load 3 L0 1 ∷ LFlush 2 L0 ∷ Crash 1 ∷ RFlush 2 L0 ∷ Load 1 L0 1 ∷ [])
      ≡ some (step 1 0 2 ∷ step 4 0 3 ∷ step 4 0 0 ∷ [])
  -- A step stands as early as it can.
  pub earliest : explanation one (LStore 2 L0 1 ∷ Crash 1 ∷ LFlush 2 L0 ∷ []) ≡ some (step 1 0 2 ∷ [])
  -- The count of events decides before the location does.
  pub two_locations :
      explanation both (LStore 2 L1 1 ∷ LStore 2 L0 1 ∷ LFlush 2 L1 ∷ LFlush 2 L0 ∷ [])
      ≡ some (step 1 1 2 ∷ step 2 0 2 ∷ [])
  -- Of two machines whose move would do, the smaller one moves. Machines 2 and 3, whose bits make 6, crash together.
  pub smaller_machine :
      explanation one (LStore 2 L0 1 ∷ Load 3 L0 1 ∷ Crash 1 ∷ SetCrash 6 ∷ Load 1 L0 1 ∷ [])
      ≡ some (step 3 0 2 ∷ [])
  -- The second of three events is the first that makes an end to explanations.
  pub not_explained : explanation one (Load 1 L0 0 ∷ Load 1 L0 2 ∷ LFlush 1 L0 ∷ []) ≡ none
  pub first_of_three : first_unexplained one (Load 1 L0 0 ∷ Load 1 L0 2 ∷ LFlush 1 L0 ∷ []) ≡ 2

pub examples : Examples
unfolding
    explanation first_unexplained explains schedules_for schedules_of steps_for step_bound first below flat_map
    silent_of due later steps weave_from weave in_order count is_store is_load
    three persistent volatile is_machine is_location owner initial keeps is_persistent start some_machine every_machine
    cached has crashes clears named enabled next possible runs
examples =
    record {
      no_events = refl;
      no_step = refl;
      two_steps = refl;
      three_steps = refl;
      earliest = refl;
      two_locations = refl;
      smaller_machine = refl;
      not_explained = refl;
      first_of_three = refl;
    }
