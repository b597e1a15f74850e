-- Of a system in which every location is of its owner's kind and starts with what `first` says, `Cxl0` says what
-- `Earlier` says of it: the start is the same, every action leaves the same state, and so the same lists are runs.
use Prim.Native.Nat.{ℕ}
use mathlib.Core.Path.{◌≡◌, refl, ap, ◌∙◌}
use mathlib.Core.Logic.{◌↔◌}
use mathlib.Core.Bool.{Bool, true, false, cond, not, ◌&&◌}
use mathlib.Core.List.{List, [], ◌∷◌}
use mathlib.Core.Option.{none}
use lib.ListN.{take}
use Rattle.model.specs.Cxl0.{Location, Value, Topology, owner, initial, is_persistent, State, start, crashes}
use Rattle.model.specs.Cxl0.{clears, crashed, possible, next, runs}
use Rattle.model.specs.Cxl0.{Event, LStore, RStore, MStore, Load, LFlush, RFlush, Crash, SetCrash, RMW}
use Rattle.model.specs.Cxl0.{Action, event, silent, Run, HasRun, FirstImpossible}
use Rattle.model.specs.Earlier as earlier
use Rattle.model.specs.Earlier.{OwnersKinds}

-- What is left of m where the owner crashes, or not, and the memory is persistent, or not: it returns to v, or stays.
same_cleared : (crash kept : Bool) (v m : Value)
    → cond (crash && not kept) v m ≡ cond crash (cond kept m v) (cond (crash && not kept) v m)
same_cleared true true v m = refl
same_cleared true false v m = refl
same_cleared false kept v m = refl

module _ (sys : Topology) (first : Location → Value)
    (kinds : OwnersKinds sys) (wakes : (x : Location) → initial sys x ≡ first x) where
  -- So it is with every memory after a crash, by its owner's kind and the value that it starts with.
  same_memory : (e : Event) (s : State) (y : Location)
      → (crashed sys e s).memory y
      ≡ cond (crashes e (owner sys y))
      (cond (sys.persistent (owner sys y)) (s.memory y) (first y))
      ((crashed sys e s).memory y)
  unfolding clears
  same_memory e s y =
      let crash = crashes e (owner sys y) in
      rw (← wakes y, ← kinds y) (same_cleared crash (is_persistent sys y) (initial sys y) (s.memory y))

  same_crash : (e : Event) (s : State)
      → crashed sys e s
      ≡ record {
        cache = (crashed sys e s).cache;
        memory = λ y. cond (crashes e (owner sys y))
            (cond (sys.persistent (owner sys y)) (s.memory y) (first y))
            ((crashed sys e s).memory y);
      }
  same_crash e s =
      λ i. record { cache = (crashed sys e s).cache; memory = λ y. same_memory e s y i }

  pub same_start : start sys ≡ earlier.start first
  unfolding start earlier.start
  same_start = λ i. record { cache = λ j x. none; memory = λ x. wakes x i }

  -- Where no owner crashes there is nothing to show.
  pub same_next : (a : Action) (s : State) → next sys a s ≡ earlier.next sys first a s
  unfolding earlier.next next crashes
  same_next (event (LStore i x v)) s = refl
  same_next (event (RStore i x v)) s = refl
  same_next (event (MStore i x v)) s = refl
  same_next (event (Load i x v)) s = refl
  same_next (event (LFlush i x)) s = refl
  same_next (event (RFlush i x)) s = refl
  same_next (event (Crash i)) s = same_crash (Crash i) s
  same_next (event (SetCrash set)) s = same_crash (SetCrash set) s
  same_next (event (RMW form i x v w)) s = refl
  same_next (silent a) s = refl

  -- So each action of a list is possible in its turn, or not, alike.
  same_runs : (acts : List Action) (s : State) → runs sys acts s ≡ earlier.runs sys first acts s
  unfolding runs earlier.runs
  same_runs [] s = refl
  same_runs (a ∷ acts) s =
      ap (λ b. possible sys a s && b) (same_runs acts (next sys a s) ∙ ap (earlier.runs sys first acts) (same_next a s))

  same_test : (acts : List Action) → runs sys acts (start sys) ≡ earlier.runs sys first acts (earlier.start first)
  same_test acts = same_runs acts (start sys) ∙ ap (earlier.runs sys first acts) same_start

  pub same_run : (acts : List Action) → Run sys acts ↔ earlier.Run sys first acts
  same_run acts = (λ run. rw (same_test acts) at run, λ run. rw (same_test acts) run)

  pub same_has_run : (es : List Event) → HasRun sys es ↔ earlier.HasRun sys first es
  unfolding HasRun earlier.HasRun
  same_has_run es = (
    λ r. (r.0, r.1, (same_run r.0).0 r.2),
    λ r. (r.0, r.1, (same_run r.0).1 r.2),
  )

  pub same_first_impossible : (es : List Event) (e : ℕ)
      → FirstImpossible sys es e ↔ earlier.FirstImpossible sys first es e
  unfolding FirstImpossible earlier.FirstImpossible
  same_first_impossible es e = (
    λ f. (
      f.0,
      f.1,
      λ r. f.2 ((same_has_run (take e es)).1 r),
      λ d l. (same_has_run (take d es)).0 (f.3 d l),
    ),
    λ f. (
      f.0,
      f.1,
      λ r. f.2 ((same_has_run (take e es)).0 r),
      λ d l. (same_has_run (take d es)).1 (f.3 d l),
    ),
  )
