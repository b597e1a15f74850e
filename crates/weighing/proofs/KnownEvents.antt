-- The events of a system of at most six machines are known, if their operations are.
use Prim.Native.Nat.{ℕ, zero, suc, ◌+◌, ◌^◌, ◌≤◌, ◌<◌}
use native.Mathlib.Nat.{le_of_suc-le-suc, not-suc-le-zero, add-zero, zero-add, lt_of_lt_of_le}
use native.Mathlib.Omega.{arith}
use mathlib.Core.Path.{◌≡◌, refl}
use mathlib.Core.Bool.{◌&&◌}
use mathlib.Core.List.{List, map}
use lib.Dec.{T, ltb→lt}
use lib.Pow.{pow_mono}
use Rattle.model.specs.Cxl0.{Machine, Location, Topology, is_machine, is_location, named, all_named, event}
use Rattle.model.specs.Cxl0.{Event, LStore, RStore, MStore, Load, LFlush, RFlush, Crash, SetCrash, RMW}
use Rattle.model.specs.Operations.{is_operation}
use Rattle.model.proofs.Tests.{and_l, and_r}
use Rattle.model.proofs.Expand.{machine_bounds}
use Rattle.masks.specs.Sets.{OneToSix}
use Rattle.rows.specs.Sites.{NamesSix, Known}
use Rattle.scratch.specs.Words.{event_in, events_from, events_in, struct_in}
use Rattle.scratch.proofs.Events.{meant_read}

module _ (sys : Topology) (few : sys.machines ≤ 6) where
  -- A machine of the system, and a set of them.
  six : (i : Machine) → T (is_machine sys i) → OneToSix i
  six i t = let b = machine_bounds sys i t in (b.0, omega (arith, b.1))

  six_at : (i : Machine) (x : Location) → T (is_machine sys i && is_location sys x) → OneToSix i
  six_at i x t = six i (and_l (is_machine sys i) (is_location sys x) t)

  names_six : (e : Event) → T (named sys (event e)) → NamesSix e
  unfolding named NamesSix
  names_six (LStore i x v) t = six_at i x t
  names_six (RStore i x v) t = six_at i x t
  names_six (MStore i x v) t = six_at i x t
  names_six (Load i x v) t = six_at i x t
  names_six (LFlush i x) t = six_at i x t
  names_six (RFlush i x) t = six_at i x t
  names_six (Crash i) t = six i t
  names_six (SetCrash set) t = lt_of_lt_of_le (ltb→lt set (2 ^ sys.machines) t) (pow_mono few)
  names_six (RMW form i x v w) t = six_at i x t

  machines_from : (w : List ℕ) (j m : ℕ) → T (all_named sys (map event (events_from w j m)))
      → (k : ℕ) → k < m → NamesSix (event_in w (j + k))
  unfolding events_from all_named
  machines_from w j zero t k h = absurd (not-suc-le-zero h)
  machines_from w j (suc m) t zero h =
      let rest = all_named sys (map event (events_from w (suc j) m)) in
      rw (add-zero j) (names_six (event_in w j) (and_l (named sys (event (event_in w j))) rest t))
  machines_from w j (suc m) t (suc k) h =
      let rest = all_named sys (map event (events_from w (suc j) m)) in
      let next : suc j + k ≡ j + suc k = omega arith in
      rw (← next)
      (machines_from w (suc j) m (and_r (named sys (event (event_in w j))) rest t) k (le_of_suc-le-suc h))

  -- Each of the first m events names only machines 1 to 6, and so is known if its operation is.
  pub knowns : (w : List ℕ) (m : ℕ) → T (all_named sys (map event (events_in w m)))
      → ((j : ℕ) → j < m → T (is_operation (struct_in w j).operation))
      → (j : ℕ) → j < m → Known (struct_in w j)
  knowns w m t operations j h =
      let names : NamesSix (event_in w j) = rw zero-add at (machines_from w 0 m t j h) in
      record {
        operation = operations j h;
        machines = rw (← meant_read w j (struct_in w j) refl) at names;
      }
