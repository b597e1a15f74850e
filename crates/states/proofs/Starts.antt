-- The state at the start, entry by entry, and what it stands for.
use Prim.Native.Nat.{ℕ, zero, suc, ◌+◌, ◌<◌, ◌≤◌, ◌^◌}
use native.Mathlib.Nat.{not-suc-le-zero, le_of_suc-le-suc, zero-mod}
use native.Mathlib.Omega.{arith}
use mathlib.Core.Path.{◌≡◌, refl, sym, ap, ◌∙◌, fun_ext}
use mathlib.Core.Bool.{false, and-false}
use mathlib.Core.List.{List}
use borrow.Author.Tests.{le-ltb}
use lib.Dec.{ltb, ltb→lt, nltb→le}
use lib.ListN.{length, get_or, get_or-eq_default}
use lib.Seq.{ext_get_or}
use Rattle.model.specs.Cxl0.{Location, Topology, is_location, initial, start}
use Rattle.model.specs.OneLocation.{expand, start_at}
use Rattle.model.specs.Meaning.{topology_of}
use Rattle.model.specs.declared.Topology as topology
use Rattle.entries.specs.Entries.{short_of, start_entry, empty_entry, masked_to}
use Rattle.entries.specs.declared.Entry as entry
use Rattle.states.specs.States.{entry_at, local_of, state_of, start_entries, start_state}
use Rattle.model.proofs.Tests.{by_test}
use Rattle.model.proofs.Limits.{listed, initial_nowhere}
use Rattle.model.proofs.Expand.{start_expand}

module _ (sys : Topology) where
  start_length : (n x : ℕ) → length (start_entries sys n x) ≡ n
  unfolding start_entries
  start_length zero x = refl
  start_length (suc n) x = ap suc (start_length n (suc x))

  -- Each entry has its location's initial value.
  start-at : (n x y : ℕ) → y < n → get_or (start_entries sys n x) y empty_entry ≡ start_entry (initial sys (x + y))
  unfolding start_entries
  start-at zero x y l = absurd (not-suc-le-zero l)
  start-at (suc n) x zero l = let z : x + 0 ≡ x = omega arith in rw z
  start-at (suc n) x (suc y) l =
      let z : x + suc y ≡ suc x + y = omega arith in rw z (start-at n (suc x) y (le_of_suc-le-suc l))

module _ (t : topology.Topology) where
  -- Entries that all have their initial values are those at the start.
  pub all_filled : (es : List entry.Entry) → length es ≡ 32
      → ((y : ℕ) → y < 32 → get_or es y empty_entry ≡ start_entry (initial (topology_of t) y))
      → record { entries = es } ≡ start_state t
  unfolding start_state
  all_filled es e f =
      let sys = topology_of t in
      let p =
      ext_get_or empty_entry es (start_entries sys 32 0) (e ∙ sym (start_length sys 32 0))
      (λ y l.
      let k : y < 32 = rw e at l in
      let z : 0 + y ≡ y = omega arith in
      f y k ∙ sym (rw z at (start-at sys 32 0 y k))) in
      λ i. record { entries = p i }

  -- An entry with the initial value stands for the short form that a location has at the start.
  as_start : (x : Location) → local_of t.machines (start_entry (initial (topology_of t) x)) ≡ start_at (topology_of t) x
  unfolding local_of short_of masked_to start_at
  as_start x = λ i. record { code = zero-mod (2 ^ t.machines) i; copy = 0; memory = initial (topology_of t) x }

  module _ (room : length t.homes ≡ 32) where
    -- Past the end no location is listed, and an empty entry has the initial value.
    entry-at : (y : ℕ) → entry_at (start_state t) y ≡ start_entry (initial (topology_of t) y)
    unfolding entry_at start_state
    entry-at y =
        let sys = topology_of t in
        let past : 32 ≤ y → is_location sys y ≡ false =
        λ l. rw (listed t room y, le-ltb y 32 l) (and-false (ltb y t.locations)) in
        by_test (ltb y 32)
        (λ q. let l = ltb→lt y 32 q in let z : 0 + y ≡ y = omega arith in rw z at (start-at sys 32 0 y l))
        (λ q.
        let l = nltb→le y 32 q in
        get_or-eq_default (start_entries sys 32 0) empty_entry {n = y} (rw (start_length sys 32 0) l)
        ∙ ap start_entry (sym (initial_nowhere sys y (past l))))

    -- So they stand for the whole system at the start.
    pub begun : state_of t (start_state t) ≡ start (topology_of t)
    unfolding state_of
    begun =
        ap expand (fun_ext (λ x. ap (local_of t.machines) (entry-at x) ∙ as_start x))
        ∙ sym (start_expand (topology_of t))
