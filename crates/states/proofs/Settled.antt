-- An action at one location: to put the entry after it into the location's place is the answer to the action.
use Prim.Native.Nat.{ℕ, ◌<◌, ◌≤◌}
use native.Mathlib.Omega.{arith}
use mathlib.Core.Path.{◌≡◌, refl, ap, ◌∙◌}
use mathlib.Core.Logic.{◌≢◌}
use mathlib.Core.Bool.{◌||◌, true, false, ◌&&◌, and_assoc}
use borrow.Author.Tests.{le-leb, ne_eqb}
use lib.Dec.{T, eqb, eqb→eq, eqb_refl}
use lib.ListN.{length, set, length-set}
use lib.Seq.{get_or-set_same, get_or-set_other}
use Rattle.std.specs.Prelude.{Option, None}
use Rattle.std.specs.Bool.{then_some}
use Rattle.model.specs.Cxl0
use Rattle.model.specs.Cxl0.{Machine, Location, Action, is_machine, is_location, named, possible}
use Rattle.model.specs.OneLocation.{Site, concerns, event_at, is_here_or_nowhere, site_of}
use Rattle.model.specs.Operations.{is_operation, is_located}
use Rattle.model.specs.Meaning.{topology_of, within_limits, meant}
use Rattle.model.specs.declared.Event as event
use Rattle.model.specs.declared.Topology as topology
use Rattle.entries.specs.Entries.{empty_entry, masked_to, acted_of, acted_by}
use Rattle.entries.specs.declared.Entry as entry
use Rattle.entries.specs.declared.Acted as acted
use Rattle.states.specs.States.{entry_at, local_of, state_of, entry_after, state_after, Answers}
use Rattle.states.specs.declared.State as state
use Rattle.model.proofs.Tests.{and_r, by_test, T→true, true→T, not→false, ne_test}
use Rattle.model.proofs.Limits.{listed_e}
use Rattle.model.proofs.Operations.{located_numbers, at-location, named_at_location}
use Rattle.model.proofs.Expand.{enabled_expand}
use Rattle.states.proofs.Effects.{asked, admits}
use Rattle.states.proofs.After.{forms, in_range, all_after, answered}

module _ (t : topology.Topology) (a : Action) (s : state.State) (x : Location)
    (alone : (y : Location) → concerns y a ≡ eqb y x) where
  -- An action of location x and no other replaces the entry of x.
  placed : record { entries = set s.entries x (entry_after t a x (entry_at s x)) } ≡ state_after t a s
  unfolding entry_at
  placed =
      let e = entry_after t a x (entry_at s x) in
      all_after t a s _ (length-set s.entries x e)
      (λ y l.
      rw (alone y)
      (by_test (eqb y x)
      (λ q.
      let same = get_or-set_same s.entries x e empty_entry (rw (eqb→eq y x q) at l) in
      rw (T→true {b = eqb y x} q, eqb→eq y x q, same))
      (λ q.
      let other = get_or-set_other s.entries x y e empty_entry (ne_test y x q) in
      rw (not→false {b = eqb y x} q, other))))

  -- Whether the action is possible shows at x.
  can : (admits t a && asked t a x (entry_at s x))
      ≡ (within_limits t && possible (topology_of t) a (state_of t s))
  unfolding admits possible state_of
  can =
      let c : T (concerns x a) = rw (alone x) (eqb_refl x) in
      rw (enabled_expand (topology_of t) (forms t s) (in_range t s) a x c)
      (and_assoc (within_limits t) (named (topology_of t) a) (asked t a x (entry_at s x)))

  -- Where the topology admits the action, its answer is what it makes of the entry of x, put into its place.
  pub settled : length s.entries ≡ 32 → admits t a ≡ true
      → {m : acted.Acted} → m ≡ acted_of (site_of (topology_of t) x) a (masked_to t.machines (entry_at s x))
      → {r : Option state.State} → r ≡ then_some m.enabled (record { entries = set s.entries x m.entry })
      → Answers t a s r
  unfolding acted_of local_of entry_after
  settled room let_in g k =
      let enabled = ap (λ (m : acted.Acted). m.enabled) g in
      let put = ap (λ (m : acted.Acted). record { entries = set s.entries x m.entry }) g in
      answered t a s room (enabled ∙ rw let_in at can) (put ∙ placed) k

  -- Where it does not, the action is refused.
  pub turned_away : length s.entries ≡ 32 → admits t a ≡ false → {r : Option state.State} → r ≡ None → Answers t a s r
  turned_away room never k = answered t a s room (rw never at can) refl k

-- A location of the system has a place among the entries.
module _ (t : topology.Topology) (room : length t.homes ≡ 32) (x : Location) where
  pub listed_in : (within_limits t && is_location (topology_of t) x) ≡ true → x < 32
  listed_in e = (listed_e t room x (T→true (and_r (within_limits t) (is_location (topology_of t) x) (true→T e)))).1

  pub named_in : (i : Machine)
      → (within_limits t && (is_machine (topology_of t) i && is_location (topology_of t) x)) ≡ true → x < 32
  named_in i e =
      let m = is_machine (topology_of t) i in
      let l = is_location (topology_of t) x in
      (listed_e t room x (T→true (and_r m l (and_r (within_limits t) (m && l) (true→T e))))).1

-- The numbers of the events at a location.
pub located : (op : ℕ) → (1 ≤ op) × (op ≤ 10) × (op ≢ 7) → T (is_located op)
unfolding is_located is_operation
located op (low, high, no_crash) =
    let rest : (eqb op 7 || eqb op 11) ≡ false = rw (ne_eqb op 7 no_crash) (ne_eqb op 11 (λ f. omega arith)) in
    rw (le-leb 1 op low, le-leb op 11 (omega arith), rest) tt

-- An event at its location, by its number.
module _ (t : topology.Topology) (e : event.Event) (at : T (is_located e.operation)) where
  -- It is of that location and no other, and names it and a machine.
  pub alone : (y : Location) → concerns y (Cxl0.event (meant e)) ≡ eqb y e.location.0
  unfolding concerns event_at
  alone y = ap (is_here_or_nowhere y) (at-location e at)

  pub admitted : admits t (Cxl0.event (meant e))
      ≡ (within_limits t && (is_machine (topology_of t) e.machine.0 && is_location (topology_of t) e.location.0))
  unfolding admits
  admitted = ap (◌&&◌ (within_limits t)) (named_at_location e (topology_of t) at)

  -- What its number makes of an entry is what it makes of it.
  pub acts : (k : Site) (held : entry.Entry) {m : acted.Acted} → m ≡ acted_by k e held
      → m ≡ acted_of k (Cxl0.event (meant e)) held
  unfolding acted_by
  acts k held g = rw (T→true {b = is_operation e.operation} (located_numbers at).0) at g
