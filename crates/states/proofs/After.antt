-- The state after an action, entry by entry, stands for the whole system's state after it.
use Prim.Native.Nat.{ℕ, zero, suc, ◌+◌, ◌%◌, ◌^◌, ◌<◌, ◌≤◌}
use native.Mathlib.Nat.{not-suc-le-zero, le_of_suc-le-suc, zero-mod}
use native.Mathlib.Omega.{arith}
use mathlib.Core.Path.{◌≡◌, refl, sym, ap, ap₂, ◌∙◌, fun_ext}
use mathlib.Core.Logic.{⊎_elim}
use mathlib.Core.Bool.{Bool, true, false, cond, ◌&&◌}
use mathlib.Core.List.{List, [], ◌∷◌}
use borrow.Author.Tests.{ne_eqb}
use lib.Dec.{T, eqb, ltb, ltb→lt, nltb→le}
use lib.ListN.{length, get_or, get_or-eq_default}
use lib.Seq.{ext_get_or}
use Rattle.std.specs.Prelude.{Option}
use Rattle.std.specs.Bool.{then_some}
use Rattle.model.specs.Cxl0.{Location, nowhere, is_machine, is_location, initial, clears}
use Rattle.model.specs.Cxl0.{Event, Crash, SetCrash, Propagate, WriteBack}
use Rattle.model.specs.Cxl0.{Action, event, silent, named, enabled, possible, next}
use Rattle.model.specs.OneLocation.{Local, expand, concerns, silent_at, event_at, location_of, site_of}
use Rattle.model.specs.OneLocation.{crashed_at, effect, next_at}
use Rattle.model.specs.Meaning.{topology_of, within_limits, attempt}
use Rattle.model.specs.declared.Topology as topology
use Rattle.entries.specs.Entries.{short_of, masked_to, empty_entry}
use Rattle.entries.specs.declared.Entry as entry
use Rattle.states.specs.States.{entry_at, local_of, state_of, outcome_of}
use Rattle.states.specs.States.{next_entry, entries_after, state_after, stepped_of, Answers}
use Rattle.states.specs.declared.State as state
use Rattle.model.proofs.Tests.{and_i, and_l, and_r, by_test, T→true, not→false}
use Rattle.model.proofs.Sharers.{remove_le, remove_all_le}
use Rattle.model.proofs.Locations.{IsCrash, single, several, located, crash_nowhere, crash_everywhere, named_location}
use Rattle.model.proofs.Limits.{initial_nowhere, listed_below, within}
use Rattle.model.proofs.Expand.{InRange, next_expand}
use Rattle.states.proofs.Effects.{local_range, admits, stands}

-- The short forms of a state's locations.
abbrev pub forms : topology.Topology → state.State → Location → Local
forms t s x = local_of t.machines (entry_at s x)

pub in_range : (t : topology.Topology) (s : state.State) → InRange (topology_of t) (forms t s)
unfolding topology_of
in_range t s x = local_range t.machines (entry_at s x)

-- ---- entry by entry

module _ (t : topology.Topology) (a : Action) where
  -- There are as many entries after an action as before it.
  after_length : (x : Location) (es : List entry.Entry) → length (entries_after t a x es) ≡ length es
  unfolding entries_after
  after_length x [] = refl
  after_length x (e ∷ es) = ap suc (after_length (suc x) es)

  -- Each is as the action leaves it.
  after_at : (x : Location) (es : List entry.Entry) (y : ℕ) → y < length es
      → get_or (entries_after t a x es) y empty_entry ≡ next_entry t a (x + y) (get_or es y empty_entry)
  unfolding entries_after
  after_at x [] y l = absurd (not-suc-le-zero l)
  after_at x (e ∷ es) zero l = let z : x + 0 ≡ x = omega arith in rw z
  after_at x (e ∷ es) (suc y) l =
      let z : x + suc y ≡ suc x + y = omega arith in rw z (after_at (suc x) es y (le_of_suc-le-suc l))

  -- So is the entry of each location of a state.
  entry-after : (s : state.State) (y : Location) → y < length s.entries
      → entry_at (state_after t a s) y ≡ next_entry t a y (entry_at s y)
  unfolding entry_at state_after
  entry-after s y l = let z : 0 + y ≡ y = omega arith in rw z at (after_at 0 s.entries y l)

  -- A state with as many entries, each as the action leaves it, is the state after the action.
  pub all_after : (s r : state.State) → length r.entries ≡ length s.entries
      → ((y : Location) → y < length s.entries → entry_at r y ≡ next_entry t a y (entry_at s y))
      → r ≡ state_after t a s
  unfolding entry_at state_after
  all_after s r e f =
      let p =
      ext_get_or empty_entry r.entries (entries_after t a 0 s.entries) (e ∙ sym (after_length 0 s.entries))
      (λ y l. let k : y < length s.entries = rw e at l in f y k ∙ sym (entry-after s y k)) in
      λ i. record { entries = p i }

  -- Past the end the entries are empty before and after.
  past : (s : state.State) (y : Location) → length s.entries ≤ y
      → (entry_at s y ≡ empty_entry) × (entry_at (state_after t a s) y ≡ empty_entry)
  unfolding entry_at state_after
  past s y l = (
    get_or-eq_default s.entries empty_entry {n = y} l,
    get_or-eq_default (entries_after t a 0 s.entries) empty_entry {n = y} (rw (after_length 0 s.entries) l),
  )

-- ---- where there is no location

module _ (t : topology.Topology) (y : Location) (none : T (is_location (topology_of t) y) → ⊥) where
  abbrev empty : Local
  empty = local_of t.machines empty_entry

  -- An action at a location of the system is elsewhere.
  elsewhere : (x : Location) → T (is_location (topology_of t) x) → (s : Local) → cond (eqb y x) s empty ≡ empty
  elsewhere x l s = rw (ne_eqb y x (λ e. none (rw e l)))

  same : (b : Bool) (n : ℕ) → cond b n n ≡ n
  same true n = refl
  same false n = refl

  -- A crash finds nothing to lose.
  lost_none : (e : Event) (c : ℕ) → c ≤ 0 % 2 ^ t.machines → crashed_at (site_of (topology_of t) y) e c empty ≡ empty
  unfolding local_of short_of masked_to site_of clears
  lost_none e c less =
      let z = zero-mod (2 ^ t.machines) in
      let k : c ≡ 0 % 2 ^ t.machines = omega arith in
      let sys = topology_of t in
      let unlisted = by_test (is_location sys y) (λ l. absurd (none l)) not→false in
      let cleared = clears sys e y in
      let m : cond cleared (initial sys y) nowhere.initial ≡ nowhere.initial =
      rw (initial_nowhere sys y unlisted) (same cleared _) in
      λ j. record { code = k j; copy = 0; memory = m j }

  nothing_lost : {e : Event} → IsCrash e → effect (site_of (topology_of t) y) (event e) empty ≡ empty
  unfolding local_of short_of masked_to effect
  nothing_lost (single i) = lost_none (Crash i) _ (remove_le i (0 % 2 ^ t.machines))
  nothing_lost (several set) = lost_none (SetCrash set) _ (remove_all_le set (0 % 2 ^ t.machines))

  -- So no action of the system changes an empty entry there.
  idle : (a : Action) → T (named (topology_of t) a) → next_at (topology_of t) y a empty ≡ empty
  unfolding next_at named concerns silent_at event_at location_of
  idle (event e) n =
      ⊎_elim
      (λ at. rw (at.2 y) (elsewhere at.0 (named_location (topology_of t) e at.1 n) _))
      (λ crash. rw (T→true {b = event_at y e} (crash_everywhere y e (crash_nowhere crash))) (nothing_lost crash))
      (located e)
  idle (silent (Propagate i x)) n =
      elsewhere x (and_r (is_machine (topology_of t) i) (is_location (topology_of t) x) n) _
  idle (silent (WriteBack x)) n = elsewhere x n _

-- ---- the whole system

module _ (t : topology.Topology) (a : Action) (s : state.State) (room : length s.entries ≡ 32) where
  -- Past the end nothing is there to change.
  forms_past : T (admits t a) → (y : Location) → 32 ≤ y
      → forms t (state_after t a s) y ≡ next_at (topology_of t) y a (forms t s y)
  unfolding admits
  forms_past h y l =
      let w = within t (and_l (within_limits t) (named (topology_of t) a) h) in
      let n = and_r (within_limits t) (named (topology_of t) a) h in
      let none : T (is_location (topology_of t) y) → ⊥ =
      λ k. omega (arith, listed_below t y k, w.locations_few) in
      let (before, after) = past t a s y (rw room l) in
      rw (after, before) (sym (idle t y none a n))

  -- Where the action is admitted, each location has the short form that it has after the action.
  forms_after : T (admits t a) → (y : Location)
      → forms t (state_after t a s) y ≡ next_at (topology_of t) y a (forms t s y)
  unfolding next_at
  forms_after h y =
      by_test (ltb y 32)
      (λ l.
      let k : y < length s.entries = rw room (ltb→lt y 32 l) in
      rw (entry-after t a s y k)
      (by_test (concerns y a)
      (λ here. rw (T→true {b = concerns y a} here) (stands t a y here h (entry_at s y)))
      (λ far. rw (not→false {b = concerns y a} far))))
      (λ l. forms_past h y (nltb→le y 32 l))

  -- And the whole state is the one after the action.
  state-after : T (within_limits t && possible (topology_of t) a (state_of t s))
      → state_of t (state_after t a s) ≡ next (topology_of t) a (state_of t s)
  unfolding state_of possible admits
  state-after h =
      let sys = topology_of t in
      let l = and_l (within_limits t) (possible sys a (state_of t s)) h in
      let p = and_r (within_limits t) (possible sys a (state_of t s)) h in
      let n = and_l (named sys a) (enabled sys a (state_of t s)) p in
      ap expand (fun_ext (forms_after (and_i (within_limits t) (named sys a) l n)))
      ∙ sym (next_expand sys (forms t s) (within t l).well-formed (in_range t s) a p)

-- An answer says what `attempt` says of the whole system's state, if its state stands for the one after the action.
outcome : (t : topology.Topology) (a : Action) (s after : state.State) (p : Bool)
    → p ≡ (within_limits t && possible (topology_of t) a (state_of t s))
    → (T p → state_of t after ≡ next (topology_of t) a (state_of t s))
    → outcome_of t s (then_some p after) ≡ attempt t a (state_of t s)
unfolding attempt
outcome t a s after true e f = rw (← e) (λ i. record { possible = true; state = f tt i })
outcome t a s after false e f = rw (← e)

-- What says whether the action is possible and has, where it is, the state after it, answers the action.
pub answered : (t : topology.Topology) (a : Action) (s : state.State) → length s.entries ≡ 32
    → {p : Bool} → p ≡ (within_limits t && possible (topology_of t) a (state_of t s))
    → {after : state.State} → after ≡ state_after t a s
    → {r : Option state.State} → r ≡ then_some p after
    → Answers t a s r
unfolding stepped_of
answered t a s room can f k =
    let e : _ ≡ stepped_of t a s = k ∙ ap₂ then_some can f in
    record {
      meaning = rw e (outcome t a s (state_after t a s) _ refl (state-after t a s room));
      whole = e;
    }
