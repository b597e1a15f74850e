-- A copy of an event of the log among the search's events: what they are then, and that the log stays.
use Prim.Native.Nat.{ℕ, zero, suc, ◌+◌, ◌*◌, ◌≤◌, ◌<◌}
use native.Mathlib.Nat.{zero-add, add-zero}
use native.Mathlib.Numerals.{add-one}
use native.Mathlib.Omega.{arith}
use mathlib.Core.Path.{◌≡◌, refl, sym, ap, ◌∙◌}
use mathlib.Core.List.{List, [], ◌∷◌, ◌++◌}
use lib.ListN.{length, get_or, drop}
use lib.Dec.{T, eqb, eqb→eq}
use Rattle.model.specs.Cxl0.{Event}
use Rattle.model.specs.Operations.{is_operation}
use Rattle.model.proofs.Tests.{by_test, ne_test}
use Rattle.scratch.specs.Layout.{EVENTS, ROWS, WORDS, MOST, OnlyIn, LOG}
use Rattle.scratch.specs.Words.{event_in, events_from, events_in}
use Rattle.scratch.proofs.Frames.{get_or_below, get_or_above, only_wider}
use Rattle.scratch.proofs.Access.{two_read, two_only}
use Rattle.scratch.proofs.Events.{events_suc}
use Rattle.events.specs.Linking.{head_of, operation_in, index_in, indices_from, indices_in, Linked}
use Rattle.events.specs.Picking.{copied}
use Rattle.events.proofs.Indices.{at_index}
use Rattle.events.proofs.LogWords.{word_of, value_of, log_event, log_event_same, events_at, events_are}

last_index : (w : List ℕ) (j t : ℕ)
    → indices_from w j (suc t) ≡ indices_from w j t ++ index_in EVENTS w (j + t) ∷ []
unfolding indices_from
last_index w j zero = rw add-zero
last_index w j (suc t) =
    let next : suc j + t ≡ j + suc t = omega arith in
    rw (← next) (ap (◌∷◌ (index_in EVENTS w j)) (last_index w (suc j) t))

-- One index more at the end.
indices_suc : (w : List ℕ) (t : ℕ) → indices_in w (suc t) ≡ indices_in w t ++ index_in EVENTS w t ∷ []
indices_suc w t = rw (zero-add t) at (last_index w 0 t)

module _ (w : List ℕ) (j k : ℕ) (room : WORDS ≤ length w) (low : k < MOST) where
  first_read : get_or (copied j k w) (EVENTS + 2 * k) 0 ≡ word_of w j
  first_read = (two_read w (EVENTS + 2 * k) (word_of w j) (value_of w j) (omega arith)).0

  second_read : get_or (copied j k w) (EVENTS + 2 * k + 1) 0 ≡ value_of w j
  second_read = (two_read w (EVENTS + 2 * k) (word_of w j) (value_of w j) (omega arith)).1

  narrow : OnlyIn (EVENTS + 2 * k) (EVENTS + 2 * k + 2) w (copied j k w)
  narrow = two_only w (EVENTS + 2 * k) (word_of w j) (value_of w j) (EVENTS + 2 * k + 2) (omega arith)

  -- A copy changes no word outside the search's events.
  pub copied_frame : OnlyIn EVENTS ROWS w (copied j k w)
  copied_frame = only_wider narrow (omega arith) (omega arith)

  kept_events : (i n : ℕ) → i + n ≤ k → events_from (copied j k w) i n ≡ events_from w i n
  unfolding events_from event_in
  kept_events i zero h = refl
  kept_events i (suc n) h =
      let first = get_or_below narrow (EVENTS + 2 * i) (omega arith) in
      let second = get_or_below narrow (EVENTS + 2 * i + 1) (omega arith) in
      rw (first, second, kept_events (suc i) n (omega arith))

  kept_indices : (i n : ℕ) → i + n ≤ k → indices_from (copied j k w) i n ≡ indices_from w i n
  unfolding indices_from
  kept_indices i zero h = refl
  kept_indices i (suc n) h =
      let first = get_or_below narrow (EVENTS + 2 * i) (omega arith) in
      rw (first, kept_indices (suc i) n (omega arith))

  last_copied : event_in (copied j k w) k ≡ event_in (drop LOG w) j
  unfolding event_in
  last_copied = rw (first_read, second_read) (sym (log_event w j))

  -- The copied event comes after the first k events, and its index after their indices.
  pub copied_events : events_in (copied j k w) (k + 1) ≡ events_in w k ++ event_in (drop LOG w) j ∷ []
  copied_events =
      rw (add-one k, events_suc (copied j k w) k, kept_events 0 k (omega arith), last_copied)

  pub copied_indices : indices_in (copied j k w) (k + 1) ≡ indices_in w k ++ index_in LOG w j ∷ []
  copied_indices =
      rw (add-one k, indices_suc (copied j k w) k, kept_indices 0 k (omega arith), first_read)

  -- With an operation of the log, the copied event has one of the seven, as those before it have.
  pub copied_operations : T (is_operation (operation_in LOG w j))
      → ((i : ℕ) → i < k → T (is_operation (operation_in EVENTS w i)))
      → (i : ℕ) → i < k + 1 → T (is_operation (operation_in EVENTS (copied j k w) i))
  copied_operations last others i h =
      by_test (eqb i k)
      (λ t. rw (eqb→eq i k t, first_read) last)
      (λ t. let below : i < k = omega (arith, ne_test i k t) in
      rw (get_or_below narrow (EVENTS + 2 * i) (omega arith)) (others i below))

-- The event at an index of the log.
pub linked_event : {es : List Event} {w : List ℕ} → Linked es w → (i : ℕ) → i < length es
    → event_in (drop LOG w) i ≡ at_index es i
linked_event {es} {w} linked i h =
    sym (events_at (drop LOG w) (length es) i h) ∙ ap (λ (l : List Event). at_index l i) linked.events

-- A change of the search's events leaves the log with its links.
pub linked_same : {es : List Event} {w w' : List ℕ} → OnlyIn EVENTS ROWS w w' → Linked es w → Linked es w'
linked_same {es} {w} {w'} only linked =
    let first : (j : ℕ) → word_of w' j ≡ word_of w j = λ j. get_or_above only (LOG + 2 * j) (omega arith) in
    let second : (j : ℕ) → value_of w' j ≡ value_of w j =
    λ j. get_or_above only (LOG + 2 * j + 1) (omega arith) in
    record {
      room = omega (arith, linked.room, only.sized);
      few = linked.few;
      events = events_are (drop LOG w') es
          (λ i h. log_event_same w w' i (first i) (second i) ∙ linked_event linked i h);
      operations = λ j h. rw (first j) (linked.operations j h);
      indices = λ j h. rw (first j) (linked.indices j h);
      owns = λ x j h o. rw (first j) (linked.owns x j h o);
      crashes = λ j h. rw (first j) (linked.crashes j h);
      heads = λ x h. get_or_above only (head_of x) (omega arith) ∙ linked.heads x h;
    }

-- And the other way round.
pub linked_back : {es : List Event} {w w' : List ℕ} → OnlyIn EVENTS ROWS w w' → Linked es w' → Linked es w
linked_back only =
    linked_same (record { sized = sym only.sized; below = sym only.below; above = sym only.above })
