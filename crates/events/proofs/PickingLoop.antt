-- Picking the events that matter at a location, one by one: what has been copied, followed by what is kept
-- of the rest, is what is kept of the log.
use Prim.Native.Nat.{ℕ, suc, ◌+◌, ◌≤◌, ◌<◌}
use native.Mathlib.Omega.{arith}
use mathlib.Core.Path.{◌≡◌, refl, sym, ◌∙◌}
use mathlib.Core.Bool.{Bool, true, false, cond, not}
use mathlib.Core.List.{List, [], ◌∷◌, ◌++◌, append-nil, append_assoc}
use lib.Dec.{T, ltb}
use lib.ListN.{length, get_or, take, drop}
use lib.Seq.{get_or-take, length-take-le}
use borrow.Author.Tests.{ltb-true, ltb-false}
use Rattle.model.specs.Cxl0.{Event, Crash}
use Rattle.model.specs.Operations.{is_operation}
use Rattle.model.specs.OneLocation.{event_at}
use Rattle.model.proofs.Tests.{by_test, T→true, not→false}
use Rattle.scratch.specs.Layout.{EVENTS, MOST}
use Rattle.scratch.specs.Words.{events_from, events_in}
use Rattle.events.specs.declared.picking.Pick.{Pick}
use Rattle.model.specs.OneLocation.{own_event, is_crash}
use Rattle.events.specs.Thinning.{Thins, rest, Thinned}
use Rattle.events.specs.Linking.{head_of, operation_in, next_own_in, next_crash_in, indices_from, indices_in}
use Rattle.events.specs.Linking.{first_from, Linked}
use Rattle.events.specs.Picking.{copied, nearer, pick_from, pick_after}
use Rattle.events.proofs.Indices.{at_index, First, first_of, first_next, first_later}
use Rattle.model.proofs.Locations.{own_no_crash, unconcerned, own_concerns, crash_everywhere}
use Rattle.events.proofs.Leading.{none-own, keep_at, skip_to}
use Rattle.events.proofs.Copies.{copied_frame, copied_events, copied_indices, copied_operations}
use Rattle.events.proofs.Copies.{linked_event, linked_same}

module _ (es : List Event) (m : ℕ) (few : length es ≤ MOST) (within : m ≤ length es) where
  short : length (take m es) ≡ m
  short = length-take-le m es within

  -- Before the first event that passes a test none does.
  none_before : (test : Event → Bool) (p i : ℕ) → p ≤ m → p ≤ i → i < m → i < first_from test p es
      → T (not (test (at_index (take m es) i)))
  none_before test p i l a h b =
      rw (get_or-take m es i (Crash 0) h)
      ((first_of test es few p (omega arith)).none i a b (omega arith))

-- The events before the index `past` have been looked at, and those that were kept are copied.
pub record UpTo (es : List Event) (x m : ℕ) (p : Pick) (w : List ℕ) : Type 0 where
  pub linked : Linked es w
  pub within : m ≤ length es
  pub past : ℕ
  pub reached : past ≤ m
  pub few : p.count ≤ past
  pub operations : (j : ℕ) → j < p.count → T (is_operation (operation_in EVENTS w j))
  pub own : p.own ≡ first_from (own_event x) past es
  pub crash : p.crash ≡ first_from is_crash past es
  pub thinned : (kept : List Event) (indices : List ℕ) → Thins x true past (drop past (take m es)) kept indices
      → Thinned x (take m es) (events_in w p.count ++ kept) (indices_in w p.count ++ indices)

-- Where the first event that names x is not among the first m events, none is kept.
pub pick_none : {es : List Event} {w : List ℕ} {x m : ℕ} → Linked es w → x < 32 → m ≤ length es
    → m ≤ get_or w (head_of x) 0 → Thinned x (take m es) (events_in w 0) (indices_in w 0)
unfolding events_from indices_from
pick_none {es} {w} {x} {m} linked h within none =
    let head = linked.heads x h in
    rest (none-own x (take m es) 0 (omega arith)
    (λ i l k. none_before es m linked.few within (own_event x) 0 i (omega arith) l
    (omega (arith, short es m linked.few within)) (omega (arith, short es m linked.few within))))

module _ {es : List Event} {w : List ℕ} {x m : ℕ} (linked : Linked es w) (within : m ≤ length es) where
  -- What a copy adds.
  module _ (q k : ℕ) (inside : q < m) (low : k < MOST) (kept : List Event) (indices : List ℕ) where
    one_more :
        Thinned x (take m es) (events_in w k ++ at_index (take m es) q ∷ kept) (indices_in w k ++ q ∷ indices)
        → Thinned x (take m es) (events_in (copied q k w) (k + 1) ++ kept)
        (indices_in (copied q k w) (k + 1) ++ indices)
    one_more thinned =
        let event = linked_event linked q (omega arith) ∙ sym (get_or-take m es q (Crash 0) inside) in
        rw (
          copied_events w q k linked.room low,
          copied_indices w q k linked.room low,
          event,
          linked.indices q (omega arith),
          append_assoc (events_in w k) (at_index (take m es) q ∷ []) kept,
          append_assoc (indices_in w k) (q ∷ []) indices,
        ) thinned

  -- The first event that names x is copied first.
  pub pick_begun : (first : ℕ) → x < 32 → first ≡ get_or w (head_of x) 0 → first < m
      → UpTo es x m (pick_from first w) (copied first 0 w)
  unfolding events_from indices_from
  pick_begun first h e inside =
      let L = take m es in
      let head = e ∙ linked.heads x h in
      let long = short es m linked.few within in
      let names : T (own_event x (at_index es first)) =
      rw head ((first_of (own_event x) es linked.few 0 (omega arith)).passes (omega arith)) in
      let here : T (event_at x (at_index L first)) =
      rw (get_or-take m es first (Crash 0) inside) (own_concerns x (at_index es first) names) in
      record {
        linked = linked_same (copied_frame w first 0 linked.room (omega arith)) linked;
        within = within;
        past = suc first;
        reached = inside;
        few = omega arith;
        operations = copied_operations w first 0 linked.room (omega arith) (linked.operations first (omega arith))
            (λ j l. absurd (omega arith));
        own = linked.owns x first (omega arith) names;
        crash = linked.crashes first (omega arith);
        thinned = λ kept indices thins. one_more first 0 inside (omega arith) kept indices
            (skip_to x L 0 first (omega arith) (omega arith)
            (λ i l k. none_before es m linked.few within (own_event x) 0 i (omega arith) l
            (omega arith) (omega arith))
            (keep_at x L first (omega arith) here thins));
      }

module _ {es : List Event} {w : List ℕ} {x m : ℕ} {p : Pick} (up : UpTo es x m p w) where
  -- When no event that names x is left, nothing more is kept.
  pub pick_done : m ≤ p.own → Thinned x (take m es) (events_in w p.count) (indices_in w p.count)
  pick_done h =
      let L = take m es in
      let few = up.linked.few in
      let long = short es m few up.within in
      let none = none-own x L up.past (omega (arith, up.reached))
      (λ i a b. none_before es m few up.within (own_event x) up.past i up.reached a (omega arith)
      (omega (arith, up.own))) in
      rw (append-nil (events_in w p.count), append-nil (indices_in w p.count)) at
      (up.thinned [] [] (rest none))

  inside : up.past ≤ length es
  inside = omega (arith, up.reached, up.within)

  module _ (more : p.own < m) where
    own_first : First (own_event x) es up.linked.few up.past p.own
    own_first = rw up.own (first_of (own_event x) es up.linked.few up.past inside)

    -- There is room for one event more.
    pub pick_room : p.count < MOST
    pick_room = omega (arith, up.few, own_first.after, up.within, up.linked.few)

    crash_first : First is_crash es up.linked.few up.past p.crash
    crash_first = rw up.crash (first_of is_crash es up.linked.few up.past inside)

    -- An event at q is copied that concerns x, and before which none from `past` on does.
    next_thinned : (q : ℕ) → up.past ≤ q → q < m → q ≤ p.own → q ≤ p.crash → T (event_at x (at_index es q))
        → (kept : List Event) (indices : List ℕ) → Thins x true (suc q) (drop (suc q) (take m es)) kept indices
        → Thinned x (take m es) (events_in (copied q p.count w) (p.count + 1) ++ kept)
        (indices_in (copied q p.count w) (p.count + 1) ++ indices)
    next_thinned q a b c d here kept indices thins =
        let L = take m es in
        let few = up.linked.few in
        let within = up.within in
        let long = short es m few within in
        let apart : (i : ℕ) → up.past ≤ i → i < q → T (not (event_at x (at_index L i))) =
        λ i k l. unconcerned x (at_index L i)
        (none_before es m few within (own_event x) up.past i up.reached k (omega arith)
        (omega (arith, up.own)))
        (none_before es m few within is_crash up.past i up.reached k (omega arith)
        (omega (arith, up.crash))) in
        one_more up.linked within q p.count b pick_room kept indices
        (up.thinned (at_index L q ∷ kept) (q ∷ indices)
        (skip_to x L up.past q a (omega arith) apart
        (keep_at x L q (omega arith) (rw (get_or-take m es q (Crash 0) b) here) thins)))

    -- A crash that comes before the next event that names x is copied.
    pick_crash : p.crash < p.own
        → UpTo es x m (record { own = p.own; crash = next_crash_in w p.crash; count = p.count + 1 })
        (copied p.crash p.count w)
    pick_crash h =
        let q = p.crash in
        let few = up.linked.few in
        let within = up.within in
        let after = crash_first.after in
        let later = first_later (own_event x) es few up.past (suc q) (omega arith) (omega arith)
        (omega (arith, up.own)) in
        record {
          linked = linked_same (copied_frame w q p.count up.linked.room pick_room) up.linked;
          within = within;
          past = suc q;
          reached = omega arith;
          few = omega (arith, up.few);
          operations = copied_operations w q p.count up.linked.room pick_room
              (up.linked.operations q (omega arith)) up.operations;
          own = up.own ∙ sym later;
          crash = up.linked.crashes q (omega arith);
          thinned = next_thinned q after (omega arith) (omega arith) (omega arith)
              (crash_everywhere x (at_index es q) (crash_first.passes (omega arith)));
        }

    -- The next event that names x is copied, where no crash comes before it.
    pick_own : p.own ≤ p.crash
        → UpTo es x m (record { own = next_own_in w p.own; crash = p.crash; count = p.count + 1 })
        (copied p.own p.count w)
    pick_own h =
        let q = p.own in
        let few = up.linked.few in
        let within = up.within in
        let after = own_first.after in
        let names = own_first.passes (omega arith) in
        let later = first_later is_crash es few up.past q after (omega arith) (omega (arith, up.crash)) in
        let next = first_next is_crash es q (omega arith) (own_no_crash x (at_index es q) names) in
        record {
          linked = linked_same (copied_frame w q p.count up.linked.room pick_room) up.linked;
          within = within;
          past = suc q;
          reached = more;
          few = omega (arith, up.few);
          operations = copied_operations w q p.count up.linked.room pick_room
              (up.linked.operations q (omega arith)) up.operations;
          own = up.linked.owns x q (omega arith) names;
          crash = up.crash ∙ sym later ∙ next;
          thinned = next_thinned q after more (omega arith) h (own_concerns x (at_index es q) names);
        }

    -- One event more is copied.
    pub pick_more : UpTo es x m (pick_after p w) (copied (nearer p) p.count w)
    pick_more =
        let test = ltb p.crash p.own in
        by_test test
        (λ t. rw (T→true {b = test} t) (pick_crash (ltb-true p.crash p.own (T→true {b = test} t))))
        (λ t. rw (not→false {b = test} t) (pick_own (ltb-false p.crash p.own (not→false {b = test} t))))

-- Each turn copies one event.
pub pick_counts : (p : Pick) (w : List ℕ) → (pick_after p w).count ≡ p.count + 1
pick_counts p w = go (ltb p.crash p.own)
  where
    go : (b : Bool)
        → (cond {A = Pick} b (record { own = p.own; crash = next_crash_in w p.crash; count = p.count + 1 })
        (record { own = next_own_in w p.own; crash = p.crash; count = p.count + 1 })).count
        ≡ p.count + 1
    go true = refl
    go false = refl
