-- Events that run without a silent step from a known place: one more of them, and whether the state behind it is known.
use Prim.Native.Nat.{ℕ, ◌+◌, ◌≤◌, ◌<◌}
use native.Mathlib.Nat.{le_refl}
use native.Mathlib.Numerals.{add-one}
use native.Mathlib.Omega.{arith}
use mathlib.Core.Path.{◌≡◌, refl, sym, ap, ◌∙◌}
use mathlib.Core.Logic.{◌⊎◌, ⊎_elim}
use mathlib.Core.Bool.{true}
use mathlib.Core.List.{List, [], ◌∷◌, ◌++◌, map, map-append}
use lib.Dec.{T}
use Rattle.model.specs.Cxl0.{Topology, Event, event}
use Rattle.model.specs.OneLocation.{event_at, after_at, possible_at, next_at}
use Rattle.model.specs.ShortestAt.{RunOf, KnownAfter}
use Rattle.model.proofs.RunsOf.{run_of_nil, run_of_event, run_of_append, after_at_append}
use Rattle.model.proofs.Greedy.{shortest_free}
use Rattle.entries.specs.Entries.{short_of}
use Rattle.entries.specs.declared.Acted.{Acted}
use Rattle.entries.specs.declared.Site.{Site}
use Rattle.rows.specs.Sites.{Describes}
use Rattle.scratch.specs.Words.{event_in}
use Rattle.scratch.proofs.Segments.{words_from}
use Rattle.walking.specs.Acting.{Acts}
use Rattle.walking.proofs.Acting.{next_here, acts_can}
use Rattle.blocks.specs.Splitting.{waypoint_at, kind_of, ends_block}
use Rattle.blocks.specs.Blocks.{between, Crossed}
use Rattle.blocks.specs.declared.splitting.Place.{Place}
use Rattle.search.proofs.KnownStates.{known_kind, known_bare}
use Rattle.search.proofs.Reaching.{between_none, between_more, standing}

-- From the place p the events run without a silent step, and lead to the place q.
pub record Free (s : Site) (k : ℕ) (w : List ℕ) (p q : Place) : Type 0 where
  pub on : p.gap ≤ q.gap
  pub most : q.gap ≤ k
  pub fits : q.code < 64
  pub end : q.end ≡ p.end
  pub runs : (sys : Topology) → Describes sys s
      → let es = between w p.gap q.gap in RunOf sys s.location.0 es (standing p) (map event es)
  pub leads : (sys : Topology) → Describes sys s
      → after_at sys s.location.0 (map event (between w p.gap q.gap)) (standing p) ≡ standing q

-- Before the first of them.
pub free_none : (s : Site) (k : ℕ) (w : List ℕ) (p : Place) → p.gap ≤ k → p.code < 64 → Free s k w p p
unfolding after_at
free_none s k w p most fits =
    record {
      on = le_refl p.gap;
      most = most;
      fits = fits;
      end = refl;
      runs = λ sys d. rw (between_none w p.gap) (run_of_nil sys s.location.0);
      leads = λ sys d. rw (between_none w p.gap);
    }

-- After the events from p to q the state is known: it is that at q.
abbrev KnownFrom : Site → List ℕ → Place → Place → Type 0
KnownFrom s w p q =
    (sys : Topology) → Describes sys s
    → KnownAfter sys s.location.0 (between w p.gap q.gap) (standing p) (standing q)

-- If it is, or if these are all events, they are a block without a step.
pub crossed_free : {s : Site} {k : ℕ} {w : List ℕ} {p q : Place} → Free s k w p q → p.gap < q.gap
    → (q.gap < k → KnownFrom s w p q) → Crossed s p k w q w
crossed_free {s} {w = w} {p} {q} free past known =
    record {
      on = past;
      most = free.most;
      fits = free.fits;
      words = [];
      ends = omega (arith, free.end);
      list = words_from p.end 0 w;
      shortest = λ sys d. shortest_free sys s.location.0 p.gap (between w p.gap q.gap) (standing p)
          (free.runs sys d).runs;
      known = known;
    }

-- The place after the event at q, with the list of steps up to p.
abbrev pub place_after : Place → Place → Acted → Place
place_after p q made =
    record {
      gap = q.gap + 1;
      code = made.entry.sharers;
      copy = made.entry.copy;
      memory = made.entry.memory;
      end = p.end;
    }

-- One event more, which is enabled.
module _ {s : Site} {k : ℕ} {w : List ℕ} {p q : Place} {made : Acted} (free : Free s k w p q) (left : q.gap < k)
    (here : T (event_at s.location.0 (event_in w q.gap)))
    (acts : Acts s (event_in w q.gap) q.copy (waypoint_at q) made) (enabled : made.enabled ≡ true) where
  abbrev e : Event
  e = event_in w q.gap

  events_more : between w p.gap (q.gap + 1) ≡ between w p.gap q.gap ++ e ∷ []
  events_more = rw (add-one q.gap) (between_more w p.gap q.gap free.on)

  module _ (sys : Topology) (d : Describes sys s) where
    can : T (possible_at sys s.location.0 (event e) (standing q))
    can = acts_can d e here acts enabled

    next : next_at sys s.location.0 (event e) (standing q) ≡ standing (place_after p q made)
    unfolding short_of
    next = next_here d e here (standing q) ∙ sym acts.leads

    leads_more : after_at sys s.location.0 (map event (between w p.gap q.gap) ++ event e ∷ []) (standing p)
        ≡ standing (place_after p q made)
    unfolding after_at
    leads_more =
        let x = s.location.0 in
        after_at_append sys x (map event (between w p.gap q.gap)) (event e ∷ []) (standing p)
        ∙ ap (next_at sys x (event e)) (free.leads sys d) ∙ next

  pub free_more : Free s k w p (place_after p q made)
  free_more =
      let x = s.location.0 in
      let actions = map-append event (between w p.gap q.gap) (e ∷ []) in
      record {
        on = omega (arith, free.on);
        most = omega (arith, left);
        fits = acts.fits;
        end = refl;
        runs = λ sys d. rw (events_more, actions)
            (run_of_append sys x (free.runs sys d)
            (rw (free.leads sys d) (run_of_event sys x (can sys d) (run_of_nil sys x))));
        leads = λ sys d. rw (events_more, actions) (leads_more sys d);
      }

  -- If it ends a block, the state after it is known.
  known_fixed : ends_block (kind_of q.copy e) ≡ true → KnownFrom s w p (place_after p q made)
  known_fixed high sys d =
      rw (events_more, ← next sys d)
      (known_kind sys s.location.0 e (free.runs sys d) (free.leads sys d) here (can sys d) high)

  -- So it is if the event is the first from p on, and there is no copy.
  known_first : p.gap ≡ q.gap → q.code ≡ 0 → KnownFrom s w p (place_after p q made)
  unfolding after_at
  known_first at none sys d =
      let nothing = ap (between w p.gap) (sym at) ∙ between_none w p.gap in
      let same = rw nothing at (free.leads sys d) in
      rw (events_more, nothing, same, ← next sys d) (known_bare sys s.location.0 e none)

  -- In both cases the events up to it are a block.
  pub crossed_more : (ends_block (kind_of q.copy e) ≡ true) ⊎ ((p.gap ≡ q.gap) × (q.code ≡ 0))
      → Crossed s p k w (place_after p q made) w
  crossed_more fixed =
      crossed_free free_more (omega (arith, free.on))
      (λ h. ⊎_elim known_fixed (λ first. known_first first.0 first.1) fixed)
