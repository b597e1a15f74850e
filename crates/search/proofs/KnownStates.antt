-- Behind which events the state of a location is known, whatever silent steps came before: a store into memory, a read
-- of another value than the copies have, and any event in front of which there is a known state without a copy.
use mathlib.Core.Path.{◌≡◌, refl, sym, ap, ◌∙◌}
use mathlib.Core.List.{List, [], ◌∷◌, ◌++◌, cons≢nil}
use lib.Dec.{T}
use Rattle.model.specs.Cxl0.{Location, Value, Topology}
use Rattle.model.specs.Cxl0.{Event, Action, event, silent, events}
use Rattle.model.specs.OneLocation.{Local, Site, site_of, event_at, concerns, enabled_at, effect}
use Rattle.model.specs.OneLocation.{possible_at, next_at, after_at}
use Rattle.model.specs.ShortestAt.{RunOf, KnownAfter}
use mathlib.Core.Bool.{true}
use Rattle.model.proofs.Tests.{T→true}
use Rattle.model.proofs.SilentSteps.{no_step}
use Rattle.model.proofs.RunsOf.{step_first}
use Rattle.model.proofs.Greedy.{known_last}
use Rattle.rows.specs.Rows.{state}
use Rattle.rows.specs.Sites.{copy_from}
use Rattle.blocks.specs.Splitting.{kind_of, ends_block}
use Rattle.blocks.proofs.EventKinds.{read_of, known_after}
use Rattle.blocks.proofs.Places.{copies_run}

-- ---- events after which the state is known

-- An event that ends a block leads to the same state from wherever it is enabled, if copies have the same value.
same_effect : (s t : Local) → s.copy ≡ t.copy → (k : Site) (e : Event)
    → ends_block (kind_of t.copy e) ≡ true
    → T (enabled_at k (event e) s) → T (enabled_at k (event e) t) → effect k (event e) s ≡ effect k (event e) t
same_effect s t copies k e known p q =
    known_after k s.copy e s.code s.memory (read_of e) (rw copies known) (λ other. refl) p
    ∙ ap (λ (u : Value). effect k (event e) (state 0 u (read_of e))) copies
    ∙ sym (known_after k t.copy e t.code t.memory (read_of e) known (λ other. refl) q)

module _ (sys : Topology) (x : Location) where
  -- ---- copies

  -- Two runs of the same events leave copies of the same value.
  same_copies : {es : List Event} {s : Local} {k l : List Action} → RunOf sys x es s k → RunOf sys x es s l
      → (after_at sys x k s).copy ≡ (after_at sys x l s).copy
  same_copies {s = s} {k} {l} p q =
      copies_run sys x k s ∙ ap (copy_from x s.copy) (p.of ∙ sym q.of) ∙ sym (copies_run sys x l s)

  -- Behind an event that ends a block the state is known: that to which it leads from the end of one run.
  pub known_kind : {es : List Event} (e : Event) {s t : Local} {acts : List Action} → RunOf sys x es s acts
      → after_at sys x acts s ≡ t → T (event_at x e) → T (possible_at sys x (event e) t)
      → ends_block (kind_of t.copy e) ≡ true
      → KnownAfter sys x (es ++ e ∷ []) s (next_at sys x (event e) t)
  unfolding possible_at next_at concerns
  known_kind {es} e {s} {t} run leads here can known =
      let at = T→true {b = event_at x e} here in
      known_last sys x es e
      (λ l r enabled.
      let copies = same_copies r run ∙ ap (λ (z : Local). z.copy) leads in
      rw at (same_effect (after_at sys x l s) t copies (site_of sys x) e known (rw at at enabled) (rw at at can)))

  -- ---- no copy

  -- Where there is no copy, no silent step is enabled: a list without events leads nowhere.
  stays : (acts : List Action) {s : Local} → RunOf sys x [] s acts → s.code ≡ 0 → after_at sys x acts s ≡ s
  unfolding after_at events
  stays [] r none = refl
  stays (event e ∷ acts) r none = absurd (cons≢nil r.of)
  stays (silent a ∷ acts) {s} r none = absurd (no_step (site_of sys x) a s none (step_first sys x r).1)

  -- Behind an event in front of which there is no copy the state is known.
  pub known_bare : (e : Event) {s : Local} → s.code ≡ 0
      → KnownAfter sys x (e ∷ []) s (next_at sys x (event e) s)
  known_bare e none = known_last sys x [] e (λ acts r can. ap (next_at sys x (event e)) (stays acts r none))
