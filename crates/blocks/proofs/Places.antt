-- The place after a block: what the event after its last segment leads to, and that this is the state after every run.
use Prim.Native.Nat.{ℕ, zero, suc, zero-le, ◌+◌, ◌-◌, ◌≤◌, ◌<◌}
use native.Mathlib.Nat.{le_refl, add-zero, add-suc}
use native.Mathlib.Omega.{arith}
use mathlib.Core.Path.{◌≡◌, refl, sym, ap, ◌∙◌, subst}
use mathlib.Core.Bool.{Bool, true, false, cond}
use mathlib.Core.List.{List, [], ◌∷◌, ◌++◌}
use lib.Dec.{T}
use Rattle.model.specs.Cxl0.{Location, Value, Topology, Event, Silent, Propagate, WriteBack}
use Rattle.model.specs.ShortestAt.{KnownAfter}
use Rattle.model.specs.Cxl0.{Action, event, silent, events}
use Rattle.model.specs.OneLocation.{Local, Site, site_of, event_at, silent_at, concerns, enabled_at, effect}
use Rattle.model.specs.OneLocation.{next_at, after_at}
use Rattle.model.specs.Meaning.{meant}
use Rattle.model.specs.declared.Event as declared
use Rattle.model.proofs.Greedy.{known_last}
use Rattle.model.proofs.Payments.{possible-at, next-at}
use Rattle.entries.specs.Entries.{short_of}
use Rattle.entries.specs.declared.Acted.{Acted}
use Rattle.entries.specs.declared.Site as site
use Rattle.rows.specs.Rows.{state}
use Rattle.rows.specs.Sites.{copy_after, copy_from}
use Rattle.rows.proofs.RowSteps.{next_copy, copy-left, copy_here}
use Rattle.scratch.specs.Words.{event_in, struct_in, events_from}
use Rattle.scratch.proofs.Events.{meant_read, last_event, copy_last}
use Rattle.segments.specs.Words.{segment_in}
use Rattle.segments.specs.Segments.{Closes, store, final, ended, Segmented}
use Rattle.segments.specs.declared.words.Segment.{Segment}
use Rattle.segments.specs.declared.words.Block.{Block}
use Rattle.segments.proofs.Paying.{inner_leads}
use Rattle.walking.specs.Acting.{Acts}
use Rattle.std.proofs.Common.{unwrap_or}
use Rattle.blocks.specs.Splitting.{kind_of, ends_block}
use Rattle.blocks.specs.declared.splitting.Kind.TheVariants.{OtherRead}
use Rattle.blocks.specs.Blocks.{between, last_in, Closed}
use Rattle.blocks.proofs.EventKinds.{read_of, known_after}

-- What the event after the last segment makes of no copy and the block's value in memory is the place.
pub closed : {site : site.Site} {b : Block} {end : ℕ} {w : List ℕ} {s : Segment} {e : declared.Event} {made : Acted}
    → s ≡ last_in w b → e ≡ struct_in w s.end
    → Acts site (meant e) s.copy (record { code = 0; memory = unwrap_or b.forced 0; end = end }) made
    → Closed site b end w (record {
      gap = b.end;
      code = made.entry.sharers;
      copy = made.entry.copy;
      memory = made.entry.memory;
      end = end;
    })
unfolding short_of
closed {w = w} {s} {e} same read acts =
    record {
      gap = refl;
      ends = refl;
      fits = acts.fits;
      leads = rw (meant_read w s.end e read, same) at acts.leads;
    }

-- ---- the copies along a block

either : (b : Bool) (s t : Local) → s.copy ≡ t.copy → (cond b s t).copy ≡ t.copy
either true s t e = e
either false s t e = refl

-- A silent step leaves the value of the copies.
silent_copy : (sys : Topology) (x : Location) (a : Silent) (s : Local) → (next_at sys x (silent a) s).copy ≡ s.copy
unfolding next_at concerns effect
silent_copy sys x (Propagate i y) s = either (silent_at x (Propagate i y)) _ s refl
silent_copy sys x (WriteBack y) s = either (silent_at x (WriteBack y)) _ s refl

-- Silent steps leave the value of the copies, and events change it as they say.
pub copies_run : (sys : Topology) (x : Location) (run : List Action) (s : Local)
    → (after_at sys x run s).copy ≡ copy_from x s.copy (events run)
unfolding after_at events copy_from
copies_run sys x [] s = refl
copies_run sys x (event e ∷ run) s =
    copies_run sys x run (next_at sys x (event e) s)
    ∙ ap (λ (u : Value). copy_from x u (events run)) (next_copy sys x e s)
copies_run sys x (silent a ∷ run) s =
    copies_run sys x run (next_at sys x (silent a) s)
    ∙ ap (λ (u : Value). copy_from x u (events run)) (silent_copy sys x a s)

-- An event at the location leaves the copies that its effect leaves.
effect_copy : (k : Site) (x : Location) (e : Event) (c u m : ℕ) → T (event_at x e)
    → copy_after x u e ≡ (effect k (event e) (state c u m)).copy
effect_copy k x e c u m here = copy_here x u e here ∙ sym (copy-left k e (state c u m))

-- From the first gap of a block on the copies have the value of each segment while they are in it.
module _ {k : Site} {w : List ℕ} {b : Block} (laid : Segmented k w b 0) (x : Location)
    (here : (j : ℕ) → j < b.end → T (event_at x (event_in w j))) where
  abbrev first : ℕ
  first = (segment_in w 0).first

  abbrev copy_at : ℕ → Value
  copy_at t = copy_from x (segment_in w 0).copy (between w first t)

  copy_next : (t : ℕ) → first ≤ t → copy_at (suc t) ≡ copy_after x (copy_at t) (event_in w t)
  copy_next t h =
      let more : suc t - first ≡ suc (t - first) = omega arith in
      let there : first + (t - first) ≡ t = omega arith in
      rw more
      (copy_last w x (segment_in w 0).copy first (t - first)
      ∙ ap (λ (j : ℕ). copy_after x (copy_at t) (event_in w j)) there)

  copy_first : copy_at first ≡ (segment_in w 0).copy
  unfolding events_from copy_from
  copy_first =
      let none : first - first ≡ 0 = omega arith in
      rw none

  -- At gap t the copies have the value of segment l.
  abbrev Has : (l t : ℕ) → Type 0
  Has l t = (first ≤ t) × (copy_at t ≡ (segment_in w l).copy)

  -- An event that leads from segment l to copies of the value v.
  has_next : (l t : ℕ) {v : Value} → t < b.end → Has l t
      → (effect k (event (event_in w t)) (state 0 (segment_in w l).copy 0)).copy ≡ v
      → (first ≤ suc t) × (copy_at (suc t) ≡ v)
  has_next l t inside (low, same) leads =
      let after = effect_copy k x (event_in w t) 0 (segment_in w l).copy 0 (here t inside) in
      (omega arith, copy_next t low ∙ rw same (after ∙ leads))

  inside : (l : ℕ) → l < b.count → Has l (segment_in w l).first
      → (d : ℕ) → (segment_in w l).first + d ≤ (segment_in w l).end → Has l ((segment_in w l).first + d)
  inside l h begins zero e = rw add-zero begins
  inside l h begins (suc d) e =
      let t = (segment_in w l).first + d in
      let seg = laid.each l zero-le h in
      let keeps = inner_leads k (event_in w t) 0 (segment_in w l).copy 0 (seg.inner t (omega arith) (omega arith)) in
      let before = inside l h begins d (omega arith) in
      rw add-suc (has_next l t (omega (arith, seg.inside)) before (ap (λ (s : Local). s.copy) keeps))

  -- So it is at the last gap of each segment, if it is at the first one,
  at_end : (l : ℕ) → l < b.count → Has l (segment_in w l).first → Has l (segment_in w l).end
  at_end l h begins =
      let seg = laid.each l zero-le h in
      let d = (segment_in w l).end - (segment_in w l).first in
      let there : (segment_in w l).first + d ≡ (segment_in w l).end = omega (arith, seg.order) in
      rw there at (inside l h begins d (omega arith))

  -- and so it is at the first gap.
  at_first : (l : ℕ) → l < b.count → Has l (segment_in w l).first
  at_first zero h = (le_refl _, copy_first)
  at_first (suc l) h =
      let less : l < b.count = omega arith in
      over l h (at_end l less (at_first l less)) (laid.each l zero-le less).closes
    where
      over : (l : ℕ) → suc l < b.count → Has l (segment_in w l).end → Closes k w b l
          → Has (suc l) (segment_in w (suc l)).first
      over l h at (store f) =
          rw f.next
          (has_next l (segment_in w l).end f.inside at (ap (λ (s : Local). s.copy) (f.leads 0 0)))
      over l h at (final count end accepts) = absurd (omega arith)
      over l h at (ended count end asks free) = absurd (omega arith)

  -- ---- the last event

  -- An event after which the state is known follows the last segment.
  module _ {last : ℕ} (count : suc last ≡ b.count) (end : suc (segment_in w last).end ≡ b.end)
      (known : ends_block (kind_of (segment_in w last).copy (event_in w (segment_in w last).end)) ≡ true)
      (value : kind_of (segment_in w last).copy (event_in w (segment_in w last).end) ≡ OtherRead
      → unwrap_or b.forced 0 ≡ read_of (event_in w (segment_in w last).end)) where
    abbrev t : ℕ
    t = (segment_in w last).end

    abbrev u : Value
    u = (segment_in w last).copy

    abbrev e : Event
    e = event_in w t

    -- Where that event is possible behind a run of those before, it leads to one state.
    leads_on : (s : Local) → s.copy ≡ u → T (enabled_at k (event e) s)
        → effect k (event e) s ≡ effect k (event e) (state 0 u (unwrap_or b.forced 0))
    leads_on s same can =
        let shape : s ≡ state s.code u s.memory = λ i. state s.code (same i) s.memory in
        let enabled = subst (λ (z : Local). T (enabled_at k (event e) z)) shape can in
        ap (effect k (event e)) shape
        ∙ known_after k u e s.code s.memory (unwrap_or b.forced 0) known value enabled

    pub known_behind : (sys : Topology) → site_of sys x ≡ k → (c m : ℕ)
        → KnownAfter sys x (between w first b.end) (state c (segment_in w 0).copy m)
        (effect k (event e) (state 0 u (unwrap_or b.forced 0)))
    known_behind sys same c m =
        let at = at_end last (omega arith) (at_first last (omega arith)) in
        let own = here t (omega arith) in
        let begin = state c (segment_in w 0).copy m in
        rw (two_parts at)
        (known_last sys x (between w first t) e
        (λ run r can.
        let s = after_at sys x run begin in
        let copies : s.copy ≡ u =
        copies_run sys x run begin ∙ ap (copy_from x (segment_in w 0).copy) r.of ∙ at.1
        in
        rw (next-at sys x e s own, same) (leads_on s copies (rw (possible-at sys x e s own, same) at can))))
      where
        two_parts : Has last t → between w first b.end ≡ between w first t ++ e ∷ []
        two_parts at =
            let more : b.end - first ≡ suc (t - first) = omega (arith, at.0) in
            let there : first + (t - first) ≡ t = omega (arith, at.0) in
            rw more (last_event w first (t - first) ∙ ap (λ (j : ℕ). between w first t ++ event_in w j ∷ []) there)
