-- Cutting events into segments: the open segment so far, the segments that are put, and that all together they are the
-- segments of a block.
use Prim.Native.Nat.{ℕ, suc, ◌≤◌, ◌<◌}
use native.Mathlib.Nat.{le_refl, eq-or-lt_of_le}
use native.Mathlib.Omega.{arith}
use mathlib.Core.Path.{◌≡◌, refl, sym, ap, ◌∙◌, subst}
use mathlib.Core.Logic.{◌≢◌, ◌⊎◌, inl, inr, ⊎_elim}
use mathlib.Core.Bool.{Bool, true, false, cond, and-true}
use mathlib.Core.List.{List}
use lib.Dec.{eqb}
use borrow.Author.Tests.{eq-eqb, ne_eqb}
use Rattle.model.specs.Cxl0.{Value, event}
use Rattle.model.specs.OneLocation.{Site, clears_site, enabled_at, effect}
use Rattle.rows.specs.Rows.{state}
use Rattle.rows.specs.Sites.{Known}
use Rattle.scratch.specs.Layout.{MOST}
use Rattle.scratch.specs.Words.{event_in, struct_in}
use Rattle.scratch.proofs.StepArea.{event_kept}
use Rattle.levels.specs.Stretches.{Inner}
use Rattle.levels.specs.Tasks.{accepting}
use Rattle.segments.specs.Words.{segment_in, SegmentPut}
use Rattle.segments.specs.Segments.{Follows, Closes, store, IsSegment, Segmented}
use Rattle.segments.specs.declared.words.Segment.{Segment}
use Rattle.segments.specs.declared.words.Block.{Block}
use Rattle.segments.proofs.Rests.{segment_same}
use Rattle.blocks.specs.Splitting.{kind_of}
use Rattle.blocks.specs.declared.splitting.Kind.TheVariants.{Inside}
use Rattle.blocks.proofs.EventKinds.{inner_kind}

-- What stands for no reset.
abbrev pub NONE : ℕ
NONE = 255

-- Up to gap t the events stand inside segment s, and its first reset is noted.
pub record Grown (k : Site) (w : List ℕ) (s : Segment) (t : ℕ) : Type 0 where
  pub order : s.first ≤ t
  pub code : s.code < 64
  pub inner : (j : ℕ) → s.first ≤ j → j < t → Inner s.copy (event_in w j)
  pub early : (j : ℕ) → s.first ≤ j → j < t → j < s.reset → clears_site (event_in w j) k ≡ false
  pub resets : (s.reset ≡ NONE)
      ⊎ ((s.first ≤ s.reset) × (s.reset < t) × (clears_site (event_in w s.reset) k ≡ true))

-- Two segments begin at the same gap with the same code and copies.
pub record Alike (s s' : Segment) : Type 0 where
  pub first : s.first ≡ s'.first
  pub code : s.code ≡ s'.code
  pub copy : s.copy ≡ s'.copy

-- A store follows segment s, and it leads to the first gap of the next one.
pub record Cut (k : Site) (w : List ℕ) (s s' : Segment) : Type 0 where
  pub accepts : (c : ℕ) (m : Value)
      → enabled_at k (event (event_in w s.end)) (state c s.copy m) ≡ accepting s.closing (eqb m s.copy) c
  pub next : s'.first ≡ suc s.end
  pub leads : (c : ℕ) (m : Value)
      → effect k (event (event_in w s.end)) (state c s.copy m) ≡ state s'.code s'.copy m

-- Segment j, where the one with number l is s and those before it are put.
abbrev pub numbered : List ℕ → (l : ℕ) → Segment → ℕ → Segment
numbered w l s j = cond (eqb j l) s (segment_in w j)

-- The events up to gap t are cut, from a segment like s₀ on: l segments are put, and s is open.
pub record Cuts (k : Site) (s₀ : Segment) (w : List ℕ) (l : ℕ) (s : Segment) (t : ℕ) : Type 0 where
  pub few : l ≤ t
  pub from : s₀.first ≤ t
  pub grown : Grown k w s t
  pub each : (j : ℕ) → j < l → Grown k w (segment_in w j) (segment_in w j).end
  pub ends : (j : ℕ) → j < l → (segment_in w j).end < t
  pub cuts : (j : ℕ) → j < l → Cut k w (segment_in w j) (numbered w l s (suc j))
  pub begins : Alike (numbered w l s 0) s₀

-- Segments 0 to l are put, the last one up to gap t.
pub record AllPut (k : Site) (s₀ : Segment) (w : List ℕ) (l t : ℕ) : Type 0 where
  pub few : l ≤ t
  pub from : s₀.first ≤ t
  pub each : (j : ℕ) → j ≤ l → Grown k w (segment_in w j) (segment_in w j).end
  pub end : (segment_in w l).end ≡ t
  pub ends : (j : ℕ) → j < l → (segment_in w j).end < t
  pub cuts : (j : ℕ) → j < l → Cut k w (segment_in w j) (segment_in w (suc j))
  pub begins : Alike (segment_in w 0) s₀

-- What holds of the last number and of each one below it holds of each up to it.
pub up_to : (P : ℕ → Type 0) (l : ℕ) → ((j : ℕ) → j < l → P j) → P l → (j : ℕ) → j ≤ l → P j
up_to P l before last j h = ⊎_elim (λ e. subst P (sym e) last) (before j) (eq-or-lt_of_le h)

-- ---- the first segment

-- At its first gap nothing is in a segment.
pub grown_none : (k : Site) (w : List ℕ) (s : Segment) → s.code < 64 → s.reset ≡ NONE → Grown k w s s.first
grown_none k w s code none =
    record {
      order = le_refl _;
      code = code;
      inner = λ j a h. absurd (omega arith);
      early = λ j a h. absurd (omega arith);
      resets = inl none;
    }

pub cuts_none : (k : Site) (w : List ℕ) (s : Segment) → s.code < 64 → s.reset ≡ NONE → Cuts k s w 0 s s.first
cuts_none k w s code none =
    record {
      few = omega arith;
      from = le_refl _;
      grown = grown_none k w s code none;
      each = λ j h. absurd (omega arith);
      ends = λ j h. absurd (omega arith);
      cuts = λ j h. absurd (omega arith);
      begins = record { first = refl; code = refl; copy = refl };
    }

-- ---- one event more inside the open segment

-- A segment that begins alike may take its place.
alike_numbered : (w : List ℕ) (l : ℕ) {s s' : Segment} → Alike s s' → (j : ℕ)
    → Alike (numbered w l s j) (numbered w l s' j)
alike_numbered w l {s} {s'} a j = go (eqb j l)
  where
    go : (here : Bool) → Alike (cond here s (segment_in w j)) (cond here s' (segment_in w j))
    go true = a
    go false = record { first = refl; code = refl; copy = refl }

alike_sym : {s s' : Segment} → Alike s s' → Alike s' s
alike_sym a = record { first = sym a.first; code = sym a.code; copy = sym a.copy }

alike_then : {s s' s'' : Segment} → Alike s s' → Alike s' s'' → Alike s s''
alike_then a a' =
    record { first = a.first ∙ a'.first; code = a.code ∙ a'.code; copy = a.copy ∙ a'.copy }

cut_alike : {k : Site} {w : List ℕ} {s n n' : Segment} → Alike n n' → Cut k w s n → Cut k w s n'
cut_alike a cut =
    record {
      accepts = cut.accepts;
      next = rw (← a.first) cut.next;
      leads = λ c m. rw (← a.code, ← a.copy) (cut.leads c m);
    }

module _ {k : Site} {s₀ : Segment} {w : List ℕ} {l : ℕ} {s : Segment} {t : ℕ} (cuts : Cuts k s₀ w l s t)
    (inside : kind_of s.copy (event_in w t) ≡ Inside) where
  cuts_grown : (s' : Segment) → Alike s s' → Grown k w s' (suc t) → Cuts k s₀ w l s' (suc t)
  cuts_grown s' a grown =
      record {
        few = omega (arith, cuts.few);
        from = omega (arith, cuts.from);
        grown = grown;
        each = cuts.each;
        ends = λ j h. omega (arith, cuts.ends j h);
        cuts = λ j h. cut_alike (alike_numbered w l a (suc j)) (cuts.cuts j h);
        begins = alike_then (alike_sym (alike_numbered w l a 0)) cuts.begins;
      }

  inner_more : (j : ℕ) → s.first ≤ j → j < suc t → Inner s.copy (event_in w j)
  inner_more j a h =
      up_to (λ j. s.first ≤ j → Inner s.copy (event_in w j)) t
      (λ j h a. cuts.grown.inner j a h)
      (λ a. inner_kind s.copy (event_in w t) inside)
      j (omega arith) a

  -- It is not the first reset.
  pub cuts_inside : (s.reset ≢ NONE) ⊎ (clears_site (event_in w t) k ≡ false) → t < NONE → Cuts k s₀ w l s (suc t)
  cuts_inside other few =
      let grown = cuts.grown in
      let noted : s.reset ≢ NONE → s.reset < t =
      λ n. ⊎_elim (λ e. absurd (n e)) (λ r. r.1) grown.resets
      in
      let keeps : t < s.reset → clears_site (event_in w t) k ≡ false =
      λ h. ⊎_elim (λ n. absurd (omega (arith, noted n))) (λ e. e) other
      in
      cuts_grown s (record { first = refl; code = refl; copy = refl })
      (record {
        order = omega (arith, grown.order);
        code = grown.code;
        inner = inner_more;
        early =
            λ j a h.
            up_to (λ j. s.first ≤ j → j < s.reset → clears_site (event_in w j) k ≡ false) t
            (λ j h a. grown.early j a h)
            (λ a. keeps)
            j (omega arith) a;
        resets = ⊎_elim inl (λ r. inr (r.0, omega (arith, r.1), r.2)) grown.resets;
      })

  -- It is.
  pub cuts_reset : (s' : Segment) → Alike s s' → s'.reset ≡ t → s.reset ≡ NONE
      → clears_site (event_in w t) k ≡ true → t < NONE → Cuts k s₀ w l s' (suc t)
  cuts_reset s' a here none clears few =
      let grown = cuts.grown in
      cuts_grown s' a
      (record {
        order = omega (arith, grown.order, a.first);
        code = rw (← a.code) grown.code;
        inner = rw (← a.first, ← a.copy) inner_more;
        early =
            λ j b h g. grown.early j (omega (arith, a.first)) (omega arith) (omega arith);
        resets = inr (omega (arith, grown.order, a.first), omega arith, rw here clears);
      })

-- ---- a segment is put

-- The events that a segment so far has are all that it depends on.
grown_kept : {k : Site} {w w' : List ℕ} {s : Segment} {t : ℕ} → ((j : ℕ) → j < t → event_in w' j ≡ event_in w j)
    → Grown k w s t → Grown k w' s t
grown_kept {k} {s = s} same g =
    record {
      order = g.order;
      code = g.code;
      inner = λ j a h. rw (same j h) (g.inner j a h);
      early = λ j a h r. rw (same j h) (g.early j a h r);
      resets = ⊎_elim inl (λ r. inr (r.0, r.1, rw (same s.reset r.1) r.2)) g.resets;
    }

cut_kept : {k : Site} {w w' : List ℕ} {s s' : Segment} → event_in w' s.end ≡ event_in w s.end
    → Cut k w s s' → Cut k w' s s'
cut_kept same c =
    record { accepts = λ d m. rw same (c.accepts d m); next = c.next; leads = λ d m. rw same (c.leads d m) }

-- The open segment s, closed at gap t, is put as segment l.
module _ {k : Site} {s₀ : Segment} {w : List ℕ} {l : ℕ} {s : Segment} {t : ℕ} (cuts : Cuts k s₀ w l s t)
    (few : t ≤ MOST) {s' : Segment} {w' : List ℕ} (put : SegmentPut w l s' w')
    (alike : Alike s s') (end : s'.end ≡ t) (reset : s'.reset ≡ s.reset) where
  same_event : (j : ℕ) → j < t → event_in w' j ≡ event_in w j
  same_event j h = event_kept put.frame (omega arith) j (omega arith)

  same_segment : (j : ℕ) → j < l → segment_in w' j ≡ segment_in w j
  same_segment j h = segment_same put.frame j (inl (omega arith))

  -- The segments put begin like those before.
  alike_put : (j : ℕ) → j ≤ l → Alike (numbered w l s j) (segment_in w' j)
  alike_put =
      up_to (λ j. Alike (numbered w l s j) (segment_in w' j)) l
      (λ j h.
      rw (ne_eqb j l (λ e. absurd (omega arith)), same_segment j h)
      (record { first = refl; code = refl; copy = refl }))
      (rw (eq-eqb l l refl, put.stored) alike)

  each_put : (j : ℕ) → j ≤ l → Grown k w' (segment_in w' j) (segment_in w' j).end
  each_put =
      up_to (λ j. Grown k w' (segment_in w' j) (segment_in w' j).end) l
      (λ j h.
      rw (same_segment j h)
      (grown_kept (λ i b. same_event i (omega (arith, cuts.ends j h))) (cuts.each j h)))
      (rw put.stored (subst (Grown k w' s') (sym end) (grown_kept same_event closed)))
    where
      closed : Grown k w s' t
      closed =
          let g = cuts.grown in
          record {
            order = rw (← alike.first) g.order;
            code = rw (← alike.code) g.code;
            inner = rw (← alike.first, ← alike.copy) g.inner;
            early = rw (← alike.first, reset) g.early;
            resets = rw (← alike.first, reset) g.resets;
          }

  pub all_put : AllPut k s₀ w' l t
  all_put =
      record {
        few = cuts.few;
        from = cuts.from;
        each = each_put;
        end = rw put.stored end;
        ends = λ j h. rw (same_segment j h) (cuts.ends j h);
        cuts =
            λ j h.
            rw (same_segment j h)
            (cut_alike (alike_put (suc j) h) (cut_kept (same_event _ (cuts.ends j h)) (cuts.cuts j h)));
        begins = alike_then (alike_sym (alike_put 0 (omega arith))) cuts.begins;
      }

-- ---- the next segment

-- Each of the segments that are put ends at gap t or before it.
ends_by : {k : Site} {s₀ : Segment} {w : List ℕ} {l t : ℕ} → AllPut k s₀ w l t
    → (j : ℕ) → j ≤ l → (segment_in w j).end ≤ t
ends_by {w = w} {l} {t} put =
    up_to (λ j. (segment_in w j).end ≤ t) l (λ j h. omega (arith, put.ends j h)) (rw put.end (le_refl _))

-- With the store that follows the last segment the next one is open.
pub cuts_next : {k : Site} {s₀ : Segment} {w : List ℕ} {l t : ℕ} → AllPut k s₀ w l t → (s : Segment)
    → Cut k w (segment_in w l) s → s.code < 64 → s.reset ≡ NONE → Cuts k s₀ w (suc l) s (suc t)
cuts_next {k} {s₀} {w} {l} {t} put s cut code none =
    record {
      few = omega (arith, put.few);
      from = omega (arith, put.from);
      grown = subst (Grown k w s) (cut.next ∙ ap suc put.end) (grown_none k w s code none);
      each = λ j h. put.each j (omega arith);
      ends = λ j h. omega (arith, ends_by put j (omega arith));
      cuts =
          λ j h.
          up_to (λ j. Cut k w (segment_in w j) (numbered w (suc l) s (suc j))) l
          (λ j h. rw (ne_eqb (suc j) (suc l) (λ e. absurd (omega arith))) (put.cuts j h))
          (rw (eq-eqb (suc l) (suc l) refl) cut)
          j (omega arith);
      begins = rw (ne_eqb 0 (suc l) (λ e. absurd (omega arith))) put.begins;
    }

-- ---- the block

-- The segments that are put are those of a block, if the last one closes it.
pub segmented : {k : Site} {s₀ : Segment} {w : List ℕ} {l t : ℕ} → AllPut k s₀ w l t → (b : Block)
    → ((j : ℕ) → j < t → Known (struct_in w j)) → t ≤ MOST → b.count ≡ suc l → t ≤ b.end → b.end ≤ MOST
    → Closes k w b l → Segmented k w b 0
segmented {k} {s₀} {w} {l} {t} put b known few count end short closes =
    record { few = omega (arith, put.few); short = short; each = λ j a h. segment j (omega arith) }
  where
    follows : (j : ℕ) → j < l → Follows k w b j
    follows j h =
        let cut = put.cuts j h in
        record {
          more = omega arith;
          inside = omega (arith, put.ends j h);
          accepts = record { enabled = λ c m. cut.accepts c m ∙ sym (and-true _) };
          next = cut.next;
          leads = cut.leads;
        }

    segment : (j : ℕ) → j ≤ l → IsSegment k w b j
    segment j h =
        let g = put.each j h in
        record {
          order = g.order;
          inside = omega (arith, ends_by put j h);
          known = λ i a b. known i (omega (arith, ends_by put j h));
          inner = g.inner;
          early = g.early;
          resets =
              λ less. ⊎_elim (λ e. absurd (omega (arith, ends_by put j h))) (λ r. (r.0, r.2)) g.resets;
          closes = up_to (Closes k w b) l (λ j h. store (follows j h)) closes j h;
        }
