-- What a change of other words keeps: the events, the segments, and what is left to pay.
use Prim.Native.Nat.{ℕ, zero, suc, ◌+◌, ◌-◌, ◌*◌, ◌≤◌, ◌<◌}
use native.Mathlib.Nat.{le_refl, lt_of_lt_of_le}
use native.Mathlib.Omega.{arith}
use mathlib.Core.Path.{◌≡◌, refl, sym, ap, ap₂, ◌∙◌}
use mathlib.Core.Logic.{inr}
use mathlib.Core.Bool.{Bool, true, false}
use mathlib.Core.List.{List, ◌∷◌}
use Rattle.model.specs.OneLocation.{Site}
use Rattle.model.specs.Meaning.{meant}
use Rattle.scratch.specs.Layout.{MOST, ROWS, SEGMENTS, OnlyIn}
use Rattle.scratch.specs.Words.{event_in, struct_in, events_from}
use Rattle.scratch.proofs.Frames.{only_wider}
use Rattle.scratch.proofs.Events.{struct_same, meant_read}
use Rattle.segments.specs.declared.words.Block.{Block}
use Rattle.segments.specs.Words.{segment_in}
use Rattle.segments.specs.Segments.{Left, Costs, Accepts, Follows, Closes, store, final, ended}
use Rattle.segments.specs.Segments.{IsSegment, Segmented, Means}
use Rattle.segments.proofs.Rests.{segment_same, costs_apart, SameFrom, rests_same}

-- The events and the segments are as they were.
pub record Kept (w w' : List ℕ) : Type 0 where
  pub structs : (t : ℕ) → t < MOST → struct_in w' t ≡ struct_in w t
  pub segments : (j : ℕ) → segment_in w' j ≡ segment_in w j

pub kept_then : {w w' w'' : List ℕ} → Kept w w' → Kept w' w'' → Kept w w''
kept_then p q =
    record {
      structs = λ t h. q.structs t h ∙ p.structs t h;
      segments = λ j. q.segments j ∙ p.segments j;
    }

-- So they are if only words between them have changed,
pub kept_between : {from to : ℕ} {w w' : List ℕ} → OnlyIn from to w w' → ROWS ≤ from → to ≤ SEGMENTS → Kept w w'
kept_between only a h =
    record {
      structs = struct_same (only_wider only a (le_refl _));
      segments = λ j. segment_same only j (inr (omega arith));
    }

-- or only the costs of a segment.
pub kept_costs : (l : ℕ) {w w' : List ℕ} → OnlyIn (SEGMENTS + 2 * l + 1) (SEGMENTS + 2 * l + 2) w w' → Kept w w'
kept_costs l only =
    record { structs = struct_same (only_wider only (omega arith) (le_refl _)); segments = costs_apart l only }

module _ {w w' : List ℕ} (kept : Kept w w') where
  -- ---- events

  pub kept_event : (t : ℕ) → t < MOST → event_in w' t ≡ event_in w t
  kept_event t h =
      sym (meant_read w' t (struct_in w' t) refl) ∙ ap meant (kept.structs t h) ∙ meant_read w t (struct_in w t) refl

  pub kept_events : (t n : ℕ) → (0 < n → t + n ≤ MOST) → events_from w' t n ≡ events_from w t n
  unfolding events_from
  kept_events t zero h = refl
  kept_events t (suc n) h =
      let few = h (omega arith) in
      ap₂ ◌∷◌ (kept_event t (omega arith)) (kept_events (suc t) n (λ p. omega arith))

  -- What is left to pay is so too.
  pub kept_left : (k : Site) (n t : ℕ) (u c m x : ℕ) → n ≤ MOST → Left k w' n t u c m x ≡ Left k w n t u c m x
  kept_left k n t u c m x few = rw (kept_events t (n - t) (λ p. omega arith))

  pub kept_cost : {k : Site} {n t : ℕ} {u c m r : ℕ} → n ≤ MOST → Costs k w n t u c m r → Costs k w' n t u c m r
  kept_cost {k} {n} {t} {u} {c} {m} {r} few cost =
      record { most = cost.most; exact = λ x far. rw (kept_left k n t u c m x few) (cost.exact x far) }

  -- ---- segments

  module _ (k : Site) (b : Block) (l : ℕ) (short : b.end ≤ MOST) where
    kept_accepts : (last : Bool) → (segment_in w l).end < MOST → Accepts k w b (segment_in w l) last
        → Accepts k w' b (segment_in w' l) last
    kept_accepts last h a =
        rw (kept.segments l)
        (record { enabled = λ c m. rw (kept_event (segment_in w l).end h) (a.enabled c m) })

    kept_follows : Follows k w b l → Follows k w' b l
    kept_follows f =
        let inside = lt_of_lt_of_le f.inside short in
        record {
          more = f.more;
          inside = rw (kept.segments l) f.inside;
          accepts = kept_accepts false inside f.accepts;
          next = rw (kept.segments l, kept.segments (suc l)) f.next;
          leads =
              λ c m.
              rw (kept.segments l, kept.segments (suc l), kept_event (segment_in w l).end inside) (f.leads c m);
        }

    kept_closes : Closes k w b l → Closes k w' b l
    kept_closes (store f) = store (kept_follows f)
    kept_closes (final last end accepts) =
        final last (rw (kept.segments l) end) (kept_accepts true (omega arith) accepts)
    kept_closes (ended last end asks free) =
        ended last (rw (kept.segments l) end) (rw (kept.segments l) asks) free

    pub kept_segment : IsSegment k w b l → IsSegment k w' b l
    kept_segment seg =
        let few : (t : ℕ) → t < (segment_in w l).end → t < MOST = λ t h. omega (arith, seg.inside) in
        record {
          order = rw (kept.segments l) seg.order;
          inside = rw (kept.segments l) seg.inside;
          known = rw (kept.segments l) (λ t a h. rw (kept.structs t (few t h)) (seg.known t a h));
          inner = rw (kept.segments l) (λ t a h. rw (kept_event t (few t h)) (seg.inner t a h));
          early = rw (kept.segments l) (λ t a h d. rw (kept_event t (few t h)) (seg.early t a h d));
          resets =
              rw (kept.segments l)
              (λ h. rw (kept_event (segment_in w l).reset (few (segment_in w l).reset h)) (seg.resets h));
          closes = kept_closes seg.closes;
        }

  pub kept_segmented : {k : Site} {b : Block} {l : ℕ} → Segmented k w b l → Segmented k w' b l
  kept_segmented {k} {b} p =
      record { few = p.few; short = p.short; each = λ j a h. kept_segment k b j p.short (p.each j a h) }

  -- And if the costs from segment l on are as they were, they say what is left to pay.
  pub kept_means : (k : Site) (b : Block) (l : ℕ) → b.end ≤ MOST → SameFrom l w w' → Means k w b l → Means k w' b l
  kept_means k b l short same means j a h m =
      rw (kept.segments j, rests_same same b j a m) (kept_cost short (means j a h m))
