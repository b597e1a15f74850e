-- The segments of a block: from a store to the next one copies have one value.
use Rattle.std.specs.Prelude.{ℕ, suc, ◌+◌, ◌-◌, ◌≤◌, ◌<◌, ◌≡◌, ◌↔◌, Bool, true, false, cond, ◌&&◌, List, eqb, leb, ltb, None}
use Rattle.model.specs.Cxl0.{Value, event}
use Rattle.model.specs.OneLocation.{Site, clears_site, enabled_at, effect}
use Rattle.model.specs.Paying.{Pays}
use Rattle.rows.specs.Rows.{state}
use Rattle.rows.specs.Sites.{Known}
use Rattle.scratch.specs.Layout.{MOST}
use Rattle.scratch.specs.Words.{event_in, struct_in, events_from}
use Rattle.levels.specs.Stretches.{FAR, Stretch, Inner}
use Rattle.levels.specs.Tasks.{back_in, accepting}
use Rattle.levels.specs.declared.Closing.TheVariants.{Open}
use Rattle.segments.specs.Words.{segment_in}
use Rattle.segments.specs.Costs.{met, rest_from}
use Rattle.segments.specs.declared.words.Segment.{Segment}
use Rattle.segments.specs.declared.words.Block.{Block}

-- From code c with copies of value u and memory value m, the events from gap t to gap n have a run with at most x
-- steps.
abbrev pub Left : Site → List ℕ → (n t : ℕ) → (u : Value) → (c : ℕ) → (m : Value) → ℕ → Type 0
Left k w n t u c m x = Pays k (events_from w t (n - t)) (state c u m) x

-- r is the fewest steps of such a run, or FAR.
pub record Costs (k : Site) (w : List ℕ) (n t : ℕ) (u : Value) (c : ℕ) (m : Value) (r : ℕ) : Type 0 where
  pub most : r ≤ FAR
  pub exact : (x : ℕ) → x < FAR → Left k w n t u c m x ↔ (r ≤ x)

-- ---- how a segment closes

-- The event after the last gap of segment l, for codes and memory values: it accepts what `closing` says, and a block
-- that ends with a read from memory ends with that of its value.
pub record Accepts (k : Site) (w : List ℕ) (b : Block) (s : Segment) (final : Bool) : Type 0 where
  pub enabled : (c : ℕ) (m : Value)
      → enabled_at k (event (event_in w s.end)) (state c s.copy m)
      ≡ (accepting s.closing (eqb m s.copy) c && cond final (met b.forced m) true)

-- A store follows, after which the next segment begins with its code and copies, and memory as it was.
pub record Follows (k : Site) (w : List ℕ) (b : Block) (l : ℕ) : Type 0 where
  pub more : suc l < b.count
  pub inside : (segment_in w l).end < b.end
  pub accepts : Accepts k w b (segment_in w l) false
  pub next : (segment_in w (suc l)).first ≡ suc (segment_in w l).end
  pub leads : (c : ℕ) (m : Value)
      → effect k (event (event_in w (segment_in w l).end)) (state c (segment_in w l).copy m)
      ≡ state (segment_in w (suc l)).code (segment_in w (suc l)).copy m

-- The block ends with one event more, or with the log.
pub data Closes (k : Site) (w : List ℕ) (b : Block) (l : ℕ) : Type 0 where
  store : Follows k w b l → Closes k w b l
  final : suc l ≡ b.count → suc (segment_in w l).end ≡ b.end → Accepts k w b (segment_in w l) true → Closes k w b l
  ended : suc l ≡ b.count → (segment_in w l).end ≡ b.end → (segment_in w l).closing ≡ Open → b.forced ≡ None
      → Closes k w b l

-- ---- segments

-- Segment l of the block.
pub record IsSegment (k : Site) (w : List ℕ) (b : Block) (l : ℕ) : Type 0 where
  pub order : (segment_in w l).first ≤ (segment_in w l).end
  pub inside : (segment_in w l).end ≤ b.end
  pub known : (t : ℕ) → (segment_in w l).first ≤ t → t < (segment_in w l).end → Known (struct_in w t)
  pub inner : (t : ℕ) → (segment_in w l).first ≤ t → t < (segment_in w l).end
      → Inner (segment_in w l).copy (event_in w t)
  -- the first reset, if there is one, and else no gap of the segment
  pub early : (t : ℕ) → (segment_in w l).first ≤ t → t < (segment_in w l).end → t < (segment_in w l).reset
      → clears_site (event_in w t) k ≡ false
  pub resets : (segment_in w l).reset < (segment_in w l).end
      → ((segment_in w l).first ≤ (segment_in w l).reset) × (clears_site (event_in w (segment_in w l).reset) k ≡ true)
  pub closes : Closes k w b l

-- The segments of a block from number l on.
pub record Segmented (k : Site) (w : List ℕ) (b : Block) (l : ℕ) : Type 0 where
  pub few : b.count ≤ MOST + 1
  pub short : b.end ≤ MOST
  pub each : (j : ℕ) → l ≤ j → j < b.count → IsSegment k w b j

-- The numbers of the segments from l on say what is left to pay at the start of each, for every memory value.
abbrev pub Means : Site → List ℕ → Block → ℕ → Type 0
Means k w b l =
    (j : ℕ) → l ≤ j → j < b.count → (m : Value)
    → Costs k w b.end (segment_in w j).first (segment_in w j).copy (segment_in w j).code m (rest_from w b j m)

-- ---- the stretch of a segment

-- The memory value at gap t, if nothing is written back and it was m at the first gap.
abbrev pub memory_at : Site → Segment → Value → ℕ → Value
memory_at k s m t = cond (leb t s.reset) m k.initial

-- The segment with memory value m, and what is to pay behind it.
abbrev pub stretch_of : Site → List ℕ → Segment → Value → (last : ℕ) → Stretch
stretch_of k w s m last =
    record {
      site = k;
      copy = s.copy;
      memory = memory_at k s m;
      event = event_in w;
      back = back_in w;
      end = s.end;
      accepts = accepting s.closing (eqb (memory_at k s m s.end) s.copy);
      last = last;
    }

-- What is to pay behind the last gap with the initial value in memory, if the segment has a reset.
abbrev pub cleared_of : List ℕ → Block → ℕ → Segment → Value → ℕ
cleared_of w b l s z = cond (ltb s.reset s.end) (rest_from w b (suc l) z) FAR

-- The same where no copy is left, or FAR if the closing event does not accept code 0.
abbrev pub again_of : Segment → (z : Value) → (cleared : ℕ) → ℕ
again_of s z cleared = cond (accepting s.closing (eqb z s.copy) 0) cleared FAR

-- What is to pay behind the last gap: after a reset, or else with the memory value of the first gap.
abbrev pub behind_of : Segment → (cleared kept : ℕ) → ℕ
behind_of s cleared kept = cond (ltb s.reset s.end) cleared kept

-- After a write-back at each gap of the segment, there is left to pay what stands for it in the area.
abbrev pub Backs : Site → List ℕ → Block → Segment → Type 0
Backs k w b s =
    (t : ℕ) → s.first ≤ t → t ≤ s.end → Costs k w b.end t s.copy 0 s.copy (back_in w t)
