-- Weighing the segments of a block, from the last one to the first: what each call asks and leaves.
use Rattle.std.specs.Prelude.{min, max, ℕ, suc, ◌+◌, ◌-◌, ◌*◌, ◌≤◌, ◌<◌, ◌≡◌, ◌↔◌, ◌⊎◌, Bool, true, false, cond, List, T, leb, eqb, ltb, length}
use Rattle.model.specs.Cxl0.{Value, event}
use Rattle.model.specs.Sharers.{has}
use Rattle.model.specs.OneLocation.{enabled_at, effect}
use Rattle.masks.specs.Sets.{OneToSix}
use Rattle.entries.specs.Entries.{site_meant}
use Rattle.entries.specs.declared.Site.{Site}
use Rattle.rows.specs.Sites.{Known}
use Rattle.scratch.specs.Layout.{WORDS, MOST, LEVELS, BACKS, SEGMENTS, OnlyIn}
use Rattle.scratch.specs.Words.{event_in, struct_in}
use Rattle.levels.specs.Stretches.{FAR, Stretch, state_at, Inner}
use Rattle.levels.specs.Tasks.{back_in, reads_at, back_at, Ready, Tasked, Counted}
use Rattle.levels.specs.declared.Task.{Task}
use Rattle.segments.specs.Words.{segment_in, costs_in}
use Rattle.segments.specs.Costs.{plus, rest_from, Orderly}
use Rattle.segments.specs.Segments.{Costs, IsSegment, Segmented, Means, Backs}
use Rattle.segments.specs.declared.words.Segment.{Segment}
use Rattle.segments.specs.declared.words.Block.{Block}
use Rattle.segments.specs.declared.backing.Bounds.{Bounds}
use Rattle.segments.specs.declared.seeing.Seen.{Seen}
use Rattle.segments.specs.declared.weighing.Others.{Others}

-- ---- the rest of a block

-- The numbers from segment l on are in order.
pub record Restable (w : List ℕ) (b : Block) (l : ℕ) : Type 0 where
  pub room : WORDS ≤ length w
  pub few : b.count ≤ MOST + 1
  pub here : l ≤ b.count
  pub orderly : Orderly w b l

-- ---- write-backs

-- The segment is one of the block, and what is left to pay behind its last gap, without a copy, is `back` with the
-- value of the copies in memory and, if it has a reset, `zeta` with the initial value.
pub record Backable (site : Site) (b : Block) (l : ℕ) (back zeta : ℕ) (w : List ℕ) : Type 0 where
  pub room : WORDS ≤ length w
  pub short : b.end ≤ MOST
  pub segment : IsSegment (site_meant site) w b l
  pub here : Costs (site_meant site) w b.end (segment_in w l).end (segment_in w l).copy 0 (segment_in w l).copy back
  pub again : (segment_in w l).reset < (segment_in w l).end
      → Costs (site_meant site) w b.end (segment_in w l).end (segment_in w l).copy 0 site.initial zeta

-- The bounds with one number more.
pub record Bounded (b : Bounds) (n : ℕ) (r : Bounds) : Type 0 where
  pub least : (r.least ≤ b.least) × (r.least ≤ n)
  pub most : (b.most ≤ r.most) × (n < FAR → suc n ≤ r.most)

-- They are in the area, with bounds: none is below `least`, and one more than each that is finite is at most `most`.
pub record Backed (site : Site) (b : Block) (l : ℕ) (w : List ℕ) (r : Bounds) (w' : List ℕ) : Type 0 where
  pub frame : OnlyIn BACKS SEGMENTS w w'
  pub backs : Backs (site_meant site) w' b (segment_in w l)
  pub least : (t : ℕ) → (segment_in w l).first ≤ t → t ≤ (segment_in w l).end → r.least ≤ back_in w' t
  pub most : (t : ℕ) → (segment_in w l).first ≤ t → t ≤ (segment_in w l).end → back_in w' t < FAR
      → suc (back_in w' t) ≤ r.most

-- ---- tasks

-- The segment with memory that has the value of the copies, or not, and `last` to pay behind it.
abbrev pub task_of : Site → Segment → Bool → ℕ → Bounds → Task
task_of site s same last r =
    record {
      owner = site.owner;
      end = s.end;
      closing = s.closing;
      reset = s.reset;
      same = same;
      later = eqb site.initial s.copy;
      writes = true;
      last = last;
      low = min last (r.least + 1);
      high = cond (ltb last FAR) (max last r.most) r.most;
    }

-- The segment without a write-back, and with a memory value that is not that of the copies.
abbrev pub keeping_of : Site → Segment → Task
keeping_of site s =
    record {
      owner = site.owner;
      end = s.end;
      closing = s.closing;
      reset = s.reset;
      same = false;
      later = eqb site.initial s.copy;
      writes = false;
      last = 0;
      low = 0;
      high = 0;
    }

-- ---- how far a segment goes without a silent step

-- From code c at gap t, at most l silent steps are to pay, without a move: the events lead to the last gap, or to one
-- where the copies are written back.
pub data Unmoved (q : Stretch) : (t c l : ℕ) → Type 0 where
  out : {t c l : ℕ} → t ≡ q.end → T (q.accepts c) → q.last ≤ l → Unmoved q t c l
  on : {t c l : ℕ} → t < q.end → T (enabled_at q.site (event (q.event t)) (state_at q t c))
      → Unmoved q (suc t) (effect q.site (event (q.event t)) (state_at q t c)).code l → Unmoved q t c l
  back : {t c l : ℕ} → T (has q.site.owner c) → q.back t < l → Unmoved q t c l

-- The events of the segment are known, and events of a stretch whose copies have its value.
pub record Seeable (site : Site) (s : Segment) (w : List ℕ) : Type 0 where
  pub room : WORDS ≤ length w
  pub owner : OneToSix site.owner.0
  pub order : s.first ≤ s.end
  pub few : s.end ≤ MOST
  pub code : s.code < 64
  pub known : (t : ℕ) → s.first ≤ t → t < s.end → Known (struct_in w t)
  pub inner : (t : ℕ) → s.first ≤ t → t < s.end → Inner s.copy (event_in w t)

-- A task of the segment in which memory has the value of the copies at every gap, or at none, and n steps are left to
-- pay after a write-back at each.
pub record Even (site : Site) (s : Segment) (w : List ℕ) (task : Task) (read : Bool) (n : ℕ) : Type 0 where
  pub owner : task.owner.0 ≡ site.owner.0
  pub end : task.end ≡ s.end
  pub closing : task.closing ≡ s.closing
  pub reads : (t : ℕ) → s.first ≤ t → t ≤ s.end → reads_at task t ≡ read
  pub backs : (t : ℕ) → s.first ≤ t → t ≤ s.end → back_at task w t ≡ n

-- What was seen says what is to pay without a move, in every such task.
pub record Seeing (site : Site) (s : Segment) (w : List ℕ) (r : Seen) : Type 0 where
  pub exact : {task : Task} {read : Bool} {n : ℕ} → Even site s w task read n → {q : Stretch}
      → Tasked task s.first w q → (l : ℕ)
      → Unmoved q s.first s.code l
      ↔ (((cond read r.same r.other ≡ true) × (q.last ≤ l)) ⊎ ((r.owned ≡ true) × (n < l)))

-- What is to pay with a write-back on the way, from the start of a segment without a reset, if n is left after it.
abbrev pub written_of : Segment → ℕ → Seen → ℕ
written_of s n seen = cond (eqb s.code 0) FAR (plus n (cond seen.owned 1 2))

-- The task of the segment with the value of its copies in memory. Without a reset, that is there behind it too.
pub record Sameable (site : Site) (s : Segment) (task : Task) (n : ℕ) (seen : Seen) (w : List ℕ) : Type 0 where
  pub ready : Ready task s.first w
  pub code : s.code < 64
  pub small : n ≤ FAR
  pub even : s.end ≤ s.reset → Even site s w task true n
  pub last : s.end ≤ s.reset → task.last ≡ n
  pub sight : Seeing site s w seen

-- ---- keeping a memory value

-- What keeping a memory value asks and leaves: the fewest steps of its task. A reset keeps none.
pub record Keepable (site : Site) (s : Segment) (below : ℕ) (w : List ℕ) : Type 0 where
  pub whole : s.end ≤ s.reset
  pub task : Ready (keeping_of site s) s.first w
  pub code : s.code < 64
  pub most : below ≤ FAR

pub record Keeps (site : Site) (s : Segment) (below : ℕ) (w : List ℕ) (r : ℕ) (w' : List ℕ) : Type 0 where
  pub frame : OnlyIn LEVELS BACKS w w'
  pub resets : s.reset < s.end → r ≡ FAR
  pub counts : s.end ≤ s.reset → (q : Stretch) → Tasked (keeping_of site s) s.first w q
      → Counted q s.first s.code below r

-- How much more one number is than another; FAR is more than any.
abbrev pub spared_of : ℕ → ℕ → ℕ
spared_of a b = cond (leb FAR a) FAR (a - b)

-- The number, if it is below the bound, else FAR.
abbrev pub only_below : ℕ → ℕ → ℕ
only_below n bound = cond (ltb n bound) n FAR

-- The task of the segment with another value in memory.
pub record Otherable (site : Site) (s : Segment) (task : Task) (n least : ℕ) (seen : Seen) (w : List ℕ) : Type 0 where
  pub ready : Ready task s.first w
  pub keeping : s.end ≤ s.reset → Ready (keeping_of site s) s.first w
  pub code : s.code < 64
  pub small : (n ≤ FAR) × (task.last ≤ FAR)
  pub even : s.end ≤ s.reset → Even site s w task false n
  pub spares : s.end ≤ s.reset → least ≤ task.last
  pub sight : Seeing site s w seen

-- What is to pay then, and what keeping the value costs.
pub record OthersOf (site : Site) (s : Segment) (task : Task) (least : ℕ) (w : List ℕ) (r : Others) (w' : List ℕ) :
    Type 0 where
  pub counts : (q : Stretch) → Tasked task s.first w q → Counted q s.first s.code FAR r.other
  pub keeps : Keeps site s (spared_of r.other least) w r.keep w'

-- ---- one segment more

-- The segments after l are weighed, and none of them costs less than `least` with any memory value.
pub record Weighable (site : Site) (b : Block) (l least : ℕ) (w : List ℕ) : Type 0 where
  pub room : WORDS ≤ length w
  pub owner : OneToSix site.owner.0
  pub here : l < b.count
  pub segmented : Segmented (site_meant site) w b l
  pub orderly : Orderly w b (suc l)
  pub means : Means (site_meant site) w b (suc l)
  pub bound : (m : Value) → least ≤ rest_from w b (suc l) m

-- The costs of segment l are there too. Only they, levels and what is left after write-backs have changed.
pub record Weighed (site : Site) (b : Block) (l : ℕ) (w : List ℕ) (r : ℕ) (w' : List ℕ) : Type 0 where
  pub sized : length w' ≡ length w
  pub below : OnlyIn LEVELS (SEGMENTS + 2 * l + 2) w w'
  pub segments : (j : ℕ) → segment_in w' j ≡ segment_in w j
  pub segmented : Segmented (site_meant site) w' b l
  pub orderly : Orderly w' b l
  pub means : Means (site_meant site) w' b l
  pub back : (costs_in w' l).back ≡ rest_from w' b (suc l) (segment_in w' l).copy
  pub least : (m : Value) → r ≤ rest_from w' b l m
