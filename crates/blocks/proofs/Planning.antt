-- The task of a segment in the walk: what is left to pay after write-backs and behind the segment is right.
use Prim.Native.Nat.{ℕ, suc, zero-le, ◌+◌, ◌-◌, ◌≤◌, ◌<◌}
use native.Mathlib.Nat.{le_refl, le_trans}
use native.Mathlib.Omega.{arith}
use mathlib.Core.Path.{◌≡◌, refl}
use mathlib.Core.List.{List}
use borrow.Author.Tests.{lt-ltb}
use lib.Dec.{eqb}
use lib.ListN.{length}
use Rattle.model.specs.Cxl0.{Value}
use Rattle.model.specs.OneLocation as model
use Rattle.entries.specs.Entries.{site_meant}
use Rattle.entries.specs.declared.Site.{Site}
use Rattle.scratch.specs.Layout.{WORDS, MOST, ROWS, SEGMENTS, OnlyIn}
use Rattle.levels.specs.Stretches.{FAR}
use Rattle.levels.specs.declared.Task.{Task}
use Rattle.segments.specs.Words.{segment_in, costs_in}
use Rattle.segments.specs.Costs.{rest_from, Orderly}
use Rattle.segments.specs.Segments.{IsSegment, Means, Backs}
use Rattle.segments.specs.Segments.{memory_at, cleared_of, again_of, behind_of}
use Rattle.segments.specs.Weighing.{Restable, Backable, Backed, task_of}
use Rattle.segments.specs.declared.words.Segment.{Segment}
use Rattle.segments.specs.declared.words.Block.{Block}
use Rattle.segments.specs.declared.backing.Bounds.{Bounds}
use Rattle.segments.proofs.Rests.{SameFrom, same_from, rests_same}
use Rattle.segments.proofs.Closing.{behind_right, left_behind, left_back}
use Rattle.segments.proofs.Links.{finishes_left, behind_memory}
use Rattle.segments.proofs.Kept.{kept_between, kept_event, kept_events}
use Rattle.segments.proofs.Tasks.{Within, tasked_of, ready_of}
use Rattle.blocks.specs.Treading.{Payable}
use Rattle.blocks.specs.Blocks.{between, Numbered, Planned, Ahead}
use Rattle.blocks.specs.declared.treading.Stand.{Stand}
use Rattle.blocks.proofs.Pricing.{kept_costed}

-- What is orderly from the first segment on is so from each one on.
orderly_from : {w : List ℕ} {b : Block} → Orderly w b 0 → (l : ℕ) → Orderly w b l
orderly_from o l = record { same = λ j a. o.same j zero-le; other = λ j a. o.other j zero-le }

-- What is to pay behind segment l with memory value m at its first gap, and its task.
abbrev pub last_of : Site → Block → ℕ → Value → List ℕ → ℕ
last_of site b l m w =
    behind_of (segment_in w l) (cleared_of w b l (segment_in w l) site.initial) (rest_from w b (suc l) m)

abbrev pub task_in : Site → Block → ℕ → Value → Bounds → List ℕ → Task
task_in site b l m r w = task_of site (segment_in w l) (eqb m (segment_in w l).copy) (last_of site b l m w) r

-- ---- the task

module _ {site : Site} {b : Block} {l : ℕ} {w : List ℕ} (at : Numbered site b l w) where
  abbrev k : model.Site
  k = site_meant site

  abbrev s : Segment
  s = segment_in w l

  pub segment : IsSegment k w b l
  segment = at.costed.laid.segmented.each l zero-le at.number

  pub short : b.end ≤ MOST
  short = at.costed.laid.segmented.short

  means : Means k w b (suc l)
  means j a = at.costed.means j zero-le

  pub few : l ≤ MOST
  few = omega (arith, at.number, at.costed.laid.segmented.few)

  pub room : WORDS ≤ length w
  room = at.costed.laid.room

  pub restable : Restable w b (l + 1)
  restable =
      record {
        room = room;
        few = at.costed.laid.segmented.few;
        here = omega (arith, at.number);
        orderly = orderly_from at.costed.orderly (l + 1);
      }

  -- After a reset there is to pay what is cleared.
  cleared_reset : s.reset < s.end → cleared_of w b l s site.initial ≡ rest_from w b (suc l) site.initial
  cleared_reset h = rw (lt-ltb s.reset s.end h)

  -- What is to pay behind the last gap is right, also without a copy.
  pub backable : Backable site b l (costs_in w l).back (again_of s site.initial (cleared_of w b l s site.initial)) w
  backable =
      record {
        room = room;
        short = short;
        segment = segment;
        here = rw (at.costed.backs l at.number) (left_back k w b l means segment.closes);
        again = λ h. rw (cleared_reset h) (left_behind k w b l means segment.closes site.initial);
      }

  -- Where the numbers after write-backs are in the area, with their bounds, the task says what is left to pay.
  payable : (r : Bounds) → Backs k w b s → Within w l r → (m : Value) → Payable site b l m (task_in site b l m r w) w
  payable r backs within m =
      let last = last_of site b l m w in
      let lasts = behind_right k w b l means segment.closes (memory_at k s m s.end) in
      record {
        room = room;
        owner = at.costed.laid.owner;
        short = short;
        here = at.here;
        segment = segment;
        end = refl;
        ready =
            ready_of site b l w segment room at.costed.laid.owner short r within last (eqb m s.copy) m refl;
        tasked = tasked_of site b l w segment r last (eqb m s.copy) m refl;
        backs = backs;
        links = finishes_left k w b l segment m last backs (rw (behind_memory k w b l segment m) at lasts);
      }

-- ---- in an area where the segments and the events are as they were

module _ {from to : ℕ} {w w' : List ℕ} (only : OnlyIn from to w w') (low : ROWS ≤ from) (high : to ≤ SEGMENTS) where
  same_area : SameFrom 0 w w'
  same_area = same_from only 0 (omega arith)

  pub same_segment : (l : ℕ) → segment_in w' l ≡ segment_in w l
  same_segment l = same_area.segment l zero-le

  same_rest : (b : Block) (l : ℕ) (m : Value) → rest_from w' b l m ≡ rest_from w b l m
  same_rest b l m = rests_same same_area b l zero-le m

  pub same_between : (t n : ℕ) → n ≤ MOST → between w' t n ≡ between w t n
  same_between t n few = kept_events (kept_between only low high) t (n - t) (λ h. omega arith)

  kept_numbered : {site : Site} {b : Block} {l : ℕ} → Numbered site b l w → Numbered site b l w'
  kept_numbered at =
      let few = short at in
      record {
        costed = kept_costed only low high at.costed;
        known = λ j h. rw ((kept_between only low high).structs j (omega arith)) (at.known j h);
        here = λ j h. rw (kept_event (kept_between only low high) j (omega arith)) (at.here j h);
        number = at.number;
      }

  pub kept_ahead : {site : Site} {b : Block} {l : ℕ} {p : Stand} → Ahead site b l p w → Ahead site b l p w'
  kept_ahead {b = b} {l} {p} at =
      record {
        numbered = kept_numbered at.numbered;
        code = rw (same_segment l) at.code;
        steps = rw (same_rest b l p.memory) at.steps;
        finite = at.finite;
        low = at.low;
        space = at.space;
      }

-- ---- the numbers after write-backs are filled in

module _ {site : Site} {b : Block} {l : ℕ} {w : List ℕ} (at : Numbered site b l w) {r : Bounds} {w' : List ℕ}
    (filled : Backed site b l w r w') where
  pub least_bound : r.least ≤ FAR
  least_bound =
      let order = (segment at).order in
      let first = (s at).first in
      le_trans (filled.least first (le_refl _) order) (filled.backs first (le_refl _) order).most

  pub planned : (m : Value) → Planned site b l m w (task_in site b l m r w) w'
  planned m =
      let only = filled.frame in
      let same = same_segment only (omega arith) (le_refl _) l in
      let within : Within w' l r = record { least = rw same filled.least; most = rw same filled.most } in
      let rest = same_rest only (omega arith) (le_refl _) b (suc l) in
      let there = kept_numbered only (omega arith) (le_refl _) at in
      record {
        frame = only;
        payable =
            rw (same, rest m, rest site.initial) at (payable there r (rw same filled.backs) within m);
      }
