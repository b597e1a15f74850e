-- One segment more is weighed: what its stretches were found to cost is right, and so is what stood there before.
use Prim.Native.Nat.{ℕ, zero, suc, ◌+◌, ◌-◌, ◌*◌, ◌≤◌, ◌<◌, min}
use native.Mathlib.Nat.{le_refl, le_trans}
use native.Mathlib.Decide.{dec_le}
use native.Mathlib.Omega.{arith}
use mathlib.Core.Path.{◌≡◌, refl, ◌∙◌}
use mathlib.Core.Bool.{Bool, true, false, cond}
use mathlib.Core.List.{List}
use borrow.Author.Tests.{eq-eqb, ne_eqb, lt-ltb, le-ltb, le-leb}
use lib.Dec.{eqb, ltb}
use lib.ListN.{length}
use Rattle.model.specs.Cxl0.{Value}
use Rattle.model.specs.OneLocation as sites
use Rattle.entries.specs.Entries.{site_meant}
use Rattle.entries.specs.declared.Site.{Site}
use Rattle.scratch.specs.Layout.{WORDS, MOST, LEVELS, BACKS, SEGMENTS, OnlyIn}
use Rattle.scratch.specs.Words.{event_in}
use Rattle.scratch.proofs.Frames.{only_then, only_wider}
use Rattle.levels.specs.Stretches.{FAR}
use Rattle.levels.specs.declared.Task.{Task}
use Rattle.levels.specs.Tasks.{back_in, Tasked, Ready, Fewest}
use Rattle.levels.proofs.Stretching.{ending, dry}
use Rattle.levels.proofs.Tasks.{tasked_kept, ready_kept}
use Rattle.segments.specs.declared.words.Segment.{Segment}
use Rattle.segments.specs.declared.words.Block.{Block}
use Rattle.segments.specs.declared.words.Costs as costs
use Rattle.segments.specs.declared.backing.Bounds.{Bounds}
use Rattle.segments.specs.declared.seeing.Seen.{Seen}
use Rattle.segments.specs.declared.weighing.Others.{Others}
use Rattle.segments.specs.Words.{segment_in, CostsFit, CostsPut}
use Rattle.segments.specs.Costs.{plus, rest_from, other_from, Orderly}
use Rattle.segments.specs.Segments.{Costs, IsSegment, Means, Backs}
use Rattle.segments.specs.Segments.{stretch_of, cleared_of, again_of, behind_of}
use Rattle.segments.specs.Weighing.{Backable, Backed, task_of, keeping_of}
use Rattle.segments.specs.Weighing.{Seeable, Even, Seeing, Sameable, Otherable, OthersOf, Weighable, Weighed}
use Rattle.segments.proofs.Rests.{SameFrom, same_from, rests_same, others_same, orderly_same}
use Rattle.segments.proofs.Rests.{rest_far, rest_other, other_far}
use Rattle.segments.proofs.Kept.{Kept, kept_then, kept_between, kept_costs, kept_cost, kept_segment}
use Rattle.segments.proofs.Kept.{kept_segmented, kept_means}
use Rattle.segments.proofs.OneMore.{orderly_more, by_value, means_more}
use Rattle.segments.proofs.Drained.{costs_one, passes_same, costs_step}
use Rattle.segments.proofs.Closing.{left_behind, left_back}
use Rattle.segments.proofs.Weighings.{Found, RightCosts, found_right}
use Rattle.segments.proofs.Tasks.{Within, tasked_of, tasked_keeping, ready_of, ready_keeping}
use Rattle.segments.proofs.Cheapest.{even_kept, seeing_kept}

-- ---- numbers that fit

-- A code in a segment's word is one of 64.
pub segment_code : (w : List ℕ) (l : ℕ) → (segment_in w l).code < 64
unfolding segment_in
segment_code w l = omega arith

-- ---- the calls of `weigh`, one after another

-- The tasks of segment l with the value of its copies in memory, and with an unread value.
abbrev pub same_task : Site → Block → ℕ → List ℕ → Bounds → Task
same_task site b l w r =
    let s = segment_in w l in
    task_of site s true (behind_of s (cleared_of w b l s site.initial) (rest_from w b (suc l) s.copy)) r

abbrev pub other_task : Site → Block → ℕ → List ℕ → Bounds → Task
other_task site b l w r =
    let s = segment_in w l in
    task_of site s false (behind_of s (cleared_of w b l s site.initial) (other_from w b (suc l))) r

module _ {site : Site} {b : Block} {l least : ℕ} {w : List ℕ} (ok : Weighable site b l least w) where
  abbrev k : sites.Site
  k = site_meant site

  abbrev s : Segment
  s = segment_in w l

  -- What is to pay behind the segment: with the value of its copies in memory, with an unread one, and after a reset.
  abbrev back : ℕ
  back = rest_from w b (suc l) s.copy

  abbrev next : ℕ
  next = other_from w b (suc l)

  abbrev cleared : ℕ
  cleared = cleared_of w b l s site.initial

  segment : IsSegment k w b l
  segment = ok.segmented.each l (le_refl l) ok.here

  short : b.end ≤ MOST
  short = ok.segmented.short

  pub least_far : least ≤ FAR
  least_far = le_trans (ok.bound 0) (rest_far w b (suc l) 0)

  -- With an unread value nothing is cheaper.
  least_next : least ≤ next
  least_next = le_trans (ok.bound 0) (rest_other w b (suc l) ok.orderly 0)

  behind_far : behind_of s cleared next ≤ FAR
  behind_far = go (ltb s.reset s.end)
    where
      go : (t : Bool) → cond t (cond t (rest_from w b (suc l) site.initial) FAR) next ≤ FAR
      go true = rest_far w b (suc l) site.initial
      go false = other_far w b (suc l)

  -- What is left behind the last gap without a copy.
  pub backable : Backable site b l back (again_of s site.initial cleared) w
  backable =
      record {
        room = ok.room;
        short = short;
        segment = segment;
        here = left_back k w b l ok.means segment.closes;
        again =
            λ h. rw (lt-ltb s.reset s.end h) (left_behind k w b l ok.means segment.closes site.initial);
      }

  -- In the area v what is left to pay after write-backs stands.
  module _ {r : Bounds} {v : List ℕ} (backed : Backed site b l w r v) where
    kept_backs : Kept w v
    kept_backs = kept_between backed.frame (omega arith) (le_refl _)

    same_backs : SameFrom (suc l) w v
    same_backs = same_from backed.frame (suc l) (omega arith)

    segment_backs : IsSegment k v b l
    segment_backs = kept_segment kept_backs k b l short segment

    within : Within v l r
    within =
        record {
          least = rw (kept_backs.segments l) backed.least;
          most = rw (kept_backs.segments l) backed.most;
        }

    -- A bound of them is at most FAR.
    pub bounds_far : r.least ≤ FAR
    bounds_far =
        let first = (backed.backs s.first (le_refl _) segment.order).most in
        le_trans (backed.least s.first (le_refl _) segment.order) first

    room_backs : WORDS ≤ length v
    room_backs = rw backed.frame.sized ok.room

    -- The tasks of the segment are ready, and are those of its stretches.
    ready_task : (last : ℕ) (same : Bool) (m : Value) → eqb m s.copy ≡ same
        → Ready (task_of site s same last r) s.first v
    ready_task last same m e =
        rw (kept_backs.segments l)
        at (ready_of site b l v segment_backs room_backs ok.owner short r within last same m
        (rw (kept_backs.segments l) e))

    ready_kept_task : (m : Value) → eqb m s.copy ≡ false → Ready (keeping_of site s) s.first v
    ready_kept_task m e =
        rw (kept_backs.segments l)
        at (ready_keeping site b l v segment_backs room_backs ok.owner short m
        (rw (kept_backs.segments l) e))

    tasked_task : (last : ℕ) (same : Bool) (m : Value) → eqb m s.copy ≡ same
        → Tasked (task_of site s same last r) s.first v (stretch_of k v s m last)
    tasked_task last same m e =
        rw (kept_backs.segments l) at (tasked_of site b l v segment_backs r last same m
        (rw (kept_backs.segments l) e))

    tasked_kept_task : (m : Value) → eqb m s.copy ≡ false
        → Tasked (keeping_of site s) s.first v (ending (dry (stretch_of k v s m 0)) 0)
    tasked_kept_task m e =
        rw (kept_backs.segments l) at (tasked_keeping site b l v segment_backs m (rw (kept_backs.segments l) e))

    -- A memory value that is not that of the copies.
    another : eqb (suc s.copy) s.copy ≡ false
    another = ne_eqb (suc s.copy) s.copy (λ e. absurd (omega arith))

    -- It may be asked how far the segment goes without a silent step.
    pub seeable : Seeable site s v
    seeable =
        let here = kept_backs.segments l in
        record {
          room = room_backs;
          owner = ok.owner;
          order = segment.order;
          few = le_trans segment.inside short;
          code = segment_code w l;
          known = rw here at segment_backs.known;
          inner = rw here at segment_backs.inner;
        }

    -- Without a reset, what is left to pay after a write-back is the same at every gap.
    module _ (whole : s.end ≤ s.reset) where
      back_costs : (d t : ℕ) → s.first ≤ t → t + d ≡ s.end → Costs k v b.end t s.copy 0 s.copy back
      back_costs zero t a e =
          let last : t ≡ s.end = omega arith in
          rw last (kept_cost kept_backs short backable.here)
      back_costs (suc d) t a e =
          let here = kept_backs.segments l in
          let inside : t < s.end = omega arith in
          let inner = rw here at segment_backs.inner in
          let none = rw here at segment_backs.early in
          let passes = passes_same k s.copy (event_in v t) s.copy refl (inner t a inside) in
          let next = back_costs d (suc t) (omega arith) (omega arith) in
          costs_step k v b.end s.copy t (omega (arith, segment.inside)) (inner t a inside) s.copy passes
          (rw (none t a inside (omega arith)) next)

      even_back : (t : ℕ) → s.first ≤ t → t ≤ s.end → back_in v t ≡ back
      even_back t a h = costs_one (backed.backs t a h) (back_costs (s.end - t) t a (omega arith))

      even_task : (last : ℕ) (same : Bool) → Even site s v (task_of site s same last r) same back
      even_task last same =
          record {
            owner = refl;
            end = refl;
            closing = refl;
            reads = λ t a h. rw (le-leb t s.reset (le_trans h whole)) refl;
            backs = even_back;
          }

      -- What is to pay behind the segment then.
      whole_behind : (kept : ℕ) → behind_of s cleared kept ≡ kept
      whole_behind kept = rw (le-ltb s.reset s.end whole) refl

    pub sameable : {seen : Seen} → Seeing site s v seen → Sameable site s (same_task site b l w r) back seen v
    sameable sight =
        record {
          ready = ready_task (behind_of s cleared back) true s.copy (eq-eqb s.copy s.copy refl);
          code = segment_code w l;
          small = rest_far w b (suc l) s.copy;
          even = λ h. even_task h (behind_of s cleared back) true;
          last = λ h. whole_behind h back;
          sight = sight;
        }

    -- In the areas v1 and v2 masks have changed.
    module _ {same : ℕ} {v1 : List ℕ}
        (first : Fewest (same_task site b l w r) s.first s.code FAR v same v1) where
      few_gaps : s.end ≤ MOST
      few_gaps = le_trans segment.inside short

      pub otherable : {seen : Seen} → Seeing site s v seen
          → Otherable site s (other_task site b l w r) back least seen v1
      otherable sight =
          record {
            ready =
                ready_kept (other_task site b l w r) s.first few_gaps
                first.frame (ready_task (behind_of s cleared next) false (suc s.copy) another);
            keeping =
                λ h.
                ready_kept (keeping_of site s) s.first few_gaps first.frame
                (ready_kept_task (suc s.copy) another);
            code = segment_code w l;
            small = (rest_far w b (suc l) s.copy, behind_far);
            even = λ h. even_kept few_gaps first.frame (even_task h (behind_of s cleared next) false);
            spares = λ h. rw (whole_behind h next) least_next;
            sight = seeing_kept few_gaps first.frame sight;
          }

      module _ {others : Others} {v2 : List ℕ}
          (second : OthersOf site s (other_task site b l w r) least v1 others v2) where
        abbrev other : ℕ
        other = others.other

        abbrev keep : ℕ
        keep = others.keep

        abbrev numbers : costs.Costs
        numbers = record { keep = keep; other = other; same = same; back = back }

        -- They are found in the stretches of the segment.
        found : Found k v b l least numbers
        found =
            let here = kept_backs.segments l in
            let rest = rests_same same_backs b (suc l) (le_refl _) in
            let few = le_trans segment.inside short in
            record {
              same =
                  rw (here, rest s.copy, rest site.initial)
                  (first.counted (stretch_of k v s s.copy (behind_of s cleared back))
                  (tasked_task (behind_of s cleared back) true s.copy (eq-eqb s.copy s.copy refl)));
              other =
                  rw (here, others_same same_backs b (suc l) (le_refl _), rest site.initial)
                  (λ m ne.
                  second.counts (stretch_of k v s m (behind_of s cleared next))
                  (tasked_kept (other_task site b l w r) s.first few first.frame
                  (tasked_task (behind_of s cleared next) false m (ne_eqb m s.copy ne))));
              never = rw here second.keeps.resets;
              keep =
                  rw here
                  (λ h m ne.
                  second.keeps.counts h (ending (dry (stretch_of k v s m 0)) 0)
                  (tasked_kept (keeping_of site s) s.first few first.frame
                  (tasked_kept_task m (ne_eqb m s.copy ne))));
            }

        orderly_backs : Orderly v b (suc l)
        orderly_backs = orderly_same same_backs b ok.orderly

        means_backs : Means k v b (suc l)
        means_backs = kept_means kept_backs k b (suc l) short same_backs ok.means

        backs : Backs k v b (segment_in v l)
        backs = rw (kept_backs.segments l) backed.backs

        bound : (m : Value) → least ≤ rest_from v b (suc l) m
        bound m = rw (rests_same same_backs b (suc l) (le_refl _) m) (ok.bound m)

        right : RightCosts k v b l least numbers
        right = found_right k v b l least numbers segment_backs orderly_backs means_backs backs bound found

        -- There is room for them, and they fit their words.
        masks : OnlyIn LEVELS BACKS v v2
        masks =
            only_then (only_wider first.frame (omega arith) (omega (arith, segment.inside, short)))
            second.keeps.frame

        pub room_there : WORDS ≤ length v2
        room_there = rw masks.sized room_backs

        keep_far : keep ≤ FAR
        keep_far =
            let counts = rw (kept_backs.segments l) at found.keep in
            elim (dec_le s.end s.reset) [
              | yes h ↦ (counts h (suc s.copy) (λ e. absurd (omega arith))).most
              | no h ↦ omega (arith, second.keeps.resets (omega arith))
            ]

        pub numbers_fit : CostsFit numbers
        numbers_fit =
            record {
              keep = keep_far;
              other = (found.other (suc (segment_in v l).copy) (λ e. absurd (omega arith))).most;
              same = found.same.most;
              back = rest_far w b (suc l) s.copy;
            }

        -- In the area w' the costs stand.
        module _ {w' : List ℕ} (put : CostsPut v2 l numbers w') where
          kept_all : Kept v w'
          kept_all = kept_then (kept_between masks (omega arith) (omega arith)) (kept_costs l put.frame)

          changed : OnlyIn LEVELS (SEGMENTS + 2 * l + 2) v w'
          changed =
              only_then
              (only_wider masks (le_refl _) (omega arith))
              (only_wider put.frame (omega arith) (le_refl _))

          same_all : SameFrom (suc l) v w'
          same_all = same_from changed (suc l) (omega arith)

          pub weighed : Weighed site b l w (min (min same other) (plus keep least)) w'
          weighed =
              let some = by_value b kept_all same_all put.stored ok.here in
              let cost : Value → ℕ → Type 0 =
              Costs k v b.end (segment_in v l).first (segment_in v l).copy (segment_in v l).code
              in
              let bound_here = min (min same other) (plus keep least) in
              record {
                sized = changed.sized ∙ backed.frame.sized;
                below = only_then (only_wider backed.frame (omega arith) (omega arith)) changed;
                segments = (kept_then kept_backs kept_all).segments;
                segmented = kept_segmented (kept_then kept_backs kept_all) ok.segmented;
                orderly =
                    orderly_more b kept_all same_all put.stored ok.here orderly_backs
                    right.order right.kept;
                means =
                    means_more b kept_all same_all put.stored ok.here k short means_backs
                    (some cost right.same right.other);
                back =
                    rw (
                      put.stored,
                      rests_same same_all b (suc l) (le_refl _) (segment_in w' l).copy,
                      rests_same same_backs b (suc l) (le_refl _) (segment_in w' l).copy,
                      kept_all.segments l,
                      kept_backs.segments l,
                    );
                least =
                    some (λ (m n : ℕ). bound_here ≤ n) right.least_same (λ m ne. right.least_other m);
              }
