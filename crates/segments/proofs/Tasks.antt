-- The tasks of a segment are those of its stretches, and their numbers are right.
use Prim.Native.Nat.{ℕ, suc, ◌≤◌, ◌<◌, zero-le, max}
use native.Mathlib.Nat.{le_refl, le_trans}
use native.Mathlib.Omega.{arith}
use mathlib.Core.Path.{◌≡◌, refl, ap}
use mathlib.Core.Bool.{Bool, true, false, cond}
use mathlib.Core.List.{List}
use borrow.Author.Tests.{lt-ltb}
use lib.Dec.{leb, ltb, eqb}
use lib.ListN.{length}
use Rattle.model.specs.Cxl0.{Value}
use Rattle.masks.specs.Sets.{OneToSix}
use Rattle.entries.specs.Entries.{site_meant}
use Rattle.entries.specs.declared.Site.{Site}
use Rattle.scratch.specs.Layout.{WORDS, MOST}
use Rattle.levels.specs.Stretches.{FAR}
use Rattle.levels.specs.Tasks.{back_in, accepting, Tasked, Ready}
use Rattle.segments.specs.declared.words.Segment.{Segment}
use Rattle.segments.specs.declared.words.Block.{Block}
use Rattle.segments.specs.declared.backing.Bounds.{Bounds}
use Rattle.segments.specs.Words.{segment_in}
use Rattle.segments.specs.Segments.{IsSegment, stretch_of}
use Rattle.segments.specs.Weighing.{task_of, keeping_of}
use Rattle.segments.proofs.Weighings.{kept_in}

-- The numbers that are left to pay after write-backs in segment l are within the bounds.
pub record Within (w : List ℕ) (l : ℕ) (r : Bounds) : Type 0 where
  pub least : (t : ℕ) → (segment_in w l).first ≤ t → t ≤ (segment_in w l).end → r.least ≤ back_in w t
  pub most : (t : ℕ) → (segment_in w l).first ≤ t → t ≤ (segment_in w l).end → back_in w t < FAR
      → suc (back_in w t) ≤ r.most

-- `high` is at least what is to pay behind the last gap, where that is a number of steps, and at least the bound of the
-- write-backs.
high_last : (last most : ℕ) → last < FAR → last ≤ cond (ltb last FAR) (max last most) most
high_last last most far = rw (lt-ltb last FAR far) (omega arith)

high_back : (near : Bool) (last most : ℕ) → most ≤ cond near (max last most) most
high_back true last most = omega arith
high_back false last most = le_refl most

-- Memory has the value of the copies where the task says so.
reads_of : (early same : Bool) (m u z : ℕ) → eqb m u ≡ same → eqb (cond early m z) u ≡ cond early same (eqb z u)
reads_of true same m u z e = e
reads_of false same m u z e = refl

module _ (site : Site) (b : Block) (l : ℕ) (w : List ℕ) (seg : IsSegment (site_meant site) w b l) where
  abbrev s : Segment
  s = segment_in w l

  -- The task with memory value m is that of the stretch with it.
  pub tasked_of : (r : Bounds) (last : ℕ) (same : Bool) (m : Value) → eqb m s.copy ≡ same
      → Tasked (task_of site s same last r) s.first w (stretch_of (site_meant site) w s m last)
  tasked_of r last same m e =
      record {
        owner = refl;
        end = refl;
        last = refl;
        events = λ t a h. refl;
        inner = seg.inner;
        backs = λ t a h. refl;
        reads = λ t a h. reads_of (leb t s.reset) same m s.copy site.initial e;
        accepts =
            λ c.
            ap (λ (reads : Bool). accepting s.closing reads c)
            (reads_of (leb s.end s.reset) same m s.copy site.initial e);
      }

  -- So it is where a value is kept.
  pub tasked_keeping : (m : Value) → eqb m s.copy ≡ false
      → Tasked (keeping_of site s) s.first w (kept_in (site_meant site) w l m)
  tasked_keeping m e =
      record {
        owner = refl;
        end = refl;
        last = refl;
        events = λ t a h. refl;
        inner = seg.inner;
        backs = λ t a h. refl;
        reads = λ t a h. reads_of (leb t s.reset) false m s.copy site.initial e;
        accepts =
            λ c.
            ap (λ (reads : Bool). accepting s.closing reads c)
            (reads_of (leb s.end s.reset) false m s.copy site.initial e);
      }

  module _ (room : WORDS ≤ length w) (owner : OneToSix site.owner.0) (short : b.end ≤ MOST) where
    -- The numbers of the task are right.
    pub ready_of : (r : Bounds) → Within w l r → (last : ℕ) (same : Bool) (m : Value) → eqb m s.copy ≡ same
        → Ready (task_of site s same last r) s.first w
    ready_of r within last same m e =
        record {
          room = room;
          order = seg.order;
          few = le_trans seg.inside short;
          owner = owner;
          known = seg.known;
          low_last = omega arith;
          low_back = λ t a h. omega (arith, within.least t a h);
          high_last = high_last last r.most;
          high_back =
              λ t a h far. le_trans (within.most t a h far) (high_back (ltb last FAR) last r.most);
          stretch = stretch_of (site_meant site) w s m last;
          tasked = tasked_of r last same m e;
        }

    pub ready_keeping : (m : Value) → eqb m s.copy ≡ false → Ready (keeping_of site s) s.first w
    ready_keeping m e =
        record {
          room = room;
          order = seg.order;
          few = le_trans seg.inside short;
          owner = owner;
          known = seg.known;
          low_last = le_refl 0;
          low_back = λ t a h. zero-le;
          high_last = λ far. le_refl 0;
          high_back = λ t a h far. absurd (omega arith);
          stretch = kept_in (site_meant site) w l m;
          tasked = tasked_keeping m e;
        }
