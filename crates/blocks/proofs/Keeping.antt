-- What noting steps and making new levels leave as it was: they change words from the list of steps on and below what
-- is left to pay after write-backs.
use Prim.Native.Nat.{ℕ, ◌+◌, ◌≤◌, ◌<◌}
use native.Mathlib.Nat.{le_refl, le_of_eq, lt_of_lt_of_le}
use native.Mathlib.Omega.{arith}
use mathlib.Core.Path.{◌≡◌, refl, sym, ap, ◌∙◌, subst}
use mathlib.Core.Logic.{◌↔◌}
use mathlib.Core.Bool.{cond}
use mathlib.Core.List.{List}
use Rattle.model.specs.Cxl0.{Value}
use Rattle.model.specs.OneLocation as one
use Rattle.entries.specs.Entries.{site_meant}
use Rattle.entries.specs.declared.Site.{Site}
use Rattle.rows.specs.Sites.{Known}
use Rattle.scratch.specs.Layout.{MOST, STEPS, BACKS, OnlyIn}
use Rattle.scratch.specs.Words.{event_in}
use Rattle.scratch.proofs.Frames.{get_or_above}
use Rattle.levels.specs.Stretches.{FAR, Stretch, Finishes, Inner}
use Rattle.levels.specs.Tasks.{back_in, back_at, Ready, Tasked}
use Rattle.levels.specs.declared.Task.{Task}
use Rattle.levels.proofs.Stretching.{Easier, monotone}
use Rattle.segments.specs.Words.{segment_in}
use Rattle.segments.specs.Segments.{Left, stretch_of, memory_at}
use Rattle.segments.specs.declared.words.Segment.{Segment}
use Rattle.segments.specs.declared.words.Block.{Block}
use Rattle.segments.proofs.Kept.{Kept, kept_between, kept_event, kept_left, kept_cost, kept_segment}
use Rattle.blocks.specs.Treading.{Payable}

-- What has changed from the one has changed from the other.
pub only_back : {from to : ℕ} {w w' : List ℕ} → OnlyIn from to w w' → OnlyIn from to w' w
only_back only = record { sized = sym only.sized; below = sym only.below; above = sym only.above }

-- ---- a task

module _ {from to : ℕ} {w w' : List ℕ} (only : OnlyIn from to w w') (low : STEPS ≤ from) (high : to ≤ BACKS) where
  -- Events and segments are as they were,
  pub kept_both : Kept w w'
  kept_both = kept_between only (omega arith) (omega arith)

  -- and so is what is left to pay after a write-back.
  pub back_same : (t : ℕ) → back_in w' t ≡ back_in w t
  back_same t = get_or_above only (BACKS + t) (omega arith)

  module _ (q : Task) (few : q.end ≤ MOST) where
    back_at_same : (t : ℕ) → back_at q w' t ≡ back_at q w t
    back_at_same t = ap (λ (n : ℕ). cond q.writes n FAR) (back_same t)

    event_same : (t : ℕ) → t < q.end → event_in w' t ≡ event_in w t
    event_same t h = kept_event kept_both t (lt_of_lt_of_le h few)

    -- A task is still that of the same stretches,
    pub tasked_same : {first : ℕ} {z : Stretch} → Tasked q first w z → Tasked q first w' z
    tasked_same {z = z} s =
        record {
          owner = s.owner;
          end = s.end;
          last = s.last;
          events = λ t a h. s.events t a h ∙ sym (event_same t h);
          inner = λ t a h. subst (Inner z.copy) (sym (event_same t h)) (s.inner t a h);
          backs = λ t a h. s.backs t a h ∙ sym (back_at_same t);
          reads = s.reads;
          accepts = s.accepts;
        }

    -- and its numbers are still right.
    pub ready_same : {first : ℕ} → Ready q first w → Ready q first w'
    ready_same r =
        record {
          room = rw only.sized r.room;
          order = r.order;
          few = few;
          owner = r.owner;
          known =
              λ t a h. subst Known (sym (kept_both.structs t (lt_of_lt_of_le h few))) (r.known t a h);
          low_last = r.low_last;
          low_back = λ t a h. rw (back_at_same t) (r.low_back t a h);
          high_last = r.high_last;
          high_back = λ t a h. rw (back_at_same t) (r.high_back t a h);
          stretch = r.stretch;
          tasked = tasked_same r.tasked;
        }

-- ---- the stretch of a segment

module _ {from to : ℕ} {w w' : List ℕ} (only : OnlyIn from to w w') (low : STEPS ≤ from) (high : to ≤ BACKS)
    (k : one.Site) (s : Segment) (m : Value) (last : ℕ) (short : s.end ≤ MOST)
    (inner : (t : ℕ) → s.first ≤ t → t < s.end → Inner s.copy (event_in w t)) where
  kept : Kept w w'
  kept = kept_both only low high

  easier : Easier s.first (stretch_of k w s m last) (stretch_of k w' s m last)
  easier =
      record {
        site = refl;
        copy = refl;
        end = refl;
        events = λ t a h. kept_event kept t (lt_of_lt_of_le h short);
        inner = inner;
        reads = λ t a h e. e;
        accepts = λ c v. v;
        last = le_refl last;
        back = λ t a h. le_of_eq (back_same only low high t);
      }

  -- It finishes wherever it did.
  finishes_still : (t c x : ℕ) → s.first ≤ t → t ≤ s.end
      → Finishes (stretch_of k w s m last) t c x → Finishes (stretch_of k w' s m last) t c x
  finishes_still t c x a h = monotone s.first (stretch_of k w s m last) (stretch_of k w' s m last) easier a h

-- ---- what a gap asks

module _ {from to : ℕ} {w w' : List ℕ} (only : OnlyIn from to w w') (low : STEPS ≤ from) (high : to ≤ BACKS)
    {site : Site} {b : Block} {l : ℕ} {m : Value} {q : Task} (p : Payable site b l m q w) where
  abbrev seg : Segment
  seg = segment_in w l

  abbrev here : one.Site
  here = site_meant site

  end_short : seg.end ≤ MOST
  end_short = omega (arith, p.segment.inside, p.short)

  few : q.end ≤ MOST
  few = rw p.end end_short

  inner_same : (t : ℕ) → seg.first ≤ t → t < seg.end → Inner seg.copy (event_in w' t)
  inner_same t a h =
      rw (kept_event (kept_both only low high) t (lt_of_lt_of_le h end_short)) (p.segment.inner t a h)

  -- The task is that of the stretch of the segment as it is now.
  stretch_tasked : Tasked q seg.first w' (stretch_of here w' seg m q.last)
  stretch_tasked =
      let s = p.tasked in
      record {
        owner = s.owner;
        end = s.end;
        last = s.last;
        events = λ t a h. refl;
        inner = rw p.end inner_same;
        backs = λ t a h. back_same only low high t ∙ s.backs t a h ∙ sym (back_at_same only low high q few t);
        reads = s.reads;
        accepts = s.accepts;
      }

  -- What is left to pay is still what the stretch says.
  links_same : (t c x : ℕ) → seg.first ≤ t → t ≤ seg.end → x < FAR
      → Finishes (stretch_of here w' seg m q.last) t c x
      ↔ Left here w' b.end t seg.copy c (memory_at here seg m t) x
  links_same t c x a h far =
      let kept = kept_both only low high in
      let forth = finishes_still only low high here seg m q.last end_short p.segment.inner t c x a h in
      let back = finishes_still (only_back only) low high here seg m q.last end_short inner_same t c x a h in
      let link = p.links t c x a h far in
      rw (kept_left kept here b.end t seg.copy c (memory_at here seg m t) x p.short)
      (λ f. link.0 (back f), λ v. forth (link.1 v))

  -- The task stays payable.
  pub payable_same : Payable site b l m q w'
  payable_same =
      let kept = kept_both only low high in
      let same = kept.segments l in
      record {
        room = rw only.sized p.room;
        owner = p.owner;
        short = p.short;
        here = λ j h. rw (kept_event kept j (lt_of_lt_of_le h p.short)) (p.here j h);
        segment = kept_segment kept here b l p.short p.segment;
        end = rw same p.end;
        ready = rw same (ready_same only low high q few p.ready);
        tasked = rw same stretch_tasked;
        backs = rw same (λ t a h. rw (back_same only low high t) (kept_cost kept p.short (p.backs t a h)));
        links = rw same links_same;
      }

  -- It was so before the change, too.
  pub tasked_before : Tasked q seg.first w (stretch_of here w' (segment_in w' l) m q.last)
  tasked_before =
      rw ((kept_both only low high).segments l) (tasked_same (only_back only) low high q few stretch_tasked)
