-- What the numbers of a task say of its stretches, and that a change of masks keeps them: it leaves the events and what
-- is left to pay after a write-back as they were.
use Prim.Native.Nat.{ℕ, suc, ◌+◌, ◌≤◌, ◌<◌}
use native.Mathlib.Nat.{lt_of_lt_of_le}
use native.Mathlib.Omega.{arith}
use mathlib.Core.Path.{◌≡◌, sym, ap, ◌∙◌, subst}
use mathlib.Core.Bool.{cond}
use mathlib.Core.List.{List}
use Rattle.masks.specs.Sets.{OneToSix}
use Rattle.rows.specs.Sites.{NamesSix, Known}
use Rattle.scratch.specs.Layout.{ROWS, MOST, BACKS, OnlyIn}
use Rattle.scratch.specs.Words.{event_in, struct_in}
use Rattle.scratch.proofs.Frames.{only_wider, get_or_above}
use Rattle.scratch.proofs.Events.{struct_same, event_same, known_machines}
use Rattle.levels.specs.declared.Task.{Task}
use Rattle.levels.specs.Stretches.{FAR, Stretch, Inner}
use Rattle.levels.specs.Tasks.{back_at, Tasked, Ready, OnlyLevels}

-- ---- numbers

module _ {task : Task} {from : ℕ} {w : List ℕ} {q : Stretch} (r : Ready task from w) (s : Tasked task from w q) where
  -- The gaps are those of the stretch.
  pub stretch_order : from ≤ q.end
  stretch_order = rw s.end r.order

  pub stretch_within : (t : ℕ) → t ≤ q.end → t ≤ task.end
  stretch_within t b = rw s.end at b

  -- The machines are among 1 to 6.
  pub stretch_owner : OneToSix q.site.owner
  stretch_owner = rw s.owner r.owner

  pub stretch_named : (t : ℕ) → from ≤ t → t < q.end → NamesSix (q.event t)
  stretch_named t a b =
      let inside = stretch_within (suc t) b in
      rw (s.events t a inside) (known_machines w t (r.known t a inside))

  -- `low` and `high` bound what is to pay.
  pub stretch_low_last : task.low ≤ q.last
  stretch_low_last = rw s.last r.low_last

  pub stretch_low_back : (t : ℕ) → from ≤ t → t ≤ q.end → task.low ≤ suc (q.back t)
  stretch_low_back t a b =
      let inside = stretch_within t b in
      rw (s.backs t a inside) (r.low_back t a inside)

  pub stretch_high_last : q.last < FAR → q.last ≤ task.high
  stretch_high_last = rw s.last r.high_last

  pub stretch_high_back : (t : ℕ) → from ≤ t → t ≤ q.end → q.back t < FAR → suc (q.back t) ≤ task.high
  stretch_high_back t a b =
      let inside = stretch_within t b in
      rw (s.backs t a inside) (r.high_back t a inside)

-- ---- a change of masks

module _ (task : Task) (from : ℕ) {w w' : List ℕ} (few : task.end ≤ MOST)
    (only : OnlyLevels from task.end w w') where
  -- Masks lie behind the events and before what is left to pay.
  wide : OnlyIn ROWS BACKS w w'
  wide = only_wider only (omega arith) (omega arith)

  pub struct_kept : (t : ℕ) → t < task.end → struct_in w' t ≡ struct_in w t
  struct_kept t h = struct_same wide t (lt_of_lt_of_le h few)

  pub event_kept : (t : ℕ) → t < task.end → event_in w' t ≡ event_in w t
  event_kept t h = event_same wide t (lt_of_lt_of_le h few)

  pub back_kept : (t : ℕ) → back_at task w' t ≡ back_at task w t
  back_kept t = ap (λ (b : ℕ). cond task.writes b FAR) (get_or_above wide (BACKS + t) (omega arith))

  -- The task is still that of the same stretches.
  pub tasked_kept : {q : Stretch} → Tasked task from w q → Tasked task from w' q
  tasked_kept {q} s =
      record {
        owner = s.owner;
        end = s.end;
        last = s.last;
        events = λ t a b. s.events t a b ∙ sym (event_kept t b);
        inner = λ t a b. subst (Inner q.copy) (sym (event_kept t b)) (s.inner t a b);
        backs = λ t a b. s.backs t a b ∙ sym (back_kept t);
        reads = s.reads;
        accepts = s.accepts;
      }

  -- And its numbers are still right.
  unfoldable pub ready_kept : Ready task from w → Ready task from w'
  ready_kept r =
      record {
        room = rw only.sized r.room;
        order = r.order;
        few = few;
        owner = r.owner;
        known = λ t a b. subst Known (sym (struct_kept t b)) (r.known t a b);
        low_last = r.low_last;
        low_back = λ t a b. rw (back_kept t) (r.low_back t a b);
        high_last = r.high_last;
        high_back = λ t a b. rw (back_kept t) (r.high_back t a b);
        stretch = r.stretch;
        tasked = tasked_kept r.tasked;
      }
