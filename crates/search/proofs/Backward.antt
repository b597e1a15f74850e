-- The pass for the rows, event by event from the last one.
use Prim.Native.Nat.{ℕ, suc, ◌+◌, ◌*◌, ◌%◌, ◌≤◌, ◌<◌}
use native.Mathlib.Nat.{eq-or-lt_of_le, le_refl}
use native.Mathlib.Decide.{dec_le}
use native.Mathlib.Omega.{arith}
use mathlib.Core.Path.{◌≡◌, refl, sym, ap, ◌∙◌, subst}
use mathlib.Core.Logic.{⊎_elim}
use mathlib.Core.List.{List}
use lib.ListN.{drop}
use Rattle.model.specs.Cxl0.{Location}
use Rattle.rows.specs.declared.Row.{Row}
use Rattle.entries.specs.declared.Site.{Site}
use Rattle.rows.specs.Rows.{last_row}
use Rattle.rows.specs.Sites.{copy_after}
use Rattle.rows.specs.Steps.{Stepped}
use Rattle.rows.proofs.Rows.{last_right, last_closed}
use Rattle.scratch.specs.Layout.{ROWS, STEPS, MOST}
use Rattle.scratch.specs.Words.{U32, event_in, events_in, row_in, copy_in, RowPut}
use Rattle.walking.specs.StepsBack.{Copies, Answers, Ready, Steppable, OnlyRows}
use Rattle.scratch.proofs.Frames.{only_none, only_then, only_wider, get_or_below, get_or_above}
use Rattle.scratch.proofs.Events.{struct_same, event_same, events_drop, events_drop_all, copies_suc}

-- ---- what a row leaves as it was

pub rows_none : (w : List ℕ) → OnlyRows w w
rows_none w = record { frame = only_none ROWS STEPS w; copies = λ t. refl }

pub rows_then : {w w' w'' : List ℕ} → OnlyRows w w' → OnlyRows w' w'' → OnlyRows w w''
rows_then p q = record { frame = only_then p.frame q.frame; copies = λ t. q.copies t ∙ p.copies t }

module _ {t : ℕ} {row : Row} {w w' : List ℕ} (put : RowPut w t row w') where
  copy_kept : (d : ℕ) → copy_in w' d ≡ copy_in w d
  unfolding copy_in
  copy_kept d =
      ap (λ (v : ℕ). v % U32)
      (elim (dec_le t d) [
        | yes b ↦ get_or_above put.frame (ROWS + 4 * d + 3) (omega arith)
        | no b ↦ get_or_below put.frame (ROWS + 4 * d + 3) (omega arith)
      ])

  rows_put : t ≤ MOST → OnlyRows w w'
  rows_put h = record { frame = only_wider put.frame (omega arith) (omega arith); copies = copy_kept }

  -- The rows after it are as they were.
  row_kept : (d : ℕ) → t < d → row_in w' d ≡ row_in w d
  unfolding row_in
  row_kept d h =
      simp (
        get_or_above put.frame (ROWS + 4 * d) (omega arith),
        get_or_above put.frame (ROWS + 4 * d + 1) (omega arith),
        get_or_above put.frame (ROWS + 4 * d + 2) (omega arith),
      )

-- ---- the pass

-- The row answers for the events from event t on.
abbrev pub From : Site → ℕ → List ℕ → ℕ → Row → Type 0
From s m w t row = Answers s (drop t (events_in w m)) (copy_in w t) row

-- The pass has come to row t: the rows after it are written, and it is `row`.
pub record Written (s : Site) (m t : ℕ) (w w' : List ℕ) (row : Row) : Type 0 where
  pub bound : t ≤ m
  pub frame : OnlyRows w w'
  pub rows : (d : ℕ) → t < d → d ≤ m → From s m w d (row_in w' d)
  pub here : From s m w t row

-- It begins with the last row.
pub written_none : (s : Site) (m : ℕ) (w : List ℕ) → Written s m m w w last_row
written_none s m w =
    record {
      bound = le_refl m;
      frame = rows_none w;
      rows = λ d h l. absurd (omega arith);
      here = record {
        closed = last_closed (copy_in w m);
        right = λ sys d. rw (events_drop_all w m) (last_right sys s.location.0 (copy_in w m));
      };
    }

-- The copies after an event are those before the next.
pub copy_next : (x : Location) (m : ℕ) (w : List ℕ) → Copies x m w → (t : ℕ) → t < m
    → copy_after x (copy_in w t) (event_in w t) ≡ copy_in w (suc t)
copy_next x m w copies t h = rw (copies t (omega arith), copies (suc t) h) (sym (copies_suc w x t))

-- Row t is put.
module _ {s : Site} {m t : ℕ} {w w' w'' : List ℕ} {row : Row} (ready : Ready s m w)
    (written : Written s m t w w' row) (put : RowPut w' t row w'') where
  frame_put : OnlyRows w w''
  frame_put = rows_then written.frame (rows_put put (omega (arith, ready.few, written.bound)))

  answers_put : (d : ℕ) → t ≤ d → d ≤ m → From s m w d (row_in w'' d)
  answers_put d l h =
      ⊎_elim
      (λ e. subst (λ (k : ℕ). From s m w k (row_in w'' k)) e (rw put.stored written.here))
      (λ b. rw (row_kept put d b) (written.rows d b h))
      (eq-or-lt_of_le l)

  -- Event d comes before row t.
  module _ {d : ℕ} (next : t ≡ suc d) where
    below : d < m
    below = omega (arith, written.bound)

    same : event_in w'' d ≡ event_in w d
    same = event_same frame_put.frame d (omega (arith, ready.few, written.bound))

    after : copy_after s.location.0 (copy_in w d) (event_in w d) ≡ copy_in w (suc d)
    after = copy_next s.location.0 m w ready.copies d below

    rest : From s m w (suc d) row
    rest = rw next at written.here

    -- The event can be put in front of the row.
    pub steppable : Steppable s d w'' row
    steppable =
        record {
          room = omega (arith, ready.room, frame_put.frame.sized);
          few = omega (arith, ready.few, below);
          owner = ready.owner;
          known = rw (struct_same frame_put.frame d (omega (arith, ready.few, below))) (ready.known d below);
          closed = rw (frame_put.copies d, same, after) rest.closed;
        }

    -- The event is put in front of the row.
    pub written_more : {first : Row} → Stepped s (event_in w'' d) (copy_in w'' d) row first
        → Written s m d w w'' first
    written_more stepped =
        let step = rw (same, frame_put.copies d) at stepped in
        record {
          bound = omega (arith, below);
          frame = frame_put;
          rows = λ k l h. answers_put k (omega arith) h;
          here = record {
            closed = step.closed;
            right = λ sys a. rw (events_drop w d m below)
                (step.right sys a (drop (suc d) (events_in w m)) (rw after (rest.right sys a)));
          };
        }
