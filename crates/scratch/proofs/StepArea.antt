-- What changes from the list of steps on leaves the events, the rows and the copies as they were.
use Prim.Native.Nat.{ℕ, ◌+◌, ◌*◌, ◌≤◌, ◌<◌}
use native.Mathlib.Nat.{le_refl}
use native.Mathlib.Omega.{arith}
use mathlib.Core.Path.{◌≡◌}
use mathlib.Core.List.{List}
use lib.ListN.{get_or}
use Rattle.scratch.specs.Layout.{ROWS, STEPS, MOST, OnlyIn}
use Rattle.scratch.specs.Words.{event_in, events_in, row_in, copy_in, struct_in}
use Rattle.scratch.proofs.Frames.{only_wider, get_or_below}
use Rattle.scratch.proofs.Events.{struct_same, event_same, events_same}

module _ {from to : ℕ} {w w' : List ℕ} (only : OnlyIn from to w w') (h : STEPS ≤ from) where
  -- Each word before the steps is as it was.
  word_kept : (n : ℕ) → n < STEPS → get_or w' n 0 ≡ get_or w n 0
  word_kept n l = get_or_below only n (omega arith)

  events_apart : OnlyIn ROWS to w w'
  events_apart = only_wider only (omega arith) (le_refl to)

  pub struct_kept : (j : ℕ) → j < MOST → struct_in w' j ≡ struct_in w j
  struct_kept j l = struct_same events_apart j l

  pub event_kept : (j : ℕ) → j < MOST → event_in w' j ≡ event_in w j
  event_kept j l = event_same events_apart j l

  pub events_kept : (m : ℕ) → m ≤ MOST → events_in w' m ≡ events_in w m
  events_kept m l = events_same events_apart m l

  pub row_kept : (t : ℕ) → t ≤ MOST → row_in w' t ≡ row_in w t
  unfolding row_in
  row_kept t l =
      let at = ROWS + 4 * t in
      simp (word_kept at (omega arith), word_kept (at + 1) (omega arith), word_kept (at + 2) (omega arith))

  pub copy_kept : (t : ℕ) → t ≤ MOST → copy_in w' t ≡ copy_in w t
  unfolding copy_in
  copy_kept t l = simp (word_kept (ROWS + 4 * t + 3) (omega arith))
