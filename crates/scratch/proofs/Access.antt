-- What is written to the scratch area reads back as itself, and no other word has changed.
use Prim.Native.Nat.{ℕ, ◌+◌, ◌*◌, ◌/◌, ◌%◌, ◌≤◌, ◌<◌}
use native.Mathlib.Omega.{arith}
use mathlib.Core.Path.{◌≡◌, ◌∙◌}
use mathlib.Core.List.{List}
use lib.ListN.{length, get_or, set, length-set}
use lib.Seq.{get_or-set_same, get_or-set_other}
use Rattle.model.specs.Cxl0.{Value}
use Rattle.rows.specs.declared.Row.{Row}
use Rattle.scratch.specs.declared.Waypoint.{Waypoint}
use Rattle.scratch.specs.Layout.{ROWS, WAYPOINTS, WORDS, MOST, OnlyIn}
use Rattle.scratch.specs.Words.{U32, pair_at, row_in, copy_in, waypoint_in, RowPut, CopyPut, WaypointPut}
use Rattle.scratch.proofs.Frames.{only_set, only_then}

-- Two words that are written one after the other: how they read, and that they are all that has changed.
module _ (w : List ℕ) (i a b : ℕ) where
  abbrev two : List ℕ
  two = pair_at i a b w

  pub two_read : i + 1 < length w → (get_or two i 0 ≡ a) × (get_or two (i + 1) 0 ≡ b)
  two_read h = (
    get_or-set_other (set w i a) (i + 1) i b 0 (omega arith) ∙ get_or-set_same w i a 0 (omega arith),
    get_or-set_same (set w i a) (i + 1) b 0 (rw (length-set w i a) h),
  )

  pub two_only : (to : ℕ) → i + 2 ≤ to → OnlyIn i to w two
  two_only to h =
      only_then (only_set i to w i a (omega arith) (omega arith))
      (only_set i to (set w i a) (i + 1) b (omega arith) (omega arith))

-- The parts of a place's word.
waypoint_parts : (word c m end : ℕ) → c < 256 → m < U32 → word ≡ c + 256 * m + 256 * U32 * end
    → (word % 256 ≡ c) × (word / 256 % U32 ≡ m) × (word / (256 * U32) ≡ end)
waypoint_parts word c m end p q e = (omega arith, omega arith, omega arith)

module _ (w : List ℕ) (room : WORDS ≤ length w) where
  pub row_put : (t : ℕ) (row : Row) → t ≤ MOST → row.value < U32
      → RowPut w t row (set (pair_at (ROWS + 4 * t) row.any row.one w) (ROWS + 4 * t + 2) row.value)
  unfolding row_in
  row_put t row h v =
      let at = ROWS + 4 * t in
      let w' = pair_at at row.any row.one w in
      let read = two_read w at row.any row.one (omega arith) in
      let last = get_or-set_same w' (at + 2) row.value 0 (simp length-set (omega arith)) in
      let w'' = set w' (at + 2) row.value in
      let third : get_or w'' (at + 2) 0 % U32 ≡ row.value = omega (arith, last) in
      record {
        frame = only_then (two_only w at row.any row.one (at + 3) (omega arith))
            (only_set at (at + 3) w' (at + 2) row.value (omega arith) (omega arith));
        stored = λ k. record {
          any = (get_or-set_other w' (at + 2) at row.value 0 (omega arith) ∙ read.0) k;
          one = (get_or-set_other w' (at + 2) (at + 1) row.value 0 (omega arith) ∙ read.1) k;
          value = third k;
        };
      }

  pub copy_put : (t : ℕ) (u : Value) → t ≤ MOST → u < U32 → CopyPut w t u (set w (ROWS + 4 * t + 3) u)
  unfolding copy_in
  copy_put t u h v =
      let at = ROWS + 4 * t + 3 in
      record {
        frame = only_set at (ROWS + 4 * t + 4) w at u (omega arith) (omega arith);
        stored = omega (arith, get_or-set_same w at u 0 (omega arith));
      }

  pub waypoint_put : (t : ℕ) (p : Waypoint) → t < MOST → p.code < 256 → p.memory < U32
      → WaypointPut w t p (set w (WAYPOINTS + t) (p.code + 256 * p.memory + 256 * U32 * p.end))
  unfolding waypoint_in
  waypoint_put t p h c m =
      let at = WAYPOINTS + t in
      let word = p.code + 256 * p.memory + 256 * U32 * p.end in
      let read = get_or-set_same w at word 0 (omega arith) in
      let parts = waypoint_parts (get_or (set w at word) at 0) p.code p.memory p.end c m read in
      record {
        frame = only_set at (at + 1) w at word (omega arith) (omega arith);
        stored = λ k. record { code = parts.0 k; memory = parts.1 k; end = parts.2 k };
      }
