-- The words of the segments in the scratch area, two each: the segment, and what it costs.
use Rattle.std.specs.Prelude.{ℕ, ◌+◌, ◌*◌, ◌/◌, ◌%◌, ◌≤◌, ◌<◌, ◌≡◌, List, get_or}
use Rattle.scratch.specs.Layout.{SEGMENTS, OnlyIn}
use Rattle.scratch.specs.Words.{U32}
use Rattle.levels.specs.Stretches.{FAR}
use Rattle.levels.specs.Tasks.{closing_at}
use Rattle.segments.specs.declared.words.Segment.{Segment}
use Rattle.segments.specs.declared.words.Costs.{Costs}

-- The first word of segment l: the value of its copies in the lower half; above it a byte each for its first gap, its
-- last gap, its first code with 64 times how it closes, and its first reset.
abbrev pub segment_word : List ℕ → ℕ → ℕ
segment_word w l = get_or w (SEGMENTS + 2 * l) 0

unfoldable pub segment_in : List ℕ → ℕ → Segment
segment_in w l =
    record {
      copy = segment_word w l % U32;
      first = segment_word w l / U32 % 256;
      end = segment_word w l / U32 / 256 % 256;
      code = segment_word w l / U32 / 65536 % 64;
      closing = closing_at (segment_word w l / U32 / 65536 / 64 % 4);
      reset = segment_word w l / U32 / 65536 / 256 % 256;
    }

-- The second word: four numbers of 16 bits.
abbrev pub costs_word : List ℕ → ℕ → ℕ
costs_word w l = get_or w (SEGMENTS + 2 * l + 1) 0

unfoldable pub costs_in : List ℕ → ℕ → Costs
costs_in w l =
    record {
      keep = costs_word w l % 65536;
      other = costs_word w l / 65536 % 65536;
      same = costs_word w l / 65536 / 65536 % 65536;
      back = costs_word w l / 65536 / 65536 / 65536 % 65536;
    }

-- The numbers of a segment fit their bytes.
pub record SegmentFits (s : Segment) : Type 0 where
  pub first : s.first < 256
  pub end : s.end < 256
  pub code : s.code < 64
  pub reset : s.reset < 256

pub record CostsFit (c : Costs) : Type 0 where
  pub keep : c.keep ≤ FAR
  pub other : c.other ≤ FAR
  pub same : c.same ≤ FAR
  pub back : c.back ≤ FAR

-- Segment l is s, and no other word has changed; and so for its costs.
pub record SegmentPut (w : List ℕ) (l : ℕ) (s : Segment) (w' : List ℕ) : Type 0 where
  pub frame : OnlyIn (SEGMENTS + 2 * l) (SEGMENTS + 2 * l + 1) w w'
  pub stored : segment_in w' l ≡ s

pub record CostsPut (w : List ℕ) (l : ℕ) (c : Costs) (w' : List ℕ) : Type 0 where
  pub frame : OnlyIn (SEGMENTS + 2 * l + 1) (SEGMENTS + 2 * l + 2) w w'
  pub stored : costs_in w' l ≡ c
