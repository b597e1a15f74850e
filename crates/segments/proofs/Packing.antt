-- What is written of a segment reads back as itself, and no other word has changed.
use Prim.Native.Nat.{ℕ, ◌+◌, ◌*◌, ◌/◌, ◌%◌, ◌≤◌, ◌<◌}
use native.Mathlib.Omega.{arith}
use mathlib.Core.Path.{◌≡◌, refl, ap, ◌∙◌}
use Rattle.std.proofs.Common.{lit<}
use mathlib.Core.List.{List}
use lib.ListN.{length, get_or, set}
use lib.Seq.{get_or-set_same}
use denote.Enum.Declared.{tag_of}
use Rattle.levels.specs.contracts.Closing.{the_type}
use Rattle.levels.specs.declared.Closing.{Closing}
use Rattle.levels.specs.declared.Closing.TheVariants.{Open, Same, Other}
use Rattle.levels.specs.Tasks.{closing_at}
use Rattle.scratch.specs.Layout.{WORDS, MOST, SEGMENTS}
use Rattle.scratch.specs.Words.{U32}
use Rattle.scratch.proofs.Frames.{only_set}
use Rattle.segments.specs.Words.{segment_in, costs_in, SegmentFits, CostsFit, SegmentPut, CostsPut}
use Rattle.segments.specs.declared.words.Segment.{Segment}
use Rattle.segments.specs.declared.words.Costs.{Costs}

-- The number that `as` makes of how a segment closes stands for it, and has two bits.
closing_back : (k : Closing) → closing_at (tag_of the_type k) ≡ k
closing_back Open = refl
closing_back Same = refl
closing_back Other = refl

closing_small : (k : Closing) → tag_of the_type k < 4
closing_small Open = lit< tt
closing_small Same = lit< tt
closing_small Other = lit< tt

-- What stands in the upper half of a segment's word, and the word.
abbrev pub codes_packed : Segment → ℕ
codes_packed s = s.code + 64 * tag_of the_type s.closing + 256 * s.reset

abbrev pub above_packed : Segment → ℕ
above_packed s = s.first + 256 * s.end + 65536 * codes_packed s

abbrev pub segment_packed : Segment → ℕ
segment_packed s = s.copy + U32 * above_packed s

-- The word of the costs.
abbrev pub costs_packed : Costs → ℕ
costs_packed c = c.keep + 65536 * (c.other + 65536 * (c.same + 65536 * c.back))

-- The parts of the word of a segment, and of that of its costs.
segment_parts : (word : ℕ) (s : Segment) → SegmentFits s → s.copy < U32 → word ≡ segment_packed s
    → (word % U32 ≡ s.copy)
    × (word / U32 % 256 ≡ s.first)
    × (word / U32 / 256 % 256 ≡ s.end)
    × (word / U32 / 65536 % 64 ≡ s.code)
    × (word / U32 / 65536 / 64 % 4 ≡ tag_of the_type s.closing)
    × (word / U32 / 65536 / 256 % 256 ≡ s.reset)
segment_parts word s f u e =
    let small : tag_of the_type s.closing < 4 = closing_small s.closing in
    let above : word / U32 ≡ above_packed s = omega arith in
    let codes : word / U32 / 65536 ≡ codes_packed s = omega arith in
    (omega arith, omega arith, omega arith, omega arith, omega arith, omega arith)

costs_parts : (word : ℕ) (c : Costs) → CostsFit c → word ≡ costs_packed c
    → (word % 65536 ≡ c.keep)
    × (word / 65536 % 65536 ≡ c.other)
    × (word / 65536 / 65536 % 65536 ≡ c.same)
    × (word / 65536 / 65536 / 65536 % 65536 ≡ c.back)
costs_parts word c f e = (omega arith, omega arith, omega arith, omega arith)

module _ (w : List ℕ) (room : WORDS ≤ length w) (l : ℕ) (h : l ≤ MOST) where
  -- A segment that is put is there, and so are costs.
  pub segment_put : (s : Segment) → SegmentFits s → s.copy < U32
      → SegmentPut w l s (set w (SEGMENTS + 2 * l) (segment_packed s))
  unfolding segment_in
  segment_put s f u =
      let at = SEGMENTS + 2 * l in
      let word = segment_packed s in
      let read = get_or-set_same w at word 0 (omega arith) in
      let parts = segment_parts (get_or (set w at word) at 0) s f u read in
      let closing = ap closing_at parts.4 ∙ closing_back s.closing in
      record {
        frame = only_set at (at + 1) w at word (omega arith) (omega arith);
        stored = λ k. record {
          copy = parts.0 k;
          first = parts.1 k;
          end = parts.2 k;
          code = parts.3 k;
          closing = closing k;
          reset = parts.5 k;
        };
      }

  pub costs_put : (c : Costs) → CostsFit c → CostsPut w l c (set w (SEGMENTS + 2 * l + 1) (costs_packed c))
  unfolding costs_in
  costs_put c f =
      let at = SEGMENTS + 2 * l + 1 in
      let word = costs_packed c in
      let read = get_or-set_same w at word 0 (omega arith) in
      let parts = costs_parts (get_or (set w at word) at 0) c f read in
      record {
        frame = only_set at (SEGMENTS + 2 * l + 2) w at word (omega arith) (omega arith);
        stored = λ k. record { keep = parts.0 k; other = parts.1 k; same = parts.2 k; back = parts.3 k };
      }
