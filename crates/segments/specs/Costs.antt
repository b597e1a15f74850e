-- What the segments of a block cost from one of them on, by the memory value at its start, in numbers alone.
use Rattle.std.specs.Prelude.{min, ℕ, zero, suc, ◌+◌, ◌-◌, ◌≤◌, ◌<◌, Bool, true, cond, List, leb, eqb, Option, Some, None, is_some}
use Rattle.model.specs.Cxl0.{Value}
use Rattle.levels.specs.Stretches.{FAR}
use Rattle.segments.specs.Words.{segment_in, costs_in}
use Rattle.segments.specs.declared.words.Block.{Block}

-- The sum of two numbers, but no more than FAR.
abbrev pub plus : ℕ → ℕ → ℕ
plus a b = min (a + b) FAR

-- Memory has the value that must be read from it, if one must.
abbrev pub met : Option Value → Value → Bool
met None m = true
met (Some value) m = eqb m value

-- After the last segment there is nothing to pay; but where the block ends with a read of a value that must come from
-- memory, there is no run with another one.
abbrev pub ending : Block → Value → ℕ
ending b m = cond (met b.forced m) 0 FAR

-- The last d segments with memory value m. It is kept, and paid for, up to the next segment whose copies have it; or it
-- is as good as any value.
unfoldable pub rest_of : List ℕ → Block → Value → (d : ℕ) → ℕ
rest_of w b m zero = ending b m
rest_of w b m (suc d) =
    let l = b.count - suc d in
    cond (eqb m (segment_in w l).copy)
    (costs_in w l).same
    (min (costs_in w l).other (plus (costs_in w l).keep (rest_of w b m d)))

-- From segment l on.
abbrev pub rest_from : List ℕ → Block → ℕ → Value → ℕ
rest_from w b l m = rest_of w b m (b.count - l)

-- From segment l on, with a memory value that no event of the block reads.
abbrev pub other_from : List ℕ → Block → ℕ → ℕ
other_from w b l = cond (leb (suc l) b.count) (costs_in w l).other (cond (is_some b.forced) FAR 0)

-- No memory value is worse than one that is not read, from segment l on.
pub record Orderly (w : List ℕ) (b : Block) (l : ℕ) : Type 0 where
  pub same : (j : ℕ) → l ≤ j → j < b.count → (costs_in w j).same ≤ (costs_in w j).other
  pub other : (j : ℕ) → l ≤ j → j < b.count → (costs_in w j).other ≤ plus (costs_in w j).keep (other_from w b (suc j))
