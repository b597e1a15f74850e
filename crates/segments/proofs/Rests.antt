-- What is to pay from a segment on, in numbers: it is at most FAR, at most what an unread memory value costs, and kept
-- where its words are; and the sum of what is paid to keep a value, segment by segment.
use Prim.Native.Nat.{ℕ, zero, suc, ◌+◌, ◌-◌, ◌*◌, ◌≤◌, ◌<◌, min}
use native.Mathlib.Nat.{le_refl}
use native.Mathlib.Numerals.{add-one}
use native.Mathlib.Omega.{arith}
use mathlib.Core.Path.{◌≡◌, refl, ◌∙◌}
use mathlib.Core.Logic.{◌⊎◌, inl, inr, ⊎_elim}
use mathlib.Core.Bool.{Bool, true, false, cond}
use mathlib.Core.List.{List}
use lib.Dec.{leb, eqb, leb→le, nleb→lt, eqb→eq}
use borrow.Author.Tests.{le-leb, lt-leb, eq-eqb, ne_eqb}
use Rattle.model.specs.Cxl0.{Value}
use Rattle.model.proofs.Tests.{by_test, ne_test}
use Rattle.scratch.specs.Layout.{SEGMENTS, OnlyIn}
use Rattle.scratch.proofs.Frames.{get_or_below, get_or_above}
use Rattle.levels.specs.Stretches.{FAR}
use Rattle.segments.specs.Words.{segment_in, costs_in, CostsFit}
use Rattle.std.proofs.Common.{Option, Some, None, is_some}
use Rattle.segments.specs.Costs.{plus, met, ending, rest_of, rest_from, other_from, Orderly}
use Rattle.segments.specs.declared.words.Block.{Block}

-- ---- the lesser number, and sums up to FAR

pub plus_far : (a b : ℕ) → plus a b ≤ FAR
plus_far a b = omega arith

pub plus_assoc : (a b c : ℕ) → plus (plus a b) c ≡ plus a (plus b c)
plus_assoc a b c = omega arith

-- A sum that is no less than a number may be left out where the lesser is taken with that number.
least_sum : (n a b c : ℕ) → n ≤ plus a b → min n (plus a (min b c)) ≡ min n (plus a c)
least_sum n a b c h =
    omega arith

-- ---- numbers are at most FAR

-- The costs of a segment are numbers of 16 bits.
pub costs_fit : (w : List ℕ) (l : ℕ) → CostsFit (costs_in w l)
unfolding costs_in
costs_fit w l = record { keep = omega arith; other = omega arith; same = omega arith; back = omega arith }

test_far : (b : Bool) → cond b FAR 0 ≤ FAR
test_far true = omega arith
test_far false = omega arith

pub ending_far : (b : Block) (m : Value) → ending b m ≤ FAR
ending_far b m = go (met b.forced m)
  where
    go : (reads : Bool) → cond reads 0 FAR ≤ FAR
    go true = omega arith
    go false = omega arith

pub other_far : (w : List ℕ) (b : Block) (l : ℕ) → other_from w b l ≤ FAR
other_far w b l =
    by_test (leb (suc l) b.count)
    (λ t. rw (le-leb (suc l) b.count (leb→le _ _ t)) (costs_fit w l).other)
    (λ t. rw (lt-leb (suc l) b.count (nleb→lt _ _ t)) (test_far (is_some b.forced)))

-- The end asks no more of a value than of one that is not read.
ending_least : (forced : Option Value) (m : Value) → cond (met forced m) 0 FAR ≤ cond (is_some forced) FAR 0
ending_least None m = le_refl 0
ending_least (Some value) m = go (eqb m value)
  where
    go : (reads : Bool) → cond reads 0 FAR ≤ FAR
    go true = omega arith
    go false = omega arith

-- ---- the segment at hand

module _ (w : List ℕ) (b : Block) where
  -- From a segment on with an unread value, and after the last one.
  pub other_here : (l : ℕ) → l < b.count → other_from w b l ≡ (costs_in w l).other
  other_here l h = rw (le-leb (suc l) b.count h)

  pub other_end : (l : ℕ) → b.count ≤ l → other_from w b l ≡ cond (is_some b.forced) FAR 0
  other_end l h = rw (lt-leb (suc l) b.count (omega arith))

  -- From a segment on with memory value m, and after the last one.
  pub rest_here : (l : ℕ) → l < b.count → (m : Value)
      → rest_from w b l m
      ≡ cond (eqb m (segment_in w l).copy)
      (costs_in w l).same
      (min (costs_in w l).other (plus (costs_in w l).keep (rest_from w b (suc l) m)))
  unfolding rest_of
  rest_here l h m =
      let more : b.count - l ≡ suc (b.count - suc l) = omega arith in
      let here : b.count - suc (b.count - suc l) ≡ l = omega arith in
      rw (more, here)

  pub rest_end : (l : ℕ) → b.count ≤ l → (m : Value) → rest_from w b l m ≡ ending b m
  unfolding rest_of
  rest_end l h m =
      let none : b.count - l ≡ 0 = omega arith in
      rw none

  -- With the value of the copies, and with another one.
  pub rest_same : (l : ℕ) → l < b.count → (m : Value) → m ≡ (segment_in w l).copy
      → rest_from w b l m ≡ (costs_in w l).same
  rest_same l h m e = rest_here l h m ∙ rw (eq-eqb m (segment_in w l).copy e)

  pub rest_differs : (l : ℕ) → l < b.count → (m : Value) → ¬ (m ≡ (segment_in w l).copy)
      → rest_from w b l m ≡ min (costs_in w l).other (plus (costs_in w l).keep (rest_from w b (suc l) m))
  rest_differs l h m e = rest_here l h m ∙ rw (ne_eqb m (segment_in w l).copy e)

  -- Either there are no more segments, or memory has the value of the copies of the next one, or it has not.
  pub rest_cases : {P : Type 0} (l : ℕ) (m : Value)
      → (b.count ≤ l → P)
      → (l < b.count → m ≡ (segment_in w l).copy → P)
      → (l < b.count → ¬ (m ≡ (segment_in w l).copy) → P)
      → P
  rest_cases l m none same differs =
      by_test (leb b.count l)
      (λ t. none (leb→le _ _ t))
      (λ t.
      let h = nleb→lt _ _ t in
      by_test (eqb m (segment_in w l).copy) (λ e. same h (eqb→eq _ _ e)) (λ e. differs h (ne_test _ _ e)))

  -- What is to pay is at most FAR.
  pub rest_far : (l : ℕ) (m : Value) → rest_from w b l m ≤ FAR
  rest_far l m =
      rest_cases l m
      (λ h. rw (rest_end l h m) (ending_far b m))
      (λ h e. rw (rest_same l h m e) (costs_fit w l).same)
      (λ h e.
      let other = (costs_in w l).other in
      let kept = plus (costs_in w l).keep (rest_from w b (suc l) m) in
      rw (rest_differs l h m e) (omega (arith, (costs_fit w l).other)))

  -- No memory value is worse than one that is not read.
  pub rest_other : (l : ℕ) → Orderly w b l → (m : Value) → rest_from w b l m ≤ other_from w b l
  rest_other l o m =
      rest_cases l m
      (λ h. rw (rest_end l h m, other_end l h) (ending_least b.forced m))
      (λ h e. rw (rest_same l h m e, other_here l h) (o.same l (le_refl l) h))
      (λ h e.
      let other = (costs_in w l).other in
      let kept = plus (costs_in w l).keep (rest_from w b (suc l) m) in
      rw (rest_differs l h m e, other_here l h) (omega arith))

-- ---- keeping a value, segment by segment

-- To keep the value m from segment `from` to segment l costs `kept`. What is to pay with m is that and what is to pay
-- from l on, or `never`, which is at most what an unread value would come to in this way.
pub record Resting (w : List ℕ) (b : Block) (from : ℕ) (m : Value) (never l kept : ℕ) : Type 0 where
  pub order : from ≤ l
  pub here : l ≤ b.count
  pub far : kept ≤ FAR
  pub bound : never ≤ plus kept (other_from w b l)
  pub value : rest_from w b from m ≡ min never (plus kept (rest_from w b l m))

-- Nothing is kept yet.
sum_none : (never rest : ℕ) → rest ≤ never → never ≤ FAR
    → (never ≤ plus 0 never) × (rest ≡ min never (plus 0 rest))
sum_none never rest h far =
    (omega arith, omega arith)

-- What a segment that keeps the value adds.
sum_bound : (never kept keep other next : ℕ) → never ≤ plus kept other → other ≤ plus keep next
    → never ≤ plus (plus kept keep) next
sum_bound never kept keep other next h o =
    rw (plus_assoc kept keep next) (omega arith)

sum_more : (never kept keep other rest : ℕ) → never ≤ plus kept other
    → min never (plus kept (min other (plus keep rest))) ≡ min never (plus (plus kept keep) rest)
sum_more never kept keep other rest h =
    rw (plus_assoc kept keep rest) (least_sum never kept other (plus keep rest) h)

-- What is kept costs more than it can spare.
sum_spared : (never kept rest : ℕ) → never ≤ kept → kept ≤ FAR → min never (plus kept rest) ≡ never
sum_spared never kept rest h far = omega arith

pub resting_none : (w : List ℕ) (b : Block) (from : ℕ) (m : Value) → Orderly w b from → from ≤ b.count
    → Resting w b from m (other_from w b from) from 0
resting_none w b from m o h =
    let none = sum_none (other_from w b from) (rest_from w b from m) (rest_other w b from o m) (other_far w b from) in
    record { order = le_refl from; here = h; far = omega arith; bound = none.0; value = none.1 }

module _ {w : List ℕ} {b : Block} {from : ℕ} {m : Value} {never l kept : ℕ}
    (r : Resting w b from m never l kept) where
  -- The copies of segment l have the value.
  pub resting_same : l < b.count → m ≡ (segment_in w l).copy
      → rest_from w b from m ≡ min never (plus kept (costs_in w l).same)
  resting_same h e = rw (← rest_same w b l h m e) r.value

  -- They have not: one segment more.
  pub resting_more : Orderly w b from → l < b.count → ¬ (m ≡ (segment_in w l).copy)
      → Resting w b from m never (l + 1) (plus kept (costs_in w l).keep)
  resting_more o h e =
      let keep = (costs_in w l).keep in
      let other = (costs_in w l).other in
      let next = rw (other_here w b l h) at r.bound in
      let value = rw (rest_differs w b l h m e) at r.value in
      rw (add-one l)
      (record {
        order = omega (arith, r.order);
        here = h;
        far = plus_far kept keep;
        bound = sum_bound never kept keep other (other_from w b (suc l)) next (o.other l r.order h);
        value = value ∙ sum_more never kept keep other (rest_from w b (suc l) m) next;
      })

  -- To keep the value costs more than it can spare.
  pub resting_spared : never ≤ kept → rest_from w b from m ≡ never
  resting_spared h = r.value ∙ sum_spared never kept (rest_from w b l m) h r.far

  -- There are no more segments.
  pub resting_end : b.count ≤ l → rest_from w b from m ≡ min never (plus kept (ending b m))
  resting_end h = rw (← rest_end w b l h m) r.value

-- ---- what else changes

module _ {from to : ℕ} {w w' : List ℕ} (only : OnlyIn from to w w') (j : ℕ) where
  -- A segment and its costs are as they were where their words are.
  pub segment_same : (SEGMENTS + 2 * j < from) ⊎ (to ≤ SEGMENTS + 2 * j) → segment_in w' j ≡ segment_in w j
  unfolding segment_in
  segment_same o = rw (⊎_elim (get_or_below only (SEGMENTS + 2 * j)) (get_or_above only (SEGMENTS + 2 * j)) o)

  pub costs_same : (SEGMENTS + 2 * j + 1 < from) ⊎ (to ≤ SEGMENTS + 2 * j + 1) → costs_in w' j ≡ costs_in w j
  unfolding costs_in
  costs_same o =
      rw (⊎_elim (get_or_below only (SEGMENTS + 2 * j + 1)) (get_or_above only (SEGMENTS + 2 * j + 1)) o)

-- The costs of a segment are no part of any segment.
pub costs_apart : (l : ℕ) {w w' : List ℕ} → OnlyIn (SEGMENTS + 2 * l + 1) (SEGMENTS + 2 * l + 2) w w'
    → (j : ℕ) → segment_in w' j ≡ segment_in w j
costs_apart l only j =
    by_test (leb j l)
    (λ t. let h = leb→le j l t in segment_same only j (inl (omega arith)))
    (λ t. let h = nleb→lt j l t in segment_same only j (inr (omega arith)))

-- The segments from l on and their costs are as they were.
pub record SameFrom (l : ℕ) (w w' : List ℕ) : Type 0 where
  pub segment : (j : ℕ) → l ≤ j → segment_in w' j ≡ segment_in w j
  pub costs : (j : ℕ) → l ≤ j → costs_in w' j ≡ costs_in w j

-- So it is where only words before those of segment l have changed.
pub same_from : {from to : ℕ} {w w' : List ℕ} → OnlyIn from to w w' → (l : ℕ) → to ≤ SEGMENTS + 2 * l
    → SameFrom l w w'
same_from only l h =
    record {
      segment = λ j g. segment_same only j (inr (omega arith));
      costs = λ j g. costs_same only j (inr (omega arith));
    }

module _ {l : ℕ} {w w' : List ℕ} (same : SameFrom l w w') (b : Block) where
  rest_of_same : (m : Value) (d : ℕ) → d ≤ b.count - l → rest_of w' b m d ≡ rest_of w b m d
  unfolding rest_of
  rest_of_same m zero h = refl
  rest_of_same m (suc d) h =
      let j = b.count - suc d in
      let g : l ≤ j = omega arith in
      rw (same.segment j g, same.costs j g, rest_of_same m d (omega arith))

  -- Then so is what is to pay from a segment on.
  pub rests_same : (j : ℕ) → l ≤ j → (m : Value) → rest_from w' b j m ≡ rest_from w b j m
  rests_same j h m = rest_of_same m (b.count - j) (omega arith)

  pub others_same : (j : ℕ) → l ≤ j → other_from w' b j ≡ other_from w b j
  others_same j h = rw (same.costs j h)

  pub orderly_same : Orderly w b l → Orderly w' b l
  orderly_same o =
      record {
        same = λ j g h. rw (same.costs j g) (o.same j g h);
        other = λ j g h. rw (same.costs j g, others_same (suc j) (omega arith)) (o.other j g h);
      }
