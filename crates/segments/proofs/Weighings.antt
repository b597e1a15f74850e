-- The costs of a segment are right: with each memory value there is to pay from its start on what they say.
use Prim.Native.Nat.{ℕ, suc, ◌≤◌, ◌<◌, min}
use native.Mathlib.Nat.{le_refl, le_trans}
use native.Mathlib.Decide.{dec_le}
use native.Mathlib.Omega.{arith}
use mathlib.Core.Path.{◌≡◌, refl}
use mathlib.Core.Logic.Iff
use mathlib.Core.Logic.{◌≢◌, ◌↔◌, ◌⊎◌}
use mathlib.Core.Bool.{Bool, true, false, cond, not, ◌||◌}
use mathlib.Core.List.{List}
use borrow.Author.Tests.{lt-ltb, le-ltb}
use lib.Dec.{T, eqb, leb, ltb, eqb→eq}
use lib.Ieee.Fits.{eq→eqb}
use Rattle.model.specs.Cxl0.{Value}
use Rattle.model.specs.OneLocation.{Site}
use Rattle.levels.specs.Stretches.{FAR, Stretch, Finishes}
use Rattle.levels.specs.Tasks.{accepting, Counted}
use Rattle.levels.specs.declared.Closing.{Closing}
use Rattle.levels.specs.declared.Closing.TheVariants.{Open, Same, Other}
use Rattle.levels.proofs.Stretching.{Through, ending, dry, linear, Easier, monotone}
use Rattle.segments.specs.declared.words.Segment.{Segment}
use Rattle.segments.specs.declared.words.Block.{Block}
use Rattle.segments.specs.declared.words.Costs as costs
use Rattle.segments.specs.Words.{segment_in}
use Rattle.segments.specs.Costs.{plus, rest_from, other_from, Orderly}
use Rattle.segments.specs.Segments.{Costs, IsSegment, Means}
use Rattle.segments.specs.Segments.{stretch_of, cleared_of, behind_of, Backs}
use Rattle.segments.specs.Weighing.{spared_of}
use Rattle.segments.proofs.Rests.{rest_other}
use Rattle.segments.proofs.TwoWays.{keep_bound, two_ways}
use Rattle.segments.proofs.Links.{stretch_left}

-- ---- the costs of a segment

-- The stretch of segment l with memory value m, and `kept` to pay behind it if memory is kept.
abbrev pub stretch_in : Site → List ℕ → Block → ℕ → (m : Value) → (kept : ℕ) → Stretch
stretch_in k w b l m kept =
    let s = segment_in w l in
    stretch_of k w s m (behind_of s (cleared_of w b l s k.initial) kept)

-- And the one in which memory value m is kept.
abbrev pub kept_in : Site → List ℕ → ℕ → (m : Value) → Stretch
kept_in k w l m = ending (dry (stretch_of k w (segment_in w l) m 0)) 0

-- The fewest steps from the start of segment l in a stretch.
abbrev pub Start : List ℕ → ℕ → Stretch → (below r : ℕ) → Type 0
Start w l q below r = Counted q (segment_in w l).first (segment_in w l).code below r

-- The costs of segment l, each found in its stretches.
pub record Found (k : Site) (w : List ℕ) (b : Block) (l least : ℕ) (c : costs.Costs) : Type 0 where
  pub same : Start w l (stretch_in k w b l (segment_in w l).copy (rest_from w b (suc l) (segment_in w l).copy)) FAR
      c.same
  pub other : (m : Value) → m ≢ (segment_in w l).copy
      → Start w l (stretch_in k w b l m (other_from w b (suc l))) FAR c.other
  pub never : (segment_in w l).reset < (segment_in w l).end → c.keep ≡ FAR
  pub keep : (segment_in w l).end ≤ (segment_in w l).reset → (m : Value) → m ≢ (segment_in w l).copy
      → Start w l (kept_in k w l m) (spared_of c.other least) c.keep

-- They are right: they say what there is to pay from segment l on with each memory value, no value is worse than one
-- that is not read, and no number is below the bound.
pub record RightCosts (k : Site) (w : List ℕ) (b : Block) (l least : ℕ) (c : costs.Costs) : Type 0 where
  pub same : Costs k w b.end (segment_in w l).first (segment_in w l).copy (segment_in w l).code (segment_in w l).copy
      c.same
  pub other : (m : Value) → m ≢ (segment_in w l).copy
      → Costs k w b.end (segment_in w l).first (segment_in w l).copy (segment_in w l).code m
      (min c.other (plus c.keep (rest_from w b (suc l) m)))
  pub order : c.same ≤ c.other
  pub kept : c.other ≤ plus c.keep (other_from w b (suc l))
  pub least_same : min (min c.same c.other) (plus c.keep least) ≤ c.same
  pub least_other : (m : Value)
      → min (min c.same c.other) (plus c.keep least)
      ≤ min c.other (plus c.keep (rest_from w b (suc l) m))

-- ---- memory with the value of the copies

-- Where another value is that of the copies, because of a reset, that one is too.
reads_too : (early : Bool) (u z : ℕ) → cond early (suc u) z ≡ u → cond early u z ≡ u
reads_too true u z e = refl
reads_too false u z e = e

-- A closing event accepts no less if memory has the value of the copies.
accepts_too : (closing : Closing) (c : ℕ) (reads reads' : Bool) → (T reads → T reads')
    → T (accepting closing reads c) → T (accepting closing reads' c)
accepts_too Open c reads reads' h t = tt
accepts_too Same c reads reads' h t = go (eqb c 0) t
  where
    go : (none : Bool) → T (not none || reads) → T (not none || reads')
    go true t = h t
    go false t = tt
accepts_too Other c reads reads' h t = t

-- What is to pay behind the segment is no more.
behind_less : (resets : Bool) (cleared kept kept' : ℕ) → kept ≤ kept'
    → cond resets cleared kept ≤ cond resets cleared kept'
behind_less true cleared kept kept' h = le_refl cleared
behind_less false cleared kept kept' h = h

-- ---- the costs that were found

module _ (k : Site) (w : List ℕ) (b : Block) (l least : ℕ) (c : costs.Costs) (seg : IsSegment k w b l)
    (orderly : Orderly w b (suc l)) (means : Means k w b (suc l)) (backs : Backs k w b (segment_in w l))
    (bound : (m : Value) → least ≤ rest_from w b (suc l) m) (found : Found k w b l least c) where
  abbrev s : Segment
  s = segment_in w l

  -- What is to pay behind the segment, with memory value m and with one that is not read.
  abbrev rest : Value → ℕ
  rest m = rest_from w b (suc l) m

  abbrev next : ℕ
  next = other_from w b (suc l)

  -- With the value of the copies in memory.
  same_right : Costs k w b.end s.first s.copy s.code s.copy c.same
  same_right =
      let left = stretch_left k w b l seg s.copy means backs s.code in
      record {
        most = found.same.most;
        exact = λ x far. Iff.trans (Iff.symm (left x far)) (found.same.exact x far);
      }

  -- There is a memory value that is not that of the copies.
  another : suc s.copy ≢ s.copy
  another e = absurd (omega arith)

  -- The lesser of what is to pay with an unread value, and to keep memory value m, is the least to pay with m.
  abbrev Lesser : (m : Value) → Type 0
  Lesser m =
      (x : ℕ) → x < FAR
      → Finishes (stretch_in k w b l m (rest m)) s.first s.code x
      ↔ (min c.other (plus c.keep (rest m)) ≤ x)

  -- With a reset, nothing is kept.
  module _ (resets : s.reset < s.end) where
    behind_reset : (kept : ℕ) → behind_of s (cleared_of w b l s k.initial) kept ≡ rest k.initial
    behind_reset kept = rw (lt-ltb s.reset s.end resets)

    reset_bound : c.other ≤ plus c.keep next
    reset_bound = omega (arith, found.never resets, (found.other _ another).most)

    reset_right : (m : Value) → m ≢ s.copy → Lesser m
    reset_right m ne x far =
        let sum = plus c.keep (rest m) in
        let all : min c.other sum ≡ c.other =
        omega (
          arith,
          found.never resets,
          (found.other m ne).most,
        )
        in
        rw (all, behind_reset (rest m)) (rw (behind_reset next) at ((found.other m ne).exact x far))

  -- Without one, keeping the memory value is a way of its own.
  module _ (stays : s.end ≤ s.reset) (m : Value) (ne : m ≢ s.copy) where
    behind_kept : (kept : ℕ) → behind_of s (cleared_of w b l s k.initial) kept ≡ kept
    behind_kept kept = rw (le-ltb s.reset s.end stays)

    abbrev Pay : (n x : ℕ) → Type 0
    Pay n x = Finishes (stretch_of k w s m n) s.first s.code x

    ways : (n x : ℕ) → x < FAR → Pay n x ↔ (Pay FAR x ⊎ Through (stretch_of k w s m 0) n s.first s.code x)
    ways n x far = linear (stretch_of k w s m 0) n s.first s.code x far

    other_exact : (x : ℕ) → x < FAR → Pay next x ↔ (c.other ≤ x)
    other_exact x far = rw (behind_kept next) at ((found.other m ne).exact x far)

    kept_bound : c.other ≤ plus c.keep next
    kept_bound =
        keep_bound Pay (Pay FAR) (λ a. Finishes (kept_in k w l m) s.first s.code a) ways
        c.other next c.keep least (found.other m ne).most other_exact
        (found.keep stays m ne).exact (found.keep stays m ne).far

    kept_right : Lesser m
    kept_right x far =
        rw (behind_kept (rest m))
        (two_ways Pay (Pay FAR) (λ a. Finishes (kept_in k w l m) s.first s.code a) ways
        c.other next c.keep least (found.other m ne).most other_exact
        (found.keep stays m ne).exact (found.keep stays m ne).far
        (rest m) (rest_other w b (suc l) orderly m) (bound m) x far)

  -- With another value in memory.
  other_right : (m : Value) → m ≢ s.copy
      → Costs k w b.end s.first s.copy s.code m (min c.other (plus c.keep (rest m)))
  other_right m ne =
      let left = stretch_left k w b l seg m means backs s.code in
      let right : Lesser m =
      elim (dec_le s.end s.reset) [ yes h ↦ kept_right h m ne | no h ↦ reset_right (omega arith) m ne ]
      in
      record {
        most = omega (arith, (found.other m ne).most);
        exact = λ x far. Iff.trans (Iff.symm (left x far)) (right x far);
      }

  -- To keep an unread value is no better than to have it.
  other_keep : c.other ≤ plus c.keep next
  other_keep =
      elim (dec_le s.end s.reset) [
        | yes h ↦ kept_bound h (suc s.copy) another
        | no h ↦ reset_bound (omega arith)
      ]

  -- ---- the value of the copies is the best

  -- The stretch with the value of the copies in memory is easier than one with another value.
  easier : Easier s.first (stretch_in k w b l (suc s.copy) next) (stretch_in k w b l s.copy (rest s.copy))
  easier =
      record {
        site = refl;
        copy = refl;
        end = refl;
        events = λ t a h. refl;
        inner = seg.inner;
        reads = λ t a h. reads_too (leb t s.reset) s.copy k.initial;
        accepts =
            λ d. accepts_too s.closing d _ _
            (λ t. eq→eqb (reads_too (leb s.end s.reset) s.copy k.initial (eqb→eq _ _ t)));
        last =
            behind_less (ltb s.reset s.end) (cleared_of w b l s k.initial) (rest s.copy) next
            (rest_other w b (suc l) orderly s.copy);
        back = λ t a h. le_refl _;
      }

  -- There is no more to pay with the value of the copies in memory than with an unread one.
  same_other : c.same ≤ c.other
  same_other =
      elim (dec_le FAR c.other) [
        | yes h ↦ le_trans found.same.most h
        | no h ↦
            let far : c.other < FAR = omega arith in
            let there = ((found.other _ another).exact c.other far).1 (le_refl _) in
            (found.same.exact c.other far).0 (monotone s.first _ _ easier (le_refl _) seg.order there)
      ]

  -- ---- a bound

  -- What `weigh` hands back is at most what there is to pay with each memory value.
  abbrev bound_here : ℕ
  bound_here = min (min c.same c.other) (plus c.keep least)

  least_same : bound_here ≤ c.same
  least_same = omega arith

  least_other : (m : Value) → bound_here ≤ min c.other (plus c.keep (rest m))
  least_other m =
      omega (arith, bound m)

  pub found_right : RightCosts k w b l least c
  found_right =
      record {
        same = same_right;
        other = other_right;
        order = same_other;
        kept = other_keep;
        least_same = least_same;
        least_other = least_other;
      }
