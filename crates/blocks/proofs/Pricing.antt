-- The costs of all segments of a block, from the last one to the first.
use Prim.Native.Nat.{ℕ, suc, zero-le, ◌-◌, ◌≤◌, ◌<◌}
use native.Mathlib.Nat.{le_refl, eq-or-lt_of_le}
use native.Mathlib.Omega.{arith}
use mathlib.Core.Path.{◌≡◌, refl, sym, ◌∙◌, subst}
use mathlib.Core.Logic.{⊎_elim}
use mathlib.Core.List.{List}
use lib.ListN.{length}
use Rattle.model.specs.Cxl0.{Value}
use Rattle.entries.specs.Entries.{site_meant}
use Rattle.entries.specs.declared.Site.{Site}
use Rattle.scratch.specs.Layout.{ROWS, LEVELS, SEGMENTS, LOG, OnlyIn}
use Rattle.scratch.proofs.Frames.{only_none, only_then, only_wider}
use Rattle.scratch.proofs.StepArea.{struct_kept}
use Rattle.segments.specs.Words.{segment_in, costs_in}
use Rattle.segments.specs.Costs.{rest_from, Orderly}
use Rattle.segments.specs.Segments.{Means}
use Rattle.segments.specs.Weighing.{Weighable, Weighed}
use Rattle.segments.specs.declared.words.Block.{Block}
use Rattle.segments.proofs.Rests.{SameFrom, same_from, rests_same, orderly_same}
use Rattle.segments.proofs.Kept.{Kept, kept_between, kept_segmented, kept_means}
use Rattle.blocks.specs.Blocks.{Laid, Costed, Priced}

-- ---- what is kept

-- The segments are there in any area of the same length where they and the events are as they were.
pub kept_laid : {site : Site} {b : Block} {w w' : List ℕ} → Kept w w' → length w' ≡ length w → Laid site b w
    → Laid site b w'
kept_laid kept sized laid =
    record {
      room = rw sized laid.room;
      owner = laid.owner;
      segmented = kept_segmented kept laid.segmented;
    }

-- And so are their costs where only words between the events and the segments have changed.
pub kept_costed : {site : Site} {b : Block} {from to : ℕ} {w w' : List ℕ} → OnlyIn from to w w'
    → ROWS ≤ from → to ≤ SEGMENTS → Costed site b w → Costed site b w'
kept_costed {site} {b} {w = w} {w'} only low high c =
    let kept = kept_between only low high in
    let same : SameFrom 0 w w' = same_from only 0 (omega arith) in
    record {
      laid = kept_laid kept only.sized c.laid;
      orderly = orderly_same same b c.orderly;
      means = kept_means kept (site_meant site) b 0 c.laid.segmented.short same c.means;
      backs =
          λ l h.
          rw (same.costs l zero-le, same.segment l zero-le, rests_same same b (suc l) zero-le (segment_in w l).copy)
          (c.backs l h);
    }

-- ---- the loop

-- The segments from l on have their costs, and none costs less than `least` with any memory value.
pub record Pricing (site : Site) (b : Block) (w₀ w : List ℕ) (l least : ℕ) : Type 0 where
  pub frame : OnlyIn LEVELS LOG w₀ w
  pub segments : (j : ℕ) → segment_in w j ≡ segment_in w₀ j
  pub number : l ≤ b.count
  pub orderly : Orderly w b l
  pub means : Means (site_meant site) w b l
  pub backs : (j : ℕ) → l ≤ j → j < b.count → (costs_in w j).back ≡ rest_from w b (suc j) (segment_in w j).copy
  pub bound : (m : Value) → least ≤ rest_from w b l m

module _ {site : Site} {b : Block} {w₀ : List ℕ} (start : Laid site b w₀) where
  -- What is to pay after segment j with the value of its copies is right.
  abbrev Back : List ℕ → ℕ → Type 0
  Back w j = (costs_in w j).back ≡ rest_from w b (suc j) (segment_in w j).copy

  pub pricing_none : Pricing site b w₀ w₀ b.count 0
  pricing_none =
      record {
        frame = only_none LEVELS LOG w₀;
        segments = λ j. refl;
        number = le_refl _;
        orderly = record { same = λ j a h. absurd (omega arith); other = λ j a h. absurd (omega arith) };
        means = λ j a h. absurd (omega arith);
        backs = λ j a h. absurd (omega arith);
        bound = λ m. zero-le;
      }

  module _ {w : List ℕ} {l least : ℕ} (at : Pricing site b w₀ w l least) where
    laid_in : Laid site b w
    laid_in =
        let kept : Kept w₀ w =
        record { structs = λ t h. struct_kept at.frame (omega arith) t h; segments = at.segments }
        in
        kept_laid kept at.frame.sized start

    -- The segment before l can be weighed.
    pub weighable : 0 < l → Weighable site b (l - 1) least w
    weighable some =
        let laid = laid_in in
        let next : suc (l - 1) ≡ l = omega arith in
        record {
          room = laid.room;
          owner = laid.owner;
          here = omega (arith, at.number);
          segmented = record {
            few = laid.segmented.few;
            short = laid.segmented.short;
            each = λ j a h. laid.segmented.each j zero-le h;
          };
          orderly = rw next at.orderly;
          means = subst (Means (site_meant site) w b) (sym next) at.means;
          bound = rw next at.bound;
        }

    -- Then the segments from there on have their costs.
    pub pricing_more : 0 < l → {r : ℕ} {w' : List ℕ} → Weighed site b (l - 1) w r w' → Pricing site b w₀ w' (l - 1) r
    pricing_more some {r} {w'} done =
        let few = laid_in.segmented.few in
        let next : suc (l - 1) ≡ l = omega arith in
        let same : SameFrom l w w' = same_from done.below l (omega arith) in
        let before : (j : ℕ) → l ≤ j → j < b.count → Back w' j =
        λ j a h.
        rw (same.costs j a, same.segment j a, rests_same same b (suc j) (omega arith) (segment_in w j).copy)
        (at.backs j a h)
        in
        record {
          frame = only_then at.frame (only_wider done.below (le_refl _) (omega (arith, at.number)));
          segments = λ j. done.segments j ∙ at.segments j;
          number = omega (arith, at.number);
          orderly = done.orderly;
          means = done.means;
          backs =
              λ j a h.
              ⊎_elim (λ e. subst (Back w') e done.back) (λ g. before j (omega arith) h) (eq-or-lt_of_le a);
          bound = done.least;
        }

    -- So it is with all of them.
    pub priced : l ≤ 0 → Priced site b w₀ w
    priced over =
        let none : l ≡ 0 = omega arith in
        record {
          frame = at.frame;
          segments = at.segments;
          costed = record {
            laid = laid_in;
            orderly = rw none at at.orderly;
            means = rw none at at.means;
            backs = λ j h. at.backs j (omega arith) h;
          };
        }
