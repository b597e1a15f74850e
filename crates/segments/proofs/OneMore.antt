-- The costs of one segment more: with those of segment l in the area, what holds of the segments after it holds from l
-- on.
use Prim.Native.Nat.{ℕ, suc, ◌≤◌, ◌<◌, min}
use native.Mathlib.Nat.{le_refl, eq-or-lt_of_le}
use mathlib.Core.Path.{◌≡◌}
use mathlib.Core.Logic.{◌≢◌, ⊎_elim}
use mathlib.Core.List.{List}
use lib.Dec.{eqb, eqb→eq}
use Rattle.model.specs.Cxl0.{Value}
use Rattle.model.specs.OneLocation.{Site}
use Rattle.model.proofs.Tests.{by_test, ne_test}
use Rattle.scratch.specs.Layout.{MOST}
use Rattle.segments.specs.declared.words.Block.{Block}
use Rattle.segments.specs.declared.words.Costs as costs
use Rattle.segments.specs.Words.{segment_in, costs_in}
use Rattle.segments.specs.Costs.{plus, rest_from, other_from, Orderly}
use Rattle.segments.specs.Segments.{Costs, Means}
use Rattle.segments.proofs.Rests.{SameFrom, rests_same, others_same, orderly_same}
use Rattle.segments.proofs.Rests.{rest_same, rest_differs}
use Rattle.segments.proofs.Kept.{Kept, kept_cost}
use Rattle.segments.proofs.Kept.{kept_means}

-- In the area w the costs of the segments after l are right; in w' those of l are put, and nothing else has changed of
-- the events, the segments and the costs after l.
module _ (b : Block) {l : ℕ} {c : costs.Costs} {w w' : List ℕ} (kept : Kept w w') (same : SameFrom (suc l) w w')
    (stored : costs_in w' l ≡ c) (here : l < b.count) where
  -- What is so of the costs of l and of those after it is so from l on: no memory value is worse than one that is not
  -- read,
  pub orderly_more : Orderly w b (suc l) → c.same ≤ c.other → c.other ≤ plus c.keep (other_from w b (suc l))
      → Orderly w' b l
  orderly_more o first second =
      let later = orderly_same same b o in
      record {
        same =
            λ j a h.
            ⊎_elim
            (λ e. rw (← e, stored) first)
            (λ d. later.same j d h)
            (eq-or-lt_of_le a);
        other =
            λ j a h.
            ⊎_elim
            (λ e. rw (← e, stored, others_same same b (suc l) (le_refl _)) second)
            (λ d. later.other j d h)
            (eq-or-lt_of_le a);
      }

  -- What is to pay from segment l on, with the value of its copies and with another one.
  rest_copy : (m : Value) → m ≡ (segment_in w l).copy → rest_from w' b l m ≡ c.same
  rest_copy m e = rw stored at (rest_same w' b l here m (rw (kept.segments l) e))

  rest_another : (m : Value) → m ≢ (segment_in w l).copy
      → rest_from w' b l m ≡ min c.other (plus c.keep (rest_from w b (suc l) m))
  rest_another m ne =
      rw (stored, rests_same same b (suc l) (le_refl _) m)
      at (rest_differs w' b l here m (λ e. ne (rw (kept.segments l) at e)))

  -- What is so of both is so of what is to pay.
  pub by_value : (P : Value → ℕ → Type 0) → P (segment_in w l).copy c.same
      → ((m : Value) → m ≢ (segment_in w l).copy → P m (min c.other (plus c.keep (rest_from w b (suc l) m))))
      → (m : Value) → P m (rest_from w' b l m)
  by_value P copy another m =
      by_test (eqb m (segment_in w l).copy)
      (λ t. let e = eqb→eq m (segment_in w l).copy t in rw (rest_copy m e) (rw e copy))
      (λ t. let ne = ne_test m (segment_in w l).copy t in rw (rest_another m ne) (another m ne))

  -- and they say what is left to pay.
  pub means_more : (k : Site) → b.end ≤ MOST → Means k w b (suc l)
      → ((m : Value)
      → Costs k w b.end (segment_in w l).first (segment_in w l).copy (segment_in w l).code m (rest_from w' b l m))
      → Means k w' b l
  means_more k short means first j a h =
      ⊎_elim
      (λ e. rw (← e, kept.segments l) (λ m. kept_cost kept short (first m)))
      (λ d. kept_means kept k b (suc l) short same means j d h)
      (eq-or-lt_of_le a)
