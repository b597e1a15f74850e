-- Frames of the scratch area: they compose, and the words outside a frame read as they did.
use Prim.Native.Nat.{ℕ, ◌+◌, ◌-◌, ◌≤◌, ◌<◌}
use native.Mathlib.Omega.{arith}
use mathlib.Core.Path.{◌≡◌, refl, sym, ap, ◌∙◌}
use mathlib.Core.List.{List}
use lib.ListN.{get_or, take, drop, set, length-set}
use lib.Seq.{get_or-take, get_or-drop, take-set-le, drop-set-lt, take-take, drop-drop}
use Rattle.scratch.specs.Layout.{OnlyIn}

-- Nothing has changed.
pub only_none : (from to : ℕ) (w : List ℕ) → OnlyIn from to w w
only_none from to w = record { sized = refl; below = refl; above = refl }

-- One word has changed.
pub only_set : (from to : ℕ) (w : List ℕ) (i v : ℕ) → from ≤ i → i < to → OnlyIn from to w (set w i v)
only_set from to w i v l h =
    record { sized = length-set w i v; below = take-set-le from w i v l; above = drop-set-lt to w i v h }

-- One change after another.
pub only_then : {from to : ℕ} {w w' w'' : List ℕ} → OnlyIn from to w w' → OnlyIn from to w' w''
    → OnlyIn from to w w''
only_then p q =
    record { sized = q.sized ∙ p.sized; below = q.below ∙ p.below; above = q.above ∙ p.above }

-- What changes a part of a stretch changes the stretch.
pub only_wider : {from to from' to' : ℕ} {w w' : List ℕ} → OnlyIn from to w w' → from' ≤ from → to ≤ to'
    → OnlyIn from' to' w w'
only_wider {from} {to} {from'} {to'} {w} {w'} p l h =
    let more = to' - to in
    let rest : to + more ≡ to' = omega arith in
    record {
      sized = p.sized;
      below = sym (take-take from' from w' l) ∙ ap (take from') p.below ∙ take-take from' from w l;
      above = rw (← rest) (sym (drop-drop more to w') ∙ ap (drop more) p.above ∙ drop-drop more to w);
    }

module _ {from to : ℕ} {w w' : List ℕ} (only : OnlyIn from to w w') (k : ℕ) where
  pub get_or_below : k < from → get_or w' k 0 ≡ get_or w k 0
  get_or_below h =
      sym (get_or-take from w' k 0 h) ∙ ap (λ (l : List ℕ). get_or l k 0) only.below ∙ get_or-take from w k 0 h

  pub get_or_above : to ≤ k → get_or w' k 0 ≡ get_or w k 0
  get_or_above h =
      let past = k - to in
      let rest : to + past ≡ k = omega arith in
      let same = ap (λ (l : List ℕ). get_or l past 0) only.above in
      rw (← rest) (sym (get_or-drop to w' past 0) ∙ same ∙ get_or-drop to w past 0)
