-- The levels of a stretch: how the codes that finish within so many steps follow from those of the next gap and of one
-- step less, below which number there are none, and from which number on there are no more.
use Prim.Native.Nat.{ℕ, zero, suc, ◌-◌, ◌≤◌, ◌<◌}
use native.Mathlib.Nat.{le_trans, lt_trans, lt_of_lt_of_le, lt_of_le_of_lt, le_of_suc-le-suc}
use native.Mathlib.Omega.{arith}
use mathlib.Core.Path.{◌≡◌, refl, sym, subst}
use mathlib.Core.Logic.Iff
use mathlib.Core.Logic.{◌≢◌, ◌⊎◌, inl, inr, ⊎_elim, ⊎_map, ◌↔◌}
use mathlib.Core.Bool.{not, ◌&&◌}
use lib.Dec.{T, eqb}
use Rattle.model.specs.Cxl0.{Machine, event}
use Rattle.model.specs.Sharers.{has}
use Rattle.model.specs.OneLocation.{enabled_at, effect, moved}
use Rattle.masks.specs.Sets.{OneToSix}
use Rattle.masks.proofs.Codes.{moved_fits}
use Rattle.rows.specs.Sites.{NamesSix}
use Rattle.rows.proofs.RowSteps.{effect_fits}
use Rattle.levels.specs.Stretches.{FAR, Stretch, state_at, Finishes, ends, acts, writes, moves}

-- ---- one gap

-- The event after gap t is possible with code c, and what it leaves finishes within l steps.
abbrev pub Acts : Stretch → (t c l : ℕ) → Type 0
Acts q t c l =
    T (enabled_at q.site (event (q.event t)) (state_at q t c))
    × Finishes q (suc t) (effect q.site (event (q.event t)) (state_at q t c)).code l

-- The event after the last gap accepts code c, and what is to pay then is at most l.
abbrev pub Ends : Stretch → (c l : ℕ) → Type 0
Ends q c l = T (q.accepts c) × (q.last ≤ l)

-- Code c may be written back at gap t, and what is left to pay then is less than l.
abbrev pub Writes : Stretch → (t c l : ℕ) → Type 0
Writes q t c l = T (has q.site.owner c) × (q.back t < l)

-- One move from code c leads to one that finishes within one step less than l.
abbrev pub Moves : Stretch → (t c l : ℕ) → Type 0
Moves q t c l =
    (i : Machine)
    × (n : ℕ)
    × T (not (eqb i q.site.owner) && has i c)
    × (l ≡ suc n)
    × Finishes q t (moved q.site.owner i c) n

module _ (q : Stretch) where
  -- What finishes within so many steps does so within more.
  pub finishes_more : {t c l m : ℕ} → Finishes q t c l → l ≤ m → Finishes q t c m
  finishes_more (ends e a h) le = ends e a (le_trans h le)
  finishes_more (acts b e f) le = acts b e (finishes_more f le)
  finishes_more (writes h b) le = writes h (lt_of_lt_of_le b le)
  finishes_more {m = zero} (moves i v f) le = absurd (omega arith)
  finishes_more {m = suc m} (moves i v f) le = moves i v (finishes_more f (le_of_suc-le-suc le))

  -- A move to a code that finishes makes one that does, within one step more.
  moving : {t c l : ℕ} → Moves q t c l → Finishes q t c l
  moving {t} {c} (i, n, v, e, f) = subst (Finishes q t c) (sym e) (moves i v f)

  -- Before the last gap: the event, a write-back, or a move.
  pub finishes_inner : (t c l : ℕ) → t < q.end
      → Finishes q t c l ↔ (Acts q t c l ⊎ (Writes q t c l ⊎ Moves q t c l))
  finishes_inner t c l b = (there b, ⊎_elim (λ f. acts b f.0 f.1) (⊎_elim (λ f. writes f.0 f.1) moving))
    where
      there : {t c l : ℕ} → t < q.end → Finishes q t c l → Acts q t c l ⊎ (Writes q t c l ⊎ Moves q t c l)
      there b (ends e a h) = absurd (omega arith)
      there b (acts d e f) = inl (e, f)
      there b (writes h d) = inr (inl (h, d))
      there b (moves {l} i v f) = inr (inr (i, l, v, refl, f))

  -- At the last gap: what is to pay behind it, a write-back, or a move.
  pub finishes_end : (t c l : ℕ) → t ≡ q.end
      → Finishes q t c l ↔ (Ends q c l ⊎ (Writes q t c l ⊎ Moves q t c l))
  finishes_end t c l z = (there z, ⊎_elim (λ f. ends z f.0 f.1) (⊎_elim (λ f. writes f.0 f.1) moving))
    where
      there : {t c l : ℕ} → t ≡ q.end → Finishes q t c l → Ends q c l ⊎ (Writes q t c l ⊎ Moves q t c l)
      there z (ends e a h) = inl (a, h)
      there z (acts b e f) = absurd (omega arith)
      there z (writes h b) = inr (inl (h, b))
      there z (moves {l} i v f) = inr (inr (i, l, v, refl, f))

-- ---- the lowest level

-- Code c finishes within one step less than l, which is not the lowest level.
abbrev pub Below : Stretch → (low l t c : ℕ) → Type 0
Below q low l t c = (l ≢ low) × Finishes q t c (l - 1)

-- One move from code c leads to one of the level below.
abbrev pub MovesBelow : Stretch → (low l t c : ℕ) → Type 0
MovesBelow q low l t c =
    (i : Machine) × T (not (eqb i q.site.owner) && has i c) × Below q low l t (moved q.site.owner i c)

-- The last of three ways, put in other words.
or_last : {A B C D : Type 0} → C ↔ D → (A ⊎ (B ⊎ C)) ↔ (A ⊎ (B ⊎ D))
or_last e = (⊎_map (λ a. a) (⊎_map (λ b. b) e.0), ⊎_map (λ a. a) (⊎_map (λ b. b) e.1))

-- Where what is to pay behind the last gap, or by a write-back and behind it, is never less than `low`:
module _ (q : Stretch) (from low : ℕ) (last : low ≤ q.last)
    (back : (t : ℕ) → from ≤ t → t ≤ q.end → low ≤ suc (q.back t)) where
  -- nothing finishes within fewer steps,
  pub nothing_below : {t c l : ℕ} → from ≤ t → t ≤ q.end → Finishes q t c l → low ≤ l
  nothing_below a b (ends e v h) = le_trans last h
  nothing_below a b (acts d e f) = nothing_below (omega arith) d f
  nothing_below {t} a b (writes h d) = le_trans (back t a b) d
  nothing_below a b (moves i v f) = omega (arith, nothing_below a b f)

  -- so that a move counts only above the lowest level,
  moves_below : (t c l : ℕ) → from ≤ t → t ≤ q.end → low ≤ l → Moves q t c l ↔ MovesBelow q low l t c
  moves_below t c l a b h = (there, up)
    where
      there : Moves q t c l → MovesBelow q low l t c
      there (i, n, v, e, f) =
          let less : n ≡ l - 1 = omega arith in
          let above : l ≢ low = λ z. absurd (omega (arith, nothing_below a b f)) in
          (i, v, (above, subst (Finishes q t (moved q.site.owner i c)) less f))

      up : MovesBelow q low l t c → Moves q t c l
      up (i, v, (z, f)) = (i, l - 1, v, omega arith, f)

  -- and a gap's codes at a level are those of the event, of a write-back, and of a move to the level below.
  pub level_inner : (t c l : ℕ) → from ≤ t → t < q.end → low ≤ l
      → Finishes q t c l ↔ (Acts q t c l ⊎ (Writes q t c l ⊎ MovesBelow q low l t c))
  level_inner t c l a b h =
      Iff.trans (finishes_inner q t c l b)
      (or_last (moves_below t c l a (omega arith) h))

  -- At the last gap, what is to pay behind it stands in place of the event.
  pub level_end : (t c l : ℕ) → from ≤ t → t ≡ q.end → low ≤ l
      → Finishes q t c l ↔ (Ends q c l ⊎ (Writes q t c l ⊎ MovesBelow q low l t c))
  level_end t c l a z h =
      Iff.trans (finishes_end q t c l z)
      (or_last (moves_below t c l a (omega arith) h))

-- ---- the highest level

-- Where the machines are among 1 to 6, no number of steps that is to pay is more than l, and no code below 64 needs
-- all of l steps:
module _ (q : Stretch) (from high l : ℕ) (owner : OneToSix q.site.owner)
    (named : (t : ℕ) → from ≤ t → t < q.end → NamesSix (q.event t))
    (last : q.last < FAR → q.last ≤ high)
    (back : (t : ℕ) → from ≤ t → t ≤ q.end → q.back t < FAR → suc (q.back t) ≤ high)
    (above : high ≤ l)
    (same : (t c : ℕ) → from ≤ t → t ≤ q.end → c < 64 → Finishes q t c l → (0 < l) × Finishes q t c (l - 1)) where
  -- what finishes at all finishes within l steps.
  pub nothing_more : {t c m : ℕ} → m < FAR → from ≤ t → t ≤ q.end → c < 64 → Finishes q t c m → Finishes q t c l
  nothing_more far a b fits (ends e v h) = ends e v (le_trans (last (lt_of_le_of_lt h far)) above)
  nothing_more {t} far a b fits (acts d e f) =
      acts d e
      (nothing_more far (omega arith) d (effect_fits q.site owner (q.event t) (named t a d) _ fits) f)
  nothing_more {t} far a b fits (writes h d) = writes h (le_trans (back t a b (lt_trans d far)) above)
  nothing_more {t} {c} far a b fits (moves i v f) =
      let d : ℕ = moved q.site.owner i c in
      let less : d < 64 = moved_fits q.site.owner i c owner fits in
      let r = same t d a b less (nothing_more (omega arith) a b less f) in
      let one : suc (l - 1) ≡ l = omega (arith, r.0) in
      subst (Finishes q t c) one (moves i v r.1)
