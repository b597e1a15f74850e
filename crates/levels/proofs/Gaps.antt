-- The mask of a gap, of the masks that its codes are taken from: by what comes after the gap, by a write-back, and by a
-- move to the level below.
use Prim.Native.Nat.{ℕ, suc, ◌≤◌, ◌<◌}
use native.Mathlib.Nat.{le_refl}
use native.Mathlib.Omega.{arith}
use mathlib.Core.Path.{◌≡◌, sym}
use mathlib.Core.Logic.Iff
use mathlib.Core.Logic.{◌⊎◌, inl, inr, ⊎_elim, ⊎_map, ◌↔◌}
use mathlib.Core.Bool.{Bool, true, false, true≢false, cond, not, ◌&&◌}
use mathlib.Core.List.{List}
use borrow.Author.Tests.{ltb-true, ltb-false}
use lib.Dec.{T, eqb, eqb→eq, ltb}
use lib.Bits.{bit_or}
use Rattle.model.specs.Cxl0.{Machine}
use Rattle.model.specs.Sharers.{has}
use Rattle.model.specs.OneLocation.{moved}
use Rattle.model.specs.Meaning.{meant}
use Rattle.model.proofs.Tests.{by_test, ne_test}
use Rattle.masks.specs.Sets.{In, Exactly}
use Rattle.masks.proofs.Sets.{in_none}
use Rattle.masks.proofs.Codes.{moved_fits}
use Rattle.rows.proofs.FineRows.{exactly_or}
use Rattle.rows.proofs.RowSteps.{effect_fits}
use Rattle.scratch.specs.Words.{event_in, struct_in}
use Rattle.levels.specs.declared.Task.{Task}
use Rattle.levels.specs.Stretches.{FAR, Stretch, state_at, Finishes, Onward, Over}
use Rattle.levels.specs.Tasks.{reads_at, Tasked, Ready, LevelAt, BelowAt, OnwardOf}
use Rattle.levels.proofs.Levels.{Writes, Below, MovesBelow, level_inner, level_end}
use Rattle.levels.proofs.Tasks.{stretch_owner, stretch_named, stretch_low_last, stretch_low_back}

-- One move to the owner k takes code c into the mask.
abbrev pub MovesInto : Machine → ℕ → ℕ → Type 0
MovesInto k under c = (i : Machine) × T (not (eqb i k) && has i c) × In (moved k i c) under

-- The first of two ways, put in other words.
or_first : {A B C : Type 0} → A ↔ C → (A ⊎ B) ↔ (C ⊎ B)
or_first e = (⊎_map e.0 (λ b. b), ⊎_map e.1 (λ b. b))

-- A write-back pays where there are write-backs and what is left to pay then is less.
pub pays : (b : Bool) (x level : ℕ) → (b && ltb x level) ≡ true → cond b x FAR < level
pays true x level e = ltb-true x level e
pays false x level e = absurd (true≢false (sym e))

pub pays_not : (b : Bool) (x level : ℕ) → level ≤ FAR → (b && ltb x level) ≡ false → level ≤ cond b x FAR
pays_not true x level l e = ltb-false x level e
pays_not false x level l e = l

module _ {task : Task} {t : ℕ} {w : List ℕ} (ready : Ready task t w) (level : ℕ) where
  -- A gap before the last one.
  pub onward_inner : (rest r : ℕ) → t < task.end → Over (meant (struct_in w t)) (reads_at task t) rest r
      → OnwardOf task t level w rest r
  unfolding event_in
  onward_inner rest r inside m q s next c h =
      let e : q.event t ≡ meant (struct_in w t) = s.events t (le_refl t) inside in
      let before : t < q.end = rw s.end inside in
      let fits = effect_fits q.site (stretch_owner ready s) (q.event t) (stretch_named ready s t (le_refl t) before)
      (state_at q t c) h in
      let over = m q.site q.copy (q.memory t) (s.inner t (le_refl t) inside)
      (s.reads t (le_refl t) (omega arith)) c h in
      Iff.trans (rw (← e) at over) (
        λ (a, i). inr (before, a, (next inside _ fits).0 i),
        ⊎_elim
            (λ p. absurd (omega (arith, p.0)))
            (λ (b, a, f). (a, (next inside _ fits).1 f)),
      )

  -- A gap's codes are those by what comes after it, by a write-back, and by a move to the level below.
  module _ (q : Stretch) (s : Tasked task t w q) (least : task.low ≤ level) where
    abbrev Ways : ℕ → Type 0
    Ways c = Onward q t c level ⊎ (Writes q t c level ⊎ MovesBelow q task.low level t c)

    ways : (c : ℕ) → Finishes q t c level ↔ Ways c
    ways c =
        by_test (eqb t q.end)
        (λ e.
        let last = eqb→eq t q.end e in
        Iff.trans (level_end q t task.low low back t c level (le_refl t) last least)
        (or_first (λ (a, l). inl (last, a, l), ⊎_elim (λ (e, a, l). (a, l)) (λ p. absurd (omega (arith, p.0))))))
        (λ e.
        let before : t < q.end = omega (arith, ne_test t q.end e, s.end, ready.order) in
        Iff.trans (level_inner q t task.low low back t c level (le_refl t) before least)
        (or_first (λ (a, f). inr (before, a, f), ⊎_elim (λ p. absurd (omega (arith, p.0))) (λ (b, a, f). (a, f)))))
      where
        low : task.low ≤ q.last
        low = stretch_low_last ready s

        back : (t' : ℕ) → t ≤ t' → t' ≤ q.end → task.low ≤ suc (q.back t')
        back = stretch_low_back ready s

    -- The mask of the level below, and the codes from which one move leads into it.
    below : (under : ℕ) → BelowAt task level q t under → Exactly under (Below q task.low level t)
    below under (inl (e, z)) c h = (λ i. absurd (in_none c (rw z at i)), λ b. absurd (b.0 e))
    below under (inr (l, m)) c h = (λ i. (λ e. omega arith, (m c h).0 i), λ b. (m c h).1 b.1)

    -- `onward` has the codes by what comes after the gap, `moving` those from which one move leads into `under`.
    module _ (onward moving under : ℕ) (o : Exactly onward (λ c. Onward q t c level)) (b : BelowAt task level q t under)
        (v : Exactly moving (MovesInto task.owner.0 under)) where
      moves_there : Exactly moving (MovesBelow q task.low level t)
      moves_there c h =
          let v' = rw (← s.owner) at v in
          Iff.trans (v' c h) (
            λ (i, u, m). (i, u, (below under b _ (fits i)).0 m),
            λ (i, u, m). (i, u, (below under b _ (fits i)).1 m),
          )
        where
          fits : (i : Machine) → moved q.site.owner i c < 64
          fits i = moved_fits q.site.owner i c (stretch_owner ready s) h

      reached : Exactly (bit_or onward moving) (λ c. Onward q t c level ⊎ MovesBelow q task.low level t c)
      reached = exactly_or onward moving _ _ o moves_there

      -- No write-back pays.
      pub gap_dry : level ≤ q.back t → LevelAt q t level (bit_or onward moving)
      gap_dry d c h =
          Iff.trans (reached c h)
          (Iff.trans
          (⊎_map (λ a. a) inr, ⊎_map (λ a. a) (⊎_elim (λ p. absurd (omega (arith, p.1))) (λ a. a)))
          (Iff.symm (ways c)))

      -- A write-back of each code with the owner does.
      pub gap_back : q.back t < level → (hold : ℕ) → Exactly hold (λ c. T (has task.owner.0 c))
          → LevelAt q t level (bit_or (bit_or onward moving) hold)
      gap_back d hold k c h =
          Iff.trans (exactly_or (bit_or onward moving) hold _ _ reached (rw (← s.owner) at k) c h)
          (Iff.trans (there, back) (Iff.symm (ways c)))
        where
          there : (Onward q t c level ⊎ MovesBelow q task.low level t c) ⊎ T (has q.site.owner c) → Ways c
          there = ⊎_elim (⊎_map (λ a. a) inr) (λ u. inr (inl (u, d)))

          back : Ways c → (Onward q t c level ⊎ MovesBelow q task.low level t c) ⊎ T (has q.site.owner c)
          back = ⊎_elim (λ a. inl (inl a)) (⊎_elim (λ p. inr p.0) (λ m. inl (inr m)))
