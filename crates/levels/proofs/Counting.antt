-- Passes one after the other: which level the masks have come to, and what is known of the fewest steps then.
use Prim.Native.Nat.{ℕ, ◌+◌, ◌-◌, ◌≤◌, ◌<◌}
use native.Mathlib.Nat.{le_refl, le_of_suc-le-suc, lt_of_not-le}
use native.Mathlib.Omega.{arith}
use mathlib.Core.Path.{◌≡◌, refl, subst}
use mathlib.Core.Logic.{inl, inr, ⊎_elim, ◌↔◌}
use mathlib.Core.Bool.{Bool, false}
use mathlib.Core.List.{List}
use lib.Dec.{eqb, eqb→eq}
use Rattle.model.proofs.Tests.{by_test, ne_test}
use Rattle.masks.specs.Sets.{In}
use Rattle.scratch.specs.Layout.{LEVELS}
use Rattle.scratch.proofs.Frames.{only_none, only_then}
use Rattle.levels.specs.declared.Task.{Task}
use Rattle.levels.specs.Stretches.{FAR, Stretch, Finishes}
use Rattle.levels.specs.Tasks.{level_in, Tasked, Ready, Leveled, OnlyLevels, Under, Passable, Passed}
use Rattle.levels.specs.Tasks.{Counted, Fewest, Built}
use Rattle.levels.proofs.Levels.{finishes_more, nothing_below, nothing_more}
use Rattle.levels.proofs.Tasks.{stretch_order, stretch_within, stretch_owner, stretch_named}
use Rattle.levels.proofs.Tasks.{stretch_low_last, stretch_low_back, stretch_high_last, stretch_high_back}
use Rattle.levels.proofs.Tasks.{tasked_kept, ready_kept}

-- ---- the level reached

-- The passes below `level` are made; they have led from the area w to the area w'.
pub record Reached (task : Task) (from level : ℕ) (w w' : List ℕ) : Type 0 where
  pub least : task.low ≤ level
  pub frame : OnlyLevels from task.end w w'
  pub under : (q : Stretch) → Tasked task from w q → Under task from level w' q

-- Before the first pass.
pub reached_none : (task : Task) (from : ℕ) (w : List ℕ) → Reached task from task.low w w
reached_none task from w =
    record {
      least = le_refl task.low;
      frame = only_none (LEVELS + from) (LEVELS + (task.end + 1)) w;
      under = λ q s. inl refl;
    }

module _ {task : Task} {from level : ℕ} {w w' : List ℕ} (ready : Ready task from w)
    (reached : Reached task from level w w') where
  -- The next pass may be made.
  pub passable : level < FAR → Passable task from level w'
  unfolding ready_kept
  passable far =
      record {
        ready = ready_kept task from ready.few reached.frame ready;
        least = reached.least;
        most = far;
        under = reached.under ready.stretch ready.tasked;
      }

  module _ {more : Bool} {w'' : List ℕ} (passed : Passed task from level w' more w'') where
    -- A stretch of the task at first is one still; what the pass says of it.
    still : {q : Stretch} → Tasked task from w q → Tasked task from w' q
    still s = tasked_kept task from ready.few reached.frame s

    leveled : (q : Stretch) → Tasked task from w q → Leveled q from level w''
    leveled q s = passed.levels q (still s) (reached.under q s)

    same : more ≡ false → (q : Stretch) → Tasked task from w q → (t c : ℕ) → from ≤ t → t ≤ q.end → c < 64
        → Finishes q t c level → (0 < level) × Finishes q t c (level - 1)
    same none q s t c a b h f =
        let r = passed.same none q (still s) (reached.under q s) t c a (stretch_within ready s t b) h f in
        (omega (arith, r.0), r.1)

    -- After it the masks are one level further.
    pub reached_more : Reached task from (level + 1) w w''
    reached_more =
        let one : level ≡ level + 1 - 1 = omega arith in
        record {
          least = omega (arith, reached.least);
          frame = only_then reached.frame passed.frame;
          under = λ q s. inr (omega (arith, reached.least), subst (λ (l : ℕ). Leveled q from l w'') one (leveled q s));
        }

-- Once level r is reached, the masks are those of the level below it.
pub built : {task : Task} {from level : ℕ} {w w' : List ℕ} → Reached task from level w w'
    → (r : ℕ) → r ≤ level → (task.low < r → level ≤ r)
    → Built task from r w w'
built {task} {from} {level} {w} {w'} reached r high most = record { frame = reached.frame; levels = levels }
  where
    levels : task.low < r → (q : Stretch) → Tasked task from w q → Leveled q from (r - 1) w'
    levels low q s =
        let all : level ≡ r = omega (arith, most low) in
        ⊎_elim
        (λ z. absurd (omega arith))
        (λ u. subst (λ (l : ℕ). Leveled q from (l - 1) w') all u.1)
        (reached.under q s)

-- ---- the fewest steps

-- The passes below `level` are made, and within fewer steps than that code c does not finish.
pub record Tried (task : Task) (from c level : ℕ) (w w' : List ℕ) : Type 0 where
  pub reached : Reached task from level w w'
  pub none : (q : Stretch) → Tasked task from w q → (l : ℕ) → l < level → ¬ Finishes q from c l

-- Before the first pass, since nothing finishes below the lowest level.
pub tried_none : {task : Task} {from : ℕ} {w : List ℕ} → Ready task from w → (c : ℕ)
    → Tried task from c task.low w w
tried_none {task} {from} {w} ready c = record { reached = reached_none task from w; none = none }
  where
    least : (q : Stretch) → Tasked task from w q → {l : ℕ} → Finishes q from c l → task.low ≤ l
    least q s =
        nothing_below q from task.low (stretch_low_last ready s) (stretch_low_back ready s) (le_refl from)
        (stretch_order ready s)

    none : (q : Stretch) → Tasked task from w q → (l : ℕ) → l < task.low → ¬ Finishes q from c l
    none q s l h f = absurd (omega (arith, least q s f))

module _ {task : Task} {from c level : ℕ} {w w' : List ℕ} (ready : Ready task from w)
    (tried : Tried task from c level w w') (fits : c < 64) {more : Bool} {w'' : List ℕ}
    (passed : Passed task from level w' more w'') where
  frame : OnlyLevels from task.end w w''
  frame = only_then tried.reached.frame passed.frame

  -- After the next pass the first mask tells whether code c finishes within `level` steps.
  tells : (q : Stretch) → Tasked task from w q → In c (level_in w'' from) ↔ Finishes q from c level
  tells q s = leveled ready tried.reached passed q s from (le_refl from) (stretch_order ready s) c fits

  -- If it does, these are the fewest.
  pub found : (below : ℕ) → below ≤ FAR → level < below → In c (level_in w'' from)
      → Fewest task from c below w level w''
  found below far less i = record { frame = frame; counted = counted }
    where
      counted : (q : Stretch) → Tasked task from w q → Counted q from c below level
      counted q s =
          record {
            most = omega arith;
            exact = λ l h. (
              λ f. le_of_suc-le-suc (lt_of_not-le (λ b. tried.none q s l b f)),
              λ b. finishes_more q ((tells q s).0 i) b,
            );
            far = λ b. absurd (omega arith);
          }

  -- If it does not, the next level is to be tried,
  pub tried_more : ¬ In c (level_in w'' from) → Tried task from c (level + 1) w w''
  tried_more out = record { reached = reached_more ready tried.reached passed; none = none }
    where
      none : (q : Stretch) → Tasked task from w q → (l : ℕ) → l < level + 1 → ¬ Finishes q from c l
      none q s l h f =
          by_test (eqb l level)
          (λ e. out ((tells q s).1 (subst (Finishes q from c) (eqb→eq l level e) f)))
          (λ e. tried.none q s l (omega (arith, ne_test l level e)) f)

  -- unless no mask has changed, and no number that is to pay is greater than the level.
  pub full : (below : ℕ) → below ≤ FAR → ¬ In c (level_in w'' from) → more ≡ false → task.high ≤ level
      → Fewest task from c below w FAR w''
  full below far out unchanged high = record { frame = frame; counted = counted }
    where
      within : (q : Stretch) → Tasked task from w q → (l : ℕ) → l < FAR → Finishes q from c l → Finishes q from c level
      within q s l h f =
          nothing_more q from task.high level (stretch_owner ready s) (stretch_named ready s)
          (stretch_high_last ready s) (stretch_high_back ready s) high
          (same ready tried.reached passed unchanged q s)
          h (le_refl from) (stretch_order ready s) fits f

      counted : (q : Stretch) → Tasked task from w q → Counted q from c below FAR
      counted q s =
          record {
            most = le_refl FAR;
            exact = λ l h. (
              λ f. absurd (out ((tells q s).1 (within q s l (omega arith) f))),
              λ b. absurd (omega arith),
            );
            far = λ b. refl;
          }

-- If all levels below the bound have been tried, there is no number below it.
pub exhausted : {task : Task} {from c level : ℕ} {w w' : List ℕ} → Tried task from c level w w'
    → (below : ℕ) → below ≤ FAR → below ≤ level
    → Fewest task from c below w FAR w'
exhausted {task} {from} {c} {level} {w} {w'} tried below far high =
    record { frame = tried.reached.frame; counted = counted }
  where
    counted : (q : Stretch) → Tasked task from w q → Counted q from c below FAR
    counted q s =
        record {
          most = le_refl FAR;
          exact = λ l h. (λ f. absurd (tried.none q s l (omega arith) f), λ b. absurd (omega arith));
          far = λ b. refl;
        }
