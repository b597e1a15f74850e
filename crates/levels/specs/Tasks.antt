-- A task: a stretch of the events in the scratch area with what is to pay behind it; its levels, and what the passes
-- over it ask and leave.
use Rattle.std.specs.Prelude.{ℕ, zero, suc, ◌+◌, ◌-◌, ◌≤◌, ◌<◌, ◌≡◌, ◌↔◌, ◌⊎◌, Bool, true, false, cond, not, ◌||◌, List, eqb, leb, length, get_or}
use Rattle.masks.specs.Sets.{Exactly, OneToSix}
use Rattle.rows.specs.Sites.{Known}
use Rattle.scratch.specs.Layout.{WORDS, MOST, LEVELS, BACKS, OnlyIn}
use Rattle.scratch.specs.Words.{event_in, struct_in}
use Rattle.levels.specs.Stretches.{FAR, Stretch, Finishes, Onward, Inner}
use Rattle.levels.specs.declared.Closing.{Closing}
use Rattle.levels.specs.declared.Closing.TheVariants.{Open, Same, Other}
use Rattle.levels.specs.declared.Task.{Task}

-- The mask of gap t, and what is left to pay after a write-back there.
abbrev pub level_in : List ℕ → ℕ → ℕ
level_in w t = get_or w (LEVELS + t) 0

abbrev pub back_in : List ℕ → ℕ → ℕ
back_in w t = get_or w (BACKS + t) 0

-- Memory has the value of the copies at gap t.
abbrev pub reads_at : Task → ℕ → Bool
reads_at task t = cond (leb t task.reset) task.same task.later

-- What is left to pay after a write-back at gap t, where the task has write-backs.
abbrev pub back_at : Task → List ℕ → ℕ → ℕ
back_at task w t = cond task.writes (back_in w t) FAR

-- How a stretch closes, by the number that stands for it.
abbrev pub closing_at : ℕ → Closing
closing_at zero = Open
closing_at (suc zero) = Same
closing_at (suc (suc n)) = Other

-- The codes that the event after the last gap accepts. Open: it reads nothing, or there is none; Same: it reads the
-- value of the copies; Other: it reads another value.
abbrev pub accepting : Closing → (reads : Bool) → ℕ → Bool
accepting Open reads c = true
accepting Same reads c = not (eqb c 0) || reads
accepting Other reads c = eqb c 0

-- From gap `from` on, the task is that of the stretch.
pub record Tasked (task : Task) (from : ℕ) (w : List ℕ) (q : Stretch) : Type 0 where
  pub owner : q.site.owner ≡ task.owner.0
  pub end : q.end ≡ task.end
  pub last : q.last ≡ task.last
  pub events : (t : ℕ) → from ≤ t → t < task.end → q.event t ≡ event_in w t
  pub inner : (t : ℕ) → from ≤ t → t < task.end → Inner q.copy (event_in w t)
  pub backs : (t : ℕ) → from ≤ t → t ≤ task.end → q.back t ≡ back_at task w t
  pub reads : (t : ℕ) → from ≤ t → t ≤ task.end → eqb (q.memory t) q.copy ≡ reads_at task t
  pub accepts : (c : ℕ) → q.accepts c ≡ accepting task.closing (reads_at task task.end) c

-- The area has the events of the task, and its numbers are bounds: there is nothing to finish below `low`, and every
-- number of steps that is to pay behind a write-back, that one included, or behind the last gap, is at most `high`.
pub record Ready (task : Task) (from : ℕ) (w : List ℕ) : Type 0 where
  pub room : WORDS ≤ length w
  pub order : from ≤ task.end
  pub few : task.end ≤ MOST
  pub owner : OneToSix task.owner.0
  pub known : (t : ℕ) → from ≤ t → t < task.end → Known (struct_in w t)
  pub low_last : task.low ≤ task.last
  pub low_back : (t : ℕ) → from ≤ t → t ≤ task.end → task.low ≤ suc (back_at task w t)
  pub high_last : task.last < FAR → task.last ≤ task.high
  pub high_back : (t : ℕ) → from ≤ t → t ≤ task.end → back_at task w t < FAR → suc (back_at task w t) ≤ task.high
  pub stretch : Stretch
  pub tasked : Tasked task from w stretch

-- The mask has the codes of gap t that finish within l steps.
abbrev pub LevelAt : Stretch → ℕ → ℕ → ℕ → Type 0
LevelAt q t l m = Exactly m (λ c. Finishes q t c l)

-- The masks of the gaps from `from` on have the codes that finish within l steps.
abbrev pub Leveled : Stretch → ℕ → ℕ → List ℕ → Type 0
Leveled q from l w = (t : ℕ) → from ≤ t → t ≤ q.end → LevelAt q t l (level_in w t)

-- Only masks of gaps from `from` to `end` have changed.
abbrev pub OnlyLevels : ℕ → ℕ → List ℕ → List ℕ → Type 0
OnlyLevels from end w w' = OnlyIn (LEVELS + from) (LEVELS + (end + 1)) w w'

-- ---- one gap

-- The mask of gap t at the level below, which is empty at the lowest level: in the scratch area, and what it has.
abbrev pub below_in : Task → ℕ → List ℕ → ℕ → ℕ
below_in task level w t = cond (eqb level task.low) 0 (level_in w t)

abbrev pub BelowAt : Task → ℕ → Stretch → ℕ → ℕ → Type 0
BelowAt task level q t m =
    ((level ≡ task.low) × (m ≡ 0)) ⊎ ((task.low < level) × LevelAt q t (level - 1) m)

-- The mask is that of gap t by what comes after it, if `rest` is that of the next gap.
abbrev pub OnwardOf : Task → ℕ → ℕ → List ℕ → (rest r : ℕ) → Type 0
OnwardOf task t level w rest r =
    (q : Stretch) → Tasked task t w q → (t < task.end → LevelAt q (suc t) level rest)
    → Exactly r (λ c. Onward q t c level)

-- The mask is that of gap t, if `rest` is that of the next gap and `under` that of this gap at the level below.
abbrev pub GapOf : Task → ℕ → ℕ → List ℕ → (rest under r : ℕ) → Type 0
GapOf task t level w rest under r =
    (q : Stretch) → Tasked task t w q → (t < task.end → LevelAt q (suc t) level rest) → BelowAt task level q t under
    → LevelAt q t level r

-- ---- one pass

-- The masks are those of the level below, or this is the lowest level.
abbrev pub Under : Task → ℕ → ℕ → List ℕ → Stretch → Type 0
Under task from level w q = (level ≡ task.low) ⊎ ((task.low < level) × Leveled q from (level - 1) w)

pub record Passable (task : Task) (from level : ℕ) (w : List ℕ) : Type 0 where
  pub ready : Ready task from w
  pub least : task.low ≤ level
  pub most : level < FAR
  pub under : Under task from level w ready.stretch

-- The masks are those of the level. If none of them has changed, no code finishes within so many steps that does not
-- within one less.
pub record Passed (task : Task) (from level : ℕ) (w : List ℕ) (more : Bool) (w' : List ℕ) : Type 0 where
  pub frame : OnlyLevels from task.end w w'
  pub levels : (q : Stretch) → Tasked task from w q → Under task from level w q → Leveled q from level w'
  pub same : more ≡ false → (q : Stretch) → Tasked task from w q → Under task from level w q
      → (t c : ℕ) → from ≤ t → t ≤ task.end → c < 64 → Finishes q t c level
      → (task.low < level) × Finishes q t c (level - 1)

-- ---- the fewest steps

-- The number is that of the fewest steps from code c, if these are fewer than `below`, and else FAR.
pub record Counted (q : Stretch) (from c below r : ℕ) : Type 0 where
  pub most : r ≤ FAR
  pub exact : (l : ℕ) → l < below → Finishes q from c l ↔ (r ≤ l)
  pub far : below ≤ r → r ≡ FAR

pub record Fewest (task : Task) (from c below : ℕ) (w : List ℕ) (r : ℕ) (w' : List ℕ) : Type 0 where
  pub frame : OnlyLevels from task.end w w'
  pub counted : (q : Stretch) → Tasked task from w q → Counted q from c below r

-- ---- the level below a number of steps

pub record Built (task : Task) (from r : ℕ) (w w' : List ℕ) : Type 0 where
  pub frame : OnlyLevels from task.end w w'
  pub levels : task.low < r → (q : Stretch) → Tasked task from w q → Leveled q from (r - 1) w'
