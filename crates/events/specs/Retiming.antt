-- The words of steps whose counts of kept events become counts of the log's events.
use Rattle.std.specs.Prelude.{ℕ, ◌+◌, ◌*◌, ◌-◌, ◌≤◌, ◌<◌, ◌≡◌, List, map, length, get_or}
use Rattle.std.proofs.Math.Seq.{slice}
use Rattle.model.specs.Schedule.{Step}
use Rattle.model.specs.Words.{step_of_word}
use Rattle.scratch.specs.Layout.{EVENTS, STEPS, WORDS, MOST, MOST-STEPS, OnlyIn}
use Rattle.scratch.specs.Words.{count_of}
use Rattle.events.specs.Thinning.{retimed}
use Rattle.events.specs.Linking.{index_in, indices_in}

-- The words of the list of steps from number `from` to number `to`, the second not included.
abbrev pub words_between : ℕ → ℕ → List ℕ → List ℕ
words_between from to w = slice (STEPS + from) (STEPS + to) w

-- The list has room, the k events have indices of the log, and each of these words has at least one of them before it.
pub record Retimable (k from to : ℕ) (w : List ℕ) : Type 0 where
  pub room : WORDS ≤ length w
  pub few : k ≤ MOST
  pub order : from ≤ to
  pub short : to ≤ 2 * MOST-STEPS
  pub indices : (t : ℕ) → t < k → index_in EVENTS w t < MOST
  pub counts : (j : ℕ) → from ≤ j → j < to
      → (0 < count_of (get_or w (STEPS + j) 0)) × (count_of (get_or w (STEPS + j) 0) ≤ k)

-- Their steps are retimed by the indices of the k events from EVENTS on, and no other word has changed.
pub record Retimed (k from to : ℕ) (w w' : List ℕ) : Type 0 where
  pub frame : OnlyIn (STEPS + from) (STEPS + to) w w'
  pub steps : map step_of_word (words_between from to w')
      ≡ retimed (indices_in w k) (map step_of_word (words_between from to w))

-- The step with another count of events before it.
abbrev pub with_count : ℕ → Step → Step
with_count n p = record { before = n; location = p.location; machine = p.machine }

-- The index of the kept event before the step of the word v.
abbrev pub index_before : List ℕ → ℕ → ℕ
index_before w v = index_in EVENTS w (count_of v - 1)

-- The word r has the step of the word v, right after the kept event before it.
abbrev pub WordRetimed : List ℕ → ℕ → ℕ → Type 0
WordRetimed w v r = step_of_word r ≡ with_count (index_before w v + 1) (step_of_word v)
