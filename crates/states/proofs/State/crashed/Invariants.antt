-- The entries before `at` are as the crash leaves them, and the others are as they were.
use Prim.Native.Nat.{ℕ, ◌<◌, ◌≤◌}
use mathlib.Core.Path.{◌≡◌}
use lib.ListN.{length, get_or}
use Rattle.model.specs.Cxl0.{event}
use Rattle.model.specs.Meaning.{meant}
use Rattle.entries.specs.Entries.{empty_entry}
use Rattle.states.specs.States.{entry_at, entry_after}
use Rattle.states.proofs.State.crashed.Given as goal

abbrev pub invariant-loop-at : goal.invariant-loop-at
invariant-loop-at l =
    (length l.entry-items ≡ 32)
    × ((y : ℕ) → y < l.at
    → get_or l.entry-items y empty_entry ≡ entry_after l.t (event (meant l.e)) y (entry_at l.fn.self y))
    × ((y : ℕ) → l.at ≤ y → get_or l.entry-items y empty_entry ≡ entry_at l.fn.self y)
