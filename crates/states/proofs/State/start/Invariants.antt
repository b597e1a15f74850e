-- The entries before `at` have their initial values.
use Prim.Native.Nat.{ℕ, ◌<◌}
use mathlib.Core.Path.{◌≡◌}
use lib.ListN.{length, get_or}
use Rattle.model.specs.Cxl0.{initial}
use Rattle.model.specs.Meaning.{topology_of}
use Rattle.entries.specs.Entries.{start_entry, empty_entry}
use Rattle.states.proofs.State.start.Given as goal

abbrev pub invariant-loop-at : goal.invariant-loop-at
invariant-loop-at l =
    (length l.entry-items ≡ 32)
    × ((y : ℕ) → y < l.at → get_or l.entry-items y empty_entry ≡ start_entry (initial (topology_of l.t) y))
