-- What the move table says: bit t of its number for owner k and code c is set exactly when a chain of single
-- moves, or none, leads from code c to code t.
use Rattle.std.specs.Prelude.{ℕ, ◌≤◌, ◌<◌, ◌↔◌}
use Rattle.model.specs.Cxl0.{Machine}
use Rattle.model.specs.OneLocation.{Moves}
use Rattle.masks.specs.Sets.{In}

abbrev pub Reached : Machine → ℕ → ℕ → Type 0
Reached k c word = (t : ℕ) → In t word ↔ ((1 ≤ k) × (k ≤ 6) × (c < 64) × Moves k c t)
