-- Sets of codes 0 to 63 as masks: bit t of a mask is set if code t is in the set.
use Rattle.std.specs.Prelude.{ℕ, ◌-◌, ◌≤◌, ◌<◌, ◌/◌, ◌%◌, ◌^◌, ◌≡◌, ◌↔◌}
use Rattle.model.specs.Cxl0.{Machine}
use Rattle.model.specs.OneLocation.{Moves}

abbrev pub In : ℕ → ℕ → Type 0
In t m = m / 2 ^ t % 2 ≡ 1

-- The mask of every code.
unfoldable pub every_code : ℕ
every_code = 2 ^ 64 - 1

-- Of the codes below 64, the mask has exactly those with P.
abbrev pub Exactly : ℕ → (ℕ → Type 0) → Type 0
Exactly m P = (t : ℕ) → t < 64 → In t m ↔ P t

-- z is the least code in the mask.
abbrev pub Least : ℕ → ℕ → Type 0
Least z m = In z m × ((t : ℕ) → In t m → z ≤ t)

-- Moves to the owner k, or none, take code t into the mask.
abbrev pub Leads : Machine → ℕ → ℕ → Type 0
Leads k m t = (d : ℕ) × (d < 64) × Moves k t d × In d m

-- A machine's number. With these the codes are those below 64.
abbrev pub OneToSix : Machine → Type 0
OneToSix i = (1 ≤ i) × (i ≤ 6)
