-- Rows: from which states of one location the rest of a log can be finished. For a given value of the copies, these
-- are the codes of `any` with every memory value, and the codes of `one` with the memory value `value`.
use Rattle.std.specs.Prelude.{ℕ, ◌<◌, ◌≡◌, ◌≢◌, ◌⊎◌, ◌↔◌, List, T}
use Rattle.model.specs.Cxl0.{Machine, Location, Value, Topology, Event, event}
use Rattle.model.specs.OneLocation.{Local, Site, enabled_at, effect, possible_at, next_at, HasRunAt, Reaches}
use Rattle.masks.specs.Sets.{In, every_code}
use Rattle.rows.specs.declared.Row.{Row}

-- A state of the location at hand.
abbrev pub state : ℕ → Value → Value → Local
state c u m = record { code = c; copy = u; memory = m }

-- Code c with memory value m is in the row.
abbrev pub Fine : Row → ℕ → Value → Type 0
Fine row c m = In c row.any ⊎ (In c row.one × (m ≡ row.value))

-- The row has no state.
abbrev pub Empty : Row → Type 0
Empty row = (c m : ℕ) → ¬ Fine row c m

-- The codes of a set, with every memory value.
unfoldable pub any_row : ℕ → Row
any_row any = record { any = any; one = 0; value = 0 }

-- After the last event: every code, with every memory value.
abbrev pub last_row : Row
last_row = any_row every_code

-- The row has exactly the states with P.
abbrev pub RowOf : (ℕ → Value → Type 0) → Row → Type 0
RowOf P row = (c m : ℕ) → c < 64 → P c m ↔ Fine row c m

-- The row has exactly the states with copies of value u from which the events have a run.
abbrev pub Right : Topology → Location → List Event → Value → Row → Type 0
Right sys x es u row = (c m : ℕ) → c < 64 → HasRunAt sys x es (state c u m) ↔ Fine row c m

-- If a write-back leads into the row, so does every code that has a copy, whatever the memory.
abbrev pub Closed : Value → Row → Type 0
Closed u row = Fine row 0 u → (c : ℕ) → c < 64 → c ≢ 0 → In c row.any

-- With code c and memory value m, where copies have the value u, an event of the site is possible and leads into the
-- row `rest`.
abbrev pub Line : Site → Event → Value → Row → ℕ → Value → Type 0
Line k e u rest c m =
    T (enabled_at k (event e) (state c u m))
    × Fine rest (effect k (event e) (state c u m)).code (effect k (event e) (state c u m)).memory

-- The row has exactly the states in which the event is possible and after which the row `rest` has the state.
abbrev pub Before : Topology → Location → Event → Value → Row → Row → Type 0
Before sys x e u rest row =
    (c m : ℕ) → c < 64
    → (T (possible_at sys x (event e) (state c u m))
    × Fine rest (next_at sys x (event e) (state c u m)).code (next_at sys x (event e) (state c u m)).memory)
    ↔ Fine row c m

-- The row has exactly the states from which silent steps lead to a state of the row `inner`.
abbrev pub Gap : Machine → Value → Row → Row → Type 0
Gap k u inner row =
    (c m : ℕ) → c < 64
    → ((d n : ℕ) × Reaches k (state c u m) (state d u n) × Fine inner d n) ↔ Fine row c m
