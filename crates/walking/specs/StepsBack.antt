-- The values of the copies and the rows in the scratch area: what they say, what a step back over the events asks, and
-- what it leaves.
use Rattle.std.specs.Prelude.{ℕ, ◌≤◌, ◌<◌, ◌≡◌, List, length}
use Rattle.model.specs.Cxl0.{Location, Value, Topology, Event}
use Rattle.model.specs.OneLocation.{HasRunAt, start_at}
use Rattle.masks.specs.Sets.{OneToSix}
use Rattle.rows.specs.declared.Row.{Row}
use Rattle.entries.specs.declared.Site.{Site}
use Rattle.rows.specs.Rows.{Right, Closed}
use Rattle.rows.specs.Sites.{Known, Describes, copy_after, copy_from}
use Rattle.scratch.specs.Layout.{ROWS, STEPS, WORDS, MOST, OnlyIn}
use Rattle.scratch.specs.Words.{event_in, events_in, copy_in, struct_in}

-- The copy words of rows 0 to m have the values of the copies of x after so many events.
abbrev pub Copies : Location → ℕ → List ℕ → Type 0
Copies x m w = (t : ℕ) → t ≤ m → copy_in w t ≡ copy_from x 0 (events_in w t)

-- The row is closed, and right for the events at every system that the site describes.
pub record Answers (s : Site) (es : List Event) (u : Value) (row : Row) : Type 0 where
  pub closed : Closed u row
  pub right : (sys : Topology) → Describes sys s → Right sys s.location.0 es u row

-- The first m events have a run at the site.
abbrev pub Fits : Topology → Site → ℕ → List ℕ → Type 0
Fits sys s m w = HasRunAt sys s.location.0 (events_in w m) (start_at sys s.location.0)

-- ---- what it asks

-- The scratch area is long enough, and has m known events and the copies of the site's location.
pub record Ready (s : Site) (m : ℕ) (w : List ℕ) : Type 0 where
  pub room : WORDS ≤ length w
  pub few : m ≤ MOST
  pub owner : OneToSix s.owner.0
  pub known : (j : ℕ) → j < m → Known (struct_in w j)
  pub copies : Copies s.location.0 m w

-- Event t is known, and `rest` is closed under the copies that the event leaves.
pub record Steppable (s : Site) (t : ℕ) (w : List ℕ) (rest : Row) : Type 0 where
  pub room : WORDS ≤ length w
  pub few : t < MOST
  pub owner : OneToSix s.owner.0
  pub known : Known (struct_in w t)
  pub closed : Closed (copy_after s.location.0 (copy_in w t) (event_in w t)) rest

-- ---- what it leaves

-- Only rows have changed: not the events, nor the copies, nor what follows the rows.
pub record OnlyRows (w w' : List ℕ) : Type 0 where
  pub frame : OnlyIn ROWS STEPS w w'
  pub copies : (t : ℕ) → copy_in w' t ≡ copy_in w t
