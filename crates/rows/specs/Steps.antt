-- One event more in front of a row.
use Rattle.std.specs.Prelude.{List, ◌∷◌}
use Rattle.model.specs.Cxl0.{Topology, Event, Value}
use Rattle.rows.specs.declared.Row.{Row}
use Rattle.entries.specs.declared.Site.{Site}
use Rattle.rows.specs.Rows.{Right, Closed}
use Rattle.rows.specs.Sites.{Describes, copy_after}

-- The row is closed, and right for e and then es at every system that the site describes, if `rest` is right for es
-- there.
pub record Stepped (s : Site) (e : Event) (u : Value) (rest row : Row) : Type 0 where
  pub closed : Closed u row
  pub right : (sys : Topology) → Describes sys s → (es : List Event)
      → Right sys s.location.0 es (copy_after s.location.0 u e) rest
      → Right sys s.location.0 (e ∷ es) u row
