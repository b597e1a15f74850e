-- What an event of a site makes of the waypoint where the walk stands.
use Rattle.std.specs.Prelude.{◌<◌, ◌≡◌}
use Rattle.model.specs.Cxl0.{Value, Event, event}
use Rattle.model.specs.OneLocation.{enabled_at, effect}
use Rattle.entries.specs.Entries.{site_meant, short_of}
use Rattle.entries.specs.declared.Acted.{Acted}
use Rattle.entries.specs.declared.Site.{Site}
use Rattle.rows.specs.Rows.{state}
use Rattle.scratch.specs.declared.Waypoint.{Waypoint}

-- The answer says whether the event is possible at p, where copies have the value u, and the state after it.
pub record Acts (s : Site) (e : Event) (u : Value) (p : Waypoint) (made : Acted) : Type 0 where
  pub enabled : made.enabled ≡ enabled_at (site_meant s) (event e) (state p.code u p.memory)
  pub leads : short_of made.entry ≡ effect (site_meant s) (event e) (state p.code u p.memory)
  pub fits : made.entry.sharers < 64
