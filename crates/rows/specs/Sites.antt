-- What the search asks of events and sites, and the value of the copies after events.
use Rattle.std.specs.Prelude.{◌<◌, ◌≡◌, false, cond, List, [], ◌∷◌, T}
use Rattle.model.specs.Cxl0.{Location, Value, Topology}
use Rattle.model.specs.Cxl0.{Event, LStore, RStore, MStore, Load, LFlush, RFlush, Crash, SetCrash, RMW}
use Rattle.model.specs.Cxl0 as cxl0
use Rattle.model.specs.OneLocation.{site_of, event_at, effect}
use Rattle.model.specs.Operations.{is_operation}
use Rattle.model.specs.Meaning.{meant}
use Rattle.model.specs.declared.Event as event
use Rattle.masks.specs.Sets.{OneToSix}
use Rattle.entries.specs.Entries.{site_meant}
use Rattle.entries.specs.declared.Site as site
use Rattle.rows.specs.Rows.{state}

-- The machines that an event names are among 1 to 6.
unfoldable pub NamesSix : Event → Type 0
NamesSix (LStore i x v) = OneToSix i
NamesSix (RStore i x v) = OneToSix i
NamesSix (MStore i x v) = OneToSix i
NamesSix (Load i x v) = OneToSix i
NamesSix (LFlush i x) = OneToSix i
NamesSix (RFlush i x) = OneToSix i
NamesSix (Crash i) = OneToSix i
NamesSix (SetCrash set) = set < 64
NamesSix (RMW form i x v w) = OneToSix i

-- The operation is one of the eleven, and the machines are among 1 to 6: so it is with the events of an accepted log.
pub record Known (e : event.Event) : Type 0 where
  pub operation : T (is_operation e.operation)
  pub machines : NamesSix (meant e)

-- The site describes its location in a system of at most six machines.
pub record Describes (sys : Topology) (s : site.Site) : Type 0 where
  pub here : site_of sys s.location.0 ≡ site_meant s
  pub machine : OneToSix s.owner.0

-- The value of the copies after an event at their location, when it was u before. It depends on nothing else, so that
-- any site, code and memory value will do.
abbrev pub copy_left : Value → Event → Value
copy_left u e = (effect (record { owner = 0; volatile = false; initial = 0 }) (cxl0.event e) (state 0 u 0)).copy

-- The value of the copies of x after an event, when it was u before.
unfoldable pub copy_after : Location → Value → Event → Value
copy_after x u e = cond (event_at x e) (copy_left u e) u

-- The value of the copies of x after a list of events, from 0.
unfoldable pub copy_from : Location → Value → List Event → Value
copy_from x u [] = u
copy_from x u (e ∷ es) = copy_from x (copy_after x u e) es
