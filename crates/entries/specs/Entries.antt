-- What an entry and a site mean, and what an action makes of an entry, in the words of `Cxl0`.
use Rattle.std.specs.Prelude.{ℕ, ◌%◌, ◌^◌, false, cond, not}
use Rattle.model.specs.Cxl0
use Rattle.model.specs.Cxl0.{Value, Home, nowhere, keeps, Topology, Action}
use Rattle.model.specs.OneLocation.{Local, Site, enabled_at, effect}
use Rattle.model.specs.Operations.{is_operation}
use Rattle.model.specs.Meaning.{meant}
use Rattle.model.specs.declared.Event as event
use Rattle.entries.specs.declared.Entry as entry
use Rattle.entries.specs.declared.Acted as acted
use Rattle.entries.specs.declared.Site as site

-- What the program's site says of its location.
abbrev pub site_meant : site.Site → Site
site_meant s = record { owner = s.owner.0; volatile = s.volatile; initial = s.initial }

-- The site of a location by its home.
unfoldable pub site_at : Topology → Home → Site
site_at sys h =
    record { owner = h.owner; volatile = not (keeps sys.persistent h); initial = h.initial }

-- The short form that an entry stands for.
unfoldable pub short_of : entry.Entry → Local
short_of e = record { code = e.sharers; copy = e.copy; memory = e.memory }

-- The entry of a short form. A byte has no bit for a machine above 8.
unfoldable pub entry_of : Local → entry.Entry
entry_of s = record { sharers = s.code % 256; copy = s.copy; memory = s.memory }

-- The entry of a location at the start: no copies, and its initial value in memory.
abbrev pub start_entry : Value → entry.Entry
start_entry v = record { sharers = 0; copy = 0; memory = v }

-- That of a location that is not listed.
abbrev pub empty_entry : entry.Entry
empty_entry = start_entry nowhere.initial

-- The entry with the copies of machines 1 to n and no others.
unfoldable pub masked_to : ℕ → entry.Entry → entry.Entry
masked_to n e = record { sharers = e.sharers % 2 ^ n; copy = e.copy; memory = e.memory }

-- The answer to an action at a site: whether its entry e enables it, and the entry after it.
unfoldable pub acted_of : Site → Action → entry.Entry → acted.Acted
acted_of k a e = record { enabled = enabled_at k a (short_of e); entry = entry_of (effect k a (short_of e)) }

-- The answer to an event by its operation number. A number that is no operation's is not enabled and changes nothing.
unfoldable pub acted_by : Site → event.Event → entry.Entry → acted.Acted
acted_by k e s =
    cond (is_operation e.operation) (acted_of k (Cxl0.event (meant e)) s) (record { enabled = false; entry = s })
