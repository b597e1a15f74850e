-- The events of a block as segments: what an event is to a segment, and what splitting leaves.
use Rattle.std.specs.Prelude.{ℕ, suc, ◌≤◌, ◌<◌, ◌≡◌, Bool, true, false, cond, Option, None, Some, List, eqb, length}
use Rattle.model.specs.Cxl0.{Value, Event, LStore, RStore, MStore, Load, LFlush, RFlush, Crash, SetCrash, RMW, L, R, M}
use Rattle.masks.specs.Sets.{OneToSix}
use Rattle.entries.specs.Entries.{site_meant}
use Rattle.entries.specs.declared.Site.{Site}
use Rattle.rows.specs.Sites.{Known}
use Rattle.scratch.specs.declared.Waypoint.{Waypoint}
use Rattle.scratch.specs.Layout.{WORDS, MOST, SEGMENTS, LOG, OnlyIn}
use Rattle.scratch.specs.Words.{event_in, struct_in}
use Rattle.segments.specs.Words.{segment_in}
use Rattle.segments.specs.Segments.{Segmented}
use Rattle.segments.specs.declared.words.Block.{Block}
use Rattle.levels.specs.declared.Closing.{Closing}
use Rattle.levels.specs.declared.Closing.TheVariants.{Open, Same, Other}
use Rattle.blocks.specs.declared.splitting.Place.{Place}
use Rattle.blocks.specs.declared.splitting.Kind.{Kind}
use Rattle.blocks.specs.declared.splitting.Kind.TheVariants.{Inside, Store, ReadStore}
use Rattle.blocks.specs.declared.splitting.Kind.TheVariants.{MemoryStore, ReadMemoryStore, OtherRead}

-- The waypoint at a place.
abbrev pub waypoint_at : Place → Waypoint
waypoint_at p = record { code = p.code; memory = p.memory; end = p.end }

-- What an event is to a segment whose copies have the value u.
unfoldable pub kind_of : Value → Event → Kind
kind_of u (LStore i x v) = Store
kind_of u (RStore i x v) = Store
kind_of u (MStore i x v) = MemoryStore
kind_of u (Load i x v) = cond (eqb v u) Inside OtherRead
kind_of u (LFlush i x) = Inside
kind_of u (RFlush i x) = Inside
kind_of u (Crash i) = Inside
kind_of u (SetCrash set) = Inside
kind_of u (RMW L i x v w) = cond (eqb v u) ReadStore OtherRead
kind_of u (RMW R i x v w) = cond (eqb v u) ReadStore OtherRead
kind_of u (RMW M i x v w) = cond (eqb v u) ReadMemoryStore OtherRead

-- After an event of the kind the state is known, and its block ends with it.
abbrev pub ends_block : Kind → Bool
ends_block Inside = false
ends_block Store = false
ends_block ReadStore = false
ends_block MemoryStore = true
ends_block ReadMemoryStore = true
ends_block OtherRead = true

-- How a segment closes with an event of the kind.
abbrev pub closing_of : Kind → Closing
closing_of Inside = Open
closing_of Store = Open
closing_of ReadStore = Same
closing_of MemoryStore = Open
closing_of ReadMemoryStore = Same
closing_of OtherRead = Other

-- The value that memory must have for an event of the kind that reads the value v.
abbrev pub forced_of : Kind → Value → Option Value
forced_of Inside v = None
forced_of Store v = None
forced_of ReadStore v = None
forced_of MemoryStore v = None
forced_of ReadMemoryStore v = None
forced_of OtherRead v = Some v

-- The area has k known events, and the walk stands before one of them.
pub record Splittable (site : Site) (p : Place) (k : ℕ) (w : List ℕ) : Type 0 where
  pub room : WORDS ≤ length w
  pub few : k ≤ MOST
  pub owner : OneToSix site.owner.0
  pub before : p.gap < k
  pub fits : p.code < 64
  pub known : (j : ℕ) → j < k → Known (struct_in w j)

-- An event after which the state is known follows the last segment and ends the block; if it must read from memory, the
-- block has its value.
abbrev pub KnownEnd : List ℕ → Block → List ℕ → Type 0
KnownEnd w b w' =
    (last : ℕ)
    × (suc last ≡ b.count)
    × (suc (segment_in w' last).end ≡ b.end)
    × (ends_block (kind_of (segment_in w' last).copy (event_in w (segment_in w' last).end)) ≡ true)
    × (kind_of (segment_in w' last).copy (event_in w (segment_in w' last).end) ≡ OtherRead
    → b.forced ≡ Some (struct_in w (segment_in w' last).end).value)

-- The block begins at the place and ends with the first event after which the state is known, or with the events.
pub record Split (site : Site) (p : Place) (k : ℕ) (w : List ℕ) (b : Block) (w' : List ℕ) : Type 0 where
  pub frame : OnlyIn SEGMENTS LOG w w'
  pub segmented : Segmented (site_meant site) w' b 0
  pub some : 0 < b.count
  pub first : (segment_in w' 0).first ≡ p.gap
  pub code : (segment_in w' 0).code ≡ p.code
  pub copy : (segment_in w' 0).copy ≡ p.copy
  pub longer : p.gap < b.end
  pub most : b.end ≤ k
  -- what comes after the last segment, if that is not the end of the events
  pub last : b.end < k → KnownEnd w b w'
