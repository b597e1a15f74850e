-- The shortest schedule of a block: what finding it asks and leaves.
use Rattle.std.specs.Prelude.{ℕ, suc, ◌+◌, ◌-◌, ◌*◌, ◌≤◌, ◌<◌, ◌≡◌, List, map, T, length}
use Rattle.std.specs.Prelude.{Option, IfSome, IfNone, unwrap_or}
use Rattle.model.specs.Cxl0.{Value, Topology, Event, event}
use Rattle.model.specs.OneLocation.{Local, event_at, effect, HasRunAt}
use Rattle.model.specs.ShortestAt.{ShortestFrom, KnownAfter}
use Rattle.model.specs.Paying.{Pays}
use Rattle.model.specs.Words.{step_of_word}
use Rattle.masks.specs.Sets.{OneToSix}
use Rattle.entries.specs.Entries.{site_meant}
use Rattle.entries.specs.declared.Site.{Site}
use Rattle.rows.specs.Rows.{state}
use Rattle.rows.specs.Sites.{Known, Describes}
use Rattle.scratch.specs.Layout.{WORDS, MOST, STEPS, SORTED, WAYPOINTS, LEVELS, BACKS, SEGMENTS, LOG, OnlyIn}
use Rattle.scratch.specs.Words.{event_in, struct_in, events_from, words_at}
use Rattle.levels.specs.Stretches.{FAR}
use Rattle.levels.specs.declared.Task.{Task}
use Rattle.segments.specs.Words.{segment_in, costs_in}
use Rattle.segments.specs.Costs.{rest_from, Orderly}
use Rattle.segments.specs.Segments.{Segmented, Means}
use Rattle.segments.specs.declared.words.Segment.{Segment}
use Rattle.segments.specs.declared.words.Block.{Block}
use Rattle.blocks.specs.Toward.{Walked}
use Rattle.blocks.specs.Treading.{Payable, stood}
use Rattle.blocks.specs.Splitting.{Splittable}
use Rattle.blocks.specs.declared.treading.Stand.{Stand}
use Rattle.blocks.specs.declared.splitting.Place.{Place}

-- The events from gap t to gap n.
abbrev pub between : List ℕ → ℕ → ℕ → List Event
between w t n = events_from w t (n - t)

-- ---- the costs of all segments

-- The segments of a block are in the area.
pub record Laid (site : Site) (b : Block) (w : List ℕ) : Type 0 where
  pub room : WORDS ≤ length w
  pub owner : OneToSix site.owner.0
  pub segmented : Segmented (site_meant site) w b 0

-- And so are their costs.
pub record Costed (site : Site) (b : Block) (w : List ℕ) : Type 0 where
  pub laid : Laid site b w
  pub orderly : Orderly w b 0
  pub means : Means (site_meant site) w b 0
  pub backs : (l : ℕ) → l < b.count → (costs_in w l).back ≡ rest_from w b (suc l) (segment_in w l).copy

-- The costs are put, and the segments are as they were.
pub record Priced (site : Site) (b : Block) (w w' : List ℕ) : Type 0 where
  pub frame : OnlyIn LEVELS LOG w w'
  pub segments : (j : ℕ) → segment_in w' j ≡ segment_in w j
  pub costed : Costed site b w'

-- ---- the walk through a segment

-- Segment l is one of the block, whose costs are in the area and whose events are known and concern the location.
pub record Numbered (site : Site) (b : Block) (l : ℕ) (w : List ℕ) : Type 0 where
  pub costed : Costed site b w
  pub known : (j : ℕ) → j < b.end → Known (struct_in w j)
  pub here : (j : ℕ) → j < b.end → T (event_at site.location.0 (event_in w j))
  pub number : l < b.count

-- Its task with memory value m is in the area.
pub record Planned (site : Site) (b : Block) (l : ℕ) (m : Value) (w : List ℕ) (q : Task) (w' : List ℕ) : Type 0 where
  pub frame : OnlyIn BACKS SEGMENTS w w'
  pub payable : Payable site b l m q w'

-- ---- the walk through all segments

-- The walk stands at the first gap of segment l, and p says how many steps are left to pay.
pub record Ahead (site : Site) (b : Block) (l : ℕ) (p : Stand) (w : List ℕ) : Type 0 where
  pub numbered : Numbered site b l w
  pub code : p.code ≡ (segment_in w l).code
  pub steps : p.steps ≡ rest_from w b l p.memory
  pub finite : p.steps < FAR
  pub low : STEPS ≤ p.end
  pub space : p.end + p.steps ≤ WAYPOINTS

-- From the first gap of segment l on the walk has come to a gap further on, and p' says how many steps are left to pay
-- there. If there are any, it is the first gap of segment l'.
pub record Come (site : Site) (b : Block) (l : ℕ) (p : Stand) (w : List ℕ) (l' : ℕ) (p' : Stand) (w' : List ℕ)
    : Type 0 where
  pub frame : OnlyIn p.end SEGMENTS w w'
  pub on : p.end ≤ p'.end
  pub gap : ℕ
  pub at : Local
  pub walked : Walked site b.end w (segment_in w l).first (stood w l p) p.end w' gap at p'.end
  pub pays : Pays (site_meant site) (between w gap b.end) at p'.steps
  pub ahead : 0 < p'.steps
      → Ahead site b l' p' w' × (gap ≡ (segment_in w' l').first) × (at ≡ stood w' l' p')

-- The words behind the list are the shortest schedule of the block.
pub record Through (site : Site) (b : Block) (p : Stand) (w : List ℕ) (r : ℕ) (w' : List ℕ) : Type 0 where
  pub frame : OnlyIn p.end SEGMENTS w w'
  pub words : List ℕ
  pub ends : r ≡ p.end + length words
  pub list : words_at p.end (length words) w' ≡ words
  pub shortest : (sys : Topology) → Describes sys site
      → ShortestFrom sys site.location.0 (segment_in w 0).first (between w (segment_in w 0).first b.end)
      (stood w 0 p) (map step_of_word words)

-- ---- the place after a block

-- The last segment of a block.
abbrev pub last_in : List ℕ → Block → Segment
last_in w b = segment_in w (b.count - 1)

-- The block has a last segment, and a known event follows that.
pub record Closable (site : Site) (b : Block) (w : List ℕ) : Type 0 where
  pub laid : Laid site b w
  pub some : 0 < b.count
  pub inside : (last_in w b).end < MOST
  pub known : Known (struct_in w (last_in w b).end)

-- The place is that after the event, with the value that it reads, if it reads one, in memory and no copy.
pub record Closed (site : Site) (b : Block) (end : ℕ) (w : List ℕ) (r : Place) : Type 0 where
  pub gap : r.gap ≡ b.end
  pub ends : r.end ≡ end
  pub fits : r.code < 64
  pub leads : state r.code r.copy r.memory
      ≡ effect (site_meant site) (event (event_in w (last_in w b).end))
      (state 0 (last_in w b).copy (unwrap_or b.forced 0))

-- ---- a block

-- The events concern the location, and the list of steps has room: no more than two steps were taken for each event.
pub record Blockable (site : Site) (p : Place) (k : ℕ) (w : List ℕ) : Type 0 where
  pub splittable : Splittable site p k w
  pub here : (j : ℕ) → j < k → T (event_at site.location.0 (event_in w j))
  pub low : STEPS ≤ p.end
  pub space : p.end ≤ SORTED + 2 * p.gap

-- The words of the shortest schedule of the events from p to the place r, which is known, stand behind the list.
pub record Crossed (site : Site) (p : Place) (k : ℕ) (w : List ℕ) (r : Place) (w' : List ℕ) : Type 0 where
  pub on : p.gap < r.gap
  pub most : r.gap ≤ k
  pub fits : r.code < 64
  pub words : List ℕ
  pub ends : r.end ≡ p.end + length words
  pub list : words_at p.end (length words) w' ≡ words
  pub shortest : (sys : Topology) → Describes sys site
      → ShortestFrom sys site.location.0 p.gap (between w p.gap r.gap)
      (state p.code p.copy p.memory) (map step_of_word words)
  pub known : r.gap < k → (sys : Topology) → Describes sys site
      → KnownAfter sys site.location.0 (between w p.gap r.gap)
      (state p.code p.copy p.memory) (state r.code r.copy r.memory)

-- So it is with the place that was found; if none was, the events from p on, or some first ones of them, have no run.
pub record Blocked (site : Site) (p : Place) (k : ℕ) (w : List ℕ) (r : Option Place) (w' : List ℕ) : Type 0 where
  pub frame : OnlyIn p.end LOG w w'
  pub crossed : IfSome r (λ place. Crossed site p k w place w')
  pub none : IfNone r
      ((sys : Topology) → Describes sys site
      → ¬ HasRunAt sys site.location.0 (between w p.gap k) (state p.code p.copy p.memory))
