-- The walk through one segment: what it asks and leaves.
use Rattle.std.specs.Prelude.{ℕ, suc, ◌+◌, ◌-◌, ◌≤◌, ◌<◌, ◌≡◌, ◌↔◌, ◌≢◌, not, ◌&&◌, List, [], ◌∷◌, T, eqb, length}
use Rattle.std.specs.Prelude.{Option, None, Some, IfSome}
use Rattle.model.specs.Cxl0.{Machine, Value, event}
use Rattle.model.specs.declared.Machine as machine
use Rattle.model.specs.Sharers.{has}
use Rattle.model.specs.OneLocation.{Local, event_at, effect, moved}
use Rattle.model.specs.Paying.{Pays}
use Rattle.masks.specs.Sets.{In, OneToSix}
use Rattle.entries.specs.Entries.{site_meant}
use Rattle.entries.specs.declared.Site.{Site}
use Rattle.rows.specs.Rows.{state}
use Rattle.scratch.specs.Layout.{WORDS, MOST, STEPS, WAYPOINTS, BACKS, OnlyIn}
use Rattle.rows.specs.Sites.{Known}
use Rattle.scratch.specs.declared.Waypoint.{Waypoint}
use Rattle.scratch.specs.Words.{event_in, struct_in, events_from, words_at}
use Rattle.levels.specs.Stretches.{FAR, Stretch, Finishes}
use Rattle.levels.specs.Tasks.{Ready, Tasked, Leveled}
use Rattle.levels.specs.declared.Task.{Task}
use Rattle.segments.specs.Words.{segment_in}
use Rattle.segments.specs.Segments.{Left, Costs, IsSegment, stretch_of, memory_at, Backs}
use Rattle.segments.specs.declared.words.Block.{Block}
use Rattle.walking.specs.Trails.{word_of}
use Rattle.blocks.specs.Toward.{Walked, can_step, after_step, Still}
use Rattle.blocks.specs.declared.treading.Stand.{Stand}
use Rattle.blocks.specs.declared.treading.Silent.{Silent}
use Rattle.blocks.specs.declared.treading.Silent.TheVariants.{WriteBack, Move}

-- ---- silent steps

-- The number of a silent step: 0 for a write-back, else the machine that moves.
abbrev pub number_of : Silent → Machine
number_of WriteBack = 0
number_of (Move i) = i.0

-- It is a write-back, or the move of one of the six machines.
abbrev pub IsStep : Silent → Type 0
IsStep WriteBack = Unit
IsStep (Move i) = OneToSix i.0

-- More than the number of any step: what stands for no step where the least one is asked for.
abbrev pub STAY : ℕ
STAY = 7

-- ---- the least move

abbrev pub mover_of : Option machine.Machine → ℕ
mover_of (Some i) = i.0
mover_of None = STAY

-- From code c, machine r is the least whose move to the owner k leads into the set, if there is one.
pub record LeastMove (k : Machine) (c into : ℕ) (r : Option machine.Machine) : Type 0 where
  pub moves : IfSome r (λ i. OneToSix i.0 × T (not (eqb i.0 k) && has i.0 c) × In (moved k i.0 c) into)
  pub least : (j : Machine) → j < mover_of r → T (not (eqb j k) && has j c) → ¬ In (moved k j c) into

-- ---- the steps of a gap

-- The task q of segment l with memory value m at its first gap is in the area, and says what is left to pay.
pub record Payable (site : Site) (b : Block) (l : ℕ) (m : Value) (q : Task) (w : List ℕ) : Type 0 where
  pub room : WORDS ≤ length w
  pub owner : OneToSix site.owner.0
  pub short : b.end ≤ MOST
  pub here : (j : ℕ) → j < b.end → T (event_at site.location.0 (event_in w j))
  pub segment : IsSegment (site_meant site) w b l
  pub end : q.end ≡ (segment_in w l).end
  pub ready : Ready q (segment_in w l).first w
  pub tasked : Tasked q (segment_in w l).first w (stretch_of (site_meant site) w (segment_in w l) m q.last)
  pub backs : Backs (site_meant site) w b (segment_in w l)
  pub links : (t c x : ℕ) → (segment_in w l).first ≤ t → t ≤ (segment_in w l).end → x < FAR
      → Finishes (stretch_of (site_meant site) w (segment_in w l) m q.last) t c x
      ↔ Left (site_meant site) w b.end t (segment_in w l).copy c (memory_at (site_meant site) (segment_in w l) m t) x

-- The walk stands at gap t of the segment, and p says how many steps are left to pay. As long as there is a copy,
-- memory has the value that it has without a write-back, and the masks are those of one step less.
pub record Standing (site : Site) (b : Block) (l : ℕ) (m : Value) (q : Task) (t : ℕ) (p : Stand) (w : List ℕ)
    : Type 0 where
  pub from : (segment_in w l).first ≤ t
  pub to : t ≤ (segment_in w l).end
  pub fits : p.code < 64
  pub finite : p.steps < FAR
  pub costs : Costs (site_meant site) w b.end t (segment_in w l).copy p.code p.memory p.steps
  pub low : STEPS ≤ p.end
  pub space : p.end + p.steps ≤ WAYPOINTS
  pub held : p.code ≢ 0
      → (p.memory ≡ memory_at (site_meant site) (segment_in w l) m t)
      × (q.low < p.steps → Leveled (stretch_of (site_meant site) w (segment_in w l) m q.last) t (p.steps - 1) w)

-- The state of the location where the walk stands in segment l.
abbrev pub stood : List ℕ → ℕ → Stand → Local
stood w l p = state p.code (segment_in w l).copy p.memory

-- Step i leaves one step less to pay.
pub record Takes (site : Site) (b : Block) (l t : ℕ) (p : Stand) (w : List ℕ) (i : Silent) : Type 0 where
  pub is : IsStep i
  pub some : 0 < p.steps
  pub can : can_step (site_meant site) (number_of i) (stood w l p)
  pub pays : Pays (site_meant site) (events_from w t (b.end - t))
      (after_step (site_meant site) (number_of i) (stood w l p)) (p.steps - 1)

abbrev pub choice_of : Option Silent → ℕ
choice_of (Some i) = number_of i
choice_of None = STAY

-- The step to take: the least that leaves one step less to pay, if there is one.
pub record Chosen (site : Site) (b : Block) (l t : ℕ) (p : Stand) (w : List ℕ) (r : Option Silent) : Type 0 where
  pub takes : IfSome r (Takes site b l t p w)
  pub least : (j : Machine) → j < choice_of r → can_step (site_meant site) j (stood w l p)
      → (y : ℕ) → suc y ≤ p.steps
      → ¬ Pays (site_meant site) (events_from w t (b.end - t)) (after_step (site_meant site) j (stood w l p)) y

-- Where the walk stands after a step.
pub record SteppedTo (site : Site) (copy : Value) (i : Machine) (p p' : Stand) : Type 0 where
  pub leads : state p'.code copy p'.memory ≡ after_step (site_meant site) i (state p.code copy p.memory)
  pub fits : p'.code < 64
  pub end : p'.end ≡ p.end + 1
  pub steps : suc p'.steps ≡ p.steps

-- There is a step to pay, and room to note it.
pub record Takeable (site : Site) (q : Task) (t : ℕ) (i : Silent) (p : Stand) (w : List ℕ) : Type 0 where
  pub ready : Ready q t w
  pub owner : OneToSix site.owner.0
  pub takes : IsStep i
  pub fits : p.code < 64
  pub some : 0 < p.steps
  pub finite : p.steps < FAR
  pub low : STEPS ≤ p.end
  pub space : p.end < WAYPOINTS

-- The step is noted, and if there may be a copy after it, the masks of one step less than is left to pay are there.
pub record Taken (site : Site) (copy : Value) (q : Task) (t : ℕ) (i : Machine) (p : Stand) (w : List ℕ) (p' : Stand)
    (w' : List ℕ) : Type 0 where
  pub frame : OnlyIn p.end BACKS w w'
  pub word : words_at p.end 1 w' ≡ word_of t site.location.0 i ∷ []
  pub stepped : SteppedTo site copy i p p'
  pub levels : 0 < i → q.low < p'.steps → (z : Stretch) → Tasked q t w z → Leveled z t (p'.steps - 1) w'

-- The steps of the gap are noted, and none is left to take there.
pub record Paid (site : Site) (b : Block) (l : ℕ) (m : Value) (q : Task) (t : ℕ) (p : Stand) (w : List ℕ) (p' : Stand)
    (w' : List ℕ) : Type 0 where
  pub frame : OnlyIn p.end BACKS w w'
  pub standing : Standing site b l m q t p' w'
  pub walked : Walked site b.end w t (stood w l p) p.end w' t (stood w l p') p'.end
  pub still : Still (site_meant site) (events_from w t (b.end - t)) (stood w l p') p'.steps

-- ---- an event

-- The waypoint where the walk stands.
abbrev pub point_of : Stand → Waypoint
point_of p = record { code = p.code; memory = p.memory; end = p.end }

-- Event t is known, and the walk stands before it.
pub record Actable (site : Site) (t : ℕ) (p : Stand) (w : List ℕ) : Type 0 where
  pub room : WORDS ≤ length w
  pub owner : OneToSix site.owner.0
  pub inside : t < MOST
  pub known : Known (struct_in w t)
  pub fits : p.code < 64

-- Where it stands after the event, if copies have the value u.
pub record Over (site : Site) (t : ℕ) (u : Value) (p : Stand) (w : List ℕ) (r : Stand) : Type 0 where
  pub code : r.code ≡ (effect (site_meant site) (event (event_in w t)) (state p.code u p.memory)).code
  pub memory : r.memory ≡ (effect (site_meant site) (event (event_in w t)) (state p.code u p.memory)).memory
  pub fits : r.code < 64
  pub end : r.end ≡ p.end
  pub steps : r.steps ≡ p.steps

-- ---- a segment

-- The walk stands at the first gap of the segment, with memory value m.
pub record Treadable (site : Site) (b : Block) (l : ℕ) (q : Task) (p : Stand) (w : List ℕ) : Type 0 where
  pub payable : Payable site b l p.memory q w
  pub fits : p.code < 64
  pub finite : p.steps < FAR
  pub costs : Costs (site_meant site) w b.end (segment_in w l).first (segment_in w l).copy p.code p.memory
      p.steps
  pub low : STEPS ≤ p.end
  pub space : p.end + p.steps ≤ WAYPOINTS

-- The walk stands at the last gap, and no step is left to take there.
pub record Trodden (site : Site) (b : Block) (l : ℕ) (p : Stand) (w : List ℕ) (p' : Stand) (w' : List ℕ) : Type 0 where
  pub frame : OnlyIn p.end BACKS w w'
  pub fits : p'.code < 64
  pub finite : p'.steps < FAR
  pub costs : Costs (site_meant site) w b.end (segment_in w l).end (segment_in w l).copy p'.code p'.memory
      p'.steps
  pub space : (p.end ≤ p'.end) × (p'.end + p'.steps ≤ WAYPOINTS)
  pub walked : Walked site b.end w (segment_in w l).first (stood w l p) p.end
      w' (segment_in w l).end (stood w l p') p'.end
  pub still : Still (site_meant site) (events_from w (segment_in w l).end (b.end - (segment_in w l).end)) (stood w l p')
      p'.steps
