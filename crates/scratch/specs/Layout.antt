-- The regions of the scratch area, one after the other, each where the one before it ends, and frames: what has changed
-- lies in a stretch.
use Rattle.std.specs.Prelude.{ℕ, ◌+◌, ◌*◌, ◌≡◌, List, length, take, drop}

-- The fewest words of a scratch area, the most events that it holds, a log's 128 and one more, and the most steps
-- of a schedule, two for each event.
abbrev pub WORDS : ℕ
WORDS = 4096

abbrev pub MOST : ℕ
MOST = 129

abbrev pub MOST-STEPS : ℕ
MOST-STEPS = 2 * MOST

-- The events that matter at the location at hand, two words each.
abbrev pub EVENTS : ℕ
EVENTS = 0

-- The rows, of which there is one more than events, three words each and one for the value of the copies.
abbrev pub ROWS : ℕ
ROWS = EVENTS + 2 * MOST

-- The steps of the locations so far, one word each. Behind them the walk lists those of the location at hand, at most
-- six for each event, and so may run on over the two regions that follow, up to WAYPOINTS: these are written when the
-- walk is done at all locations.
abbrev pub STEPS : ℕ
STEPS = ROWS + 4 * (MOST + 1)

-- The steps in order, one word each.
abbrev pub SORTED : ℕ
SORTED = STEPS + MOST-STEPS

-- For each count of events before a step, 0 to MOST, where its next step goes.
abbrev pub BUCKETS : ℕ
BUCKETS = SORTED + MOST-STEPS

abbrev pub BUCKETS-END : ℕ
BUCKETS-END = BUCKETS + (MOST + 1)

-- Where the walk stood before each event, one word each.
abbrev pub WAYPOINTS : ℕ
WAYPOINTS = SORTED + 6 * MOST

-- The levels of a segment, a mask for each gap.
abbrev pub LEVELS : ℕ
LEVELS = WAYPOINTS + MOST

-- What is left to pay after a write-back, one word for each gap.
abbrev pub BACKS : ℕ
BACKS = LEVELS + (MOST + 1)

-- The segments of a block, two words each.
abbrev pub SEGMENTS : ℕ
SEGMENTS = BACKS + (MOST + 1)

-- The events of the log, two words each.
abbrev pub LOG : ℕ
LOG = SEGMENTS + 2 * (MOST + 1)

-- For each of 32 locations the first event of the log there. What follows is free.
abbrev pub HEADS : ℕ
HEADS = LOG + 2 * MOST

abbrev pub FREE : ℕ
FREE = HEADS + 32

-- A frame: the words below `from` and those from `to` on are as they were.
pub record OnlyIn (from to : ℕ) (w w' : List ℕ) : Type 0 where
  pub sized : length w' ≡ length w
  pub below : take from w' ≡ take from w
  pub above : drop to w' ≡ drop to w
