-- What the words of the scratch area hold, and what is left of them by a write.
use Rattle.std.specs.Prelude.{ℕ, zero, suc, ◌+◌, ◌*◌, ◌/◌, ◌%◌, ◌≡◌, List, [], ◌∷◌, map, get_or, set}
use Rattle.std.proofs.Math.Seq.{slice}
use Rattle.model.specs.Cxl0.{Event, Value}
use Rattle.model.specs.Operations.{event_of}
use Rattle.model.specs.Schedule.{Step}
use Rattle.model.specs.Words.{step_of_word}
use Rattle.model.specs.declared.Event as event
use Rattle.rows.specs.declared.Row.{Row}
use Rattle.scratch.specs.declared.Waypoint.{Waypoint}
use Rattle.scratch.specs.Layout.{EVENTS, ROWS, WAYPOINTS, OnlyIn}

-- How many values 32 bits have.
abbrev pub U32 : ℕ
U32 = 4294967296

-- The area with two words from a place on.
abbrev pub pair_at : ℕ → ℕ → ℕ → List ℕ → List ℕ
pair_at place a b w = set (set w place a) (place + 1) b

-- ---- events

-- The first word of an event has a byte for each of operation, machine, location, its index in the log, the index of
-- the next event of its location, and that of the next crash, from the lowest on: what a byte counts in it.
abbrev pub MACHINE : ℕ
MACHINE = 256

abbrev pub LOCATION : ℕ
LOCATION = 256 * MACHINE

abbrev pub INDEX : ℕ
INDEX = 256 * LOCATION

abbrev pub NEXT-OWN : ℕ
NEXT-OWN = 256 * INDEX

abbrev pub NEXT-CRASH : ℕ
NEXT-CRASH = 256 * NEXT-OWN

-- Event j: operation, machine and location in one word, the two values in the next, that of a read-modify-write's store
-- in its upper half. As an event, and as the program's struct.
unfoldable pub event_in : List ℕ → ℕ → Event
event_in w j =
    event_of (get_or w (EVENTS + 2 * j) 0 % 256)
    (get_or w (EVENTS + 2 * j) 0 / MACHINE % 256)
    (get_or w (EVENTS + 2 * j) 0 / LOCATION % 256)
    (get_or w (EVENTS + 2 * j + 1) 0 % U32)
    (get_or w (EVENTS + 2 * j + 1) 0 / U32 % U32)

abbrev pub struct_in : List ℕ → ℕ → event.Event
struct_in w j =
    record {
      operation = get_or w (EVENTS + 2 * j) 0 % 256;
      machine = record { 0 = get_or w (EVENTS + 2 * j) 0 / MACHINE % 256 };
      location = record { 0 = get_or w (EVENTS + 2 * j) 0 / LOCATION % 256 };
      value = get_or w (EVENTS + 2 * j + 1) 0 % U32;
      written = get_or w (EVENTS + 2 * j + 1) 0 / U32 % U32;
    }

-- Events j to j + m - 1.
unfoldable pub events_from : List ℕ → ℕ → ℕ → List Event
events_from w j zero = []
events_from w j (suc m) = event_in w j ∷ events_from w (suc j) m

-- The first m events.
abbrev pub events_in : List ℕ → ℕ → List Event
events_in w m = events_from w 0 m

-- ---- rows and copies

-- Row t, and the value of the copies before event t.
unfoldable pub row_in : List ℕ → ℕ → Row
row_in w t =
    record {
      any = get_or w (ROWS + 4 * t) 0;
      one = get_or w (ROWS + 4 * t + 1) 0;
      value = get_or w (ROWS + 4 * t + 2) 0 % U32;
    }

unfoldable pub copy_in : List ℕ → ℕ → Value
copy_in w t = get_or w (ROWS + 4 * t + 3) 0 % U32

-- Row t is `row`, and no other word has changed.
pub record RowPut (w : List ℕ) (t : ℕ) (row : Row) (w' : List ℕ) : Type 0 where
  pub frame : OnlyIn (ROWS + 4 * t) (ROWS + 4 * t + 3) w w'
  pub stored : row_in w' t ≡ row

-- The copies before event t have the value u, and no other word has changed.
pub record CopyPut (w : List ℕ) (t : ℕ) (u : Value) (w' : List ℕ) : Type 0 where
  pub frame : OnlyIn (ROWS + 4 * t + 3) (ROWS + 4 * t + 4) w w'
  pub stored : copy_in w' t ≡ u

-- ---- the walk

-- Where the walk stood before event t.
unfoldable pub waypoint_in : List ℕ → ℕ → Waypoint
waypoint_in w t =
    record {
      code = get_or w (WAYPOINTS + t) 0 % 256;
      memory = get_or w (WAYPOINTS + t) 0 / 256 % U32;
      end = get_or w (WAYPOINTS + t) 0 / (256 * U32);
    }

-- The waypoint before event t is p, and no other word has changed.
pub record WaypointPut (w : List ℕ) (t : ℕ) (p : Waypoint) (w' : List ℕ) : Type 0 where
  pub frame : OnlyIn (WAYPOINTS + t) (WAYPOINTS + t + 1) w w'
  pub stored : waypoint_in w' t ≡ p

-- ---- steps

-- The words of a list of so many from a place on, and the steps that they hold.
abbrev pub words_at : ℕ → ℕ → List ℕ → List ℕ
words_at place count w = slice place (place + count) w

abbrev pub steps_at : ℕ → ℕ → List ℕ → List Step
steps_at place count w = map step_of_word (words_at place count w)

-- The count of events before the step that a word holds.
abbrev pub count_of : ℕ → ℕ
count_of v = v % 256
