-- Where a replay stands in a log and a schedule, and what the next event or step comes to.
use Rattle.std.specs.Prelude.{ℕ, ◌+◌, ◌≡◌, true, false, List, T, length, drop}
use Rattle.std.proofs.Math.Option.{some}
use Rattle.model.specs.Cxl0
use Rattle.model.specs.Cxl0.{State, Event, Action}
use Rattle.model.specs.Schedule.{Step, silent_of, weave_from, in_order}
use Rattle.model.specs.Meaning.{topology_of, within_limits, Outcome, attempt, attempt_event}
use Rattle.model.specs.declared.Topology.{Topology}
use Rattle.cursors.specs.Cursors.{Events}
use Rattle.schedules.specs.Schedules.{read_steps}
use Rattle.schedules.specs.Answers.{step_of}
use Rattle.replay.specs.Replaying.{Answer, replay_from}
use Rattle.replay.specs.declared.walking.Place.{Place}
use Rattle.replay.specs.declared.walking.Thing.{Thing}
use Rattle.replay.specs.declared.walking.Next.{Next}

-- A replay of the log s, which has n events, with the file f on the system t stands at a place, in the state x:
-- k things are ahead, these events and these steps, and to go on with them comes to the answer a.
pub record Stands (s f : List ℕ) (t : Topology) (n : ℕ) (a : Answer) (k : ℕ) (x : State) (w : Place)
    : Type 0 where
  pub limits : T (within_limits t)
  pub es : List Event
  pub ps : List Step
  pub end : ℕ
  pub events : Events s w.event es end
  pub steps : read_steps (drop w.step f) ≡ some ps
  pub ahead : length es + length ps ≡ k
  pub all : w.passed + length es ≡ n
  pub least : ℕ
  pub order : T (in_order least n ps)
  pub answer : replay_from (topology_of t) w.passed (weave_from w.passed es ps) x ≡ a

-- What comes of the next thing in the state x.
abbrev pub taken : Topology → Thing → State → Outcome
taken t (Thing.Step p) x = attempt t (Cxl0.silent (silent_of (step_of p))) x
taken t (Thing.Event e) x = attempt_event t e x

-- If the next thing is possible, the replay stands at the place after it, with one thing less ahead; if it is not, the
-- answer is no after the events passed.
pub record Goes (s f : List ℕ) (t : Topology) (n : ℕ) (a : Answer) (k : ℕ) (x : State) (w : Place) (r : Next)
    : Type 0 where
  pub on : (taken t r.thing x).possible ≡ true → Stands s f t n a k (taken t r.thing x).state r.place
  pub stop : (taken t r.thing x).possible ≡ false → Answer.no w.passed ≡ a

-- The next thing is this action; after it n events have passed, and the next event is at i and the next step at j.
pub record Takes (t : Topology) (x : State) (act : Action) (n i j : ℕ) (r : Next) : Type 0 where
  pub outcome : taken t r.thing x ≡ attempt t act x
  pub passed : r.place.passed ≡ n
  pub event : r.place.event ≡ i
  pub step : r.place.step ≡ j
