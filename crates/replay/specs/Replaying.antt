-- Replay: events with a schedule, one action after the other on the whole system, from empty caches and
-- initial memories.
use Rattle.std.specs.Prelude.{ℕ, suc, ◌≡◌, cond, not, List, [], ◌∷◌, ◌++◌, T, length}
use Rattle.std.proofs.Math.Option.{Option, none, some}
use Rattle.model.specs.Cxl0.{Topology, State, start, Event, Action, event, silent, possible, next}
use Rattle.model.specs.Cxl0.{runs, after, events}
use Rattle.model.specs.Schedule.{Step, weave}
use Rattle.log_bytes.specs.Records.{Records, system_of}
use Rattle.log_bytes.specs.Reading.{Log, accepted, rejected, read_log}
use Rattle.verdict_file.specs.Files.{allowed, file_of}
use Rattle.verdict_file.specs.Fitting.{schedule_fits}
use Rattle.schedules.specs.Schedules.{read_schedule}

-- Yes, or no and the number of events passed before the first thing not possible; or the number of a refusal.
pub data Answer : Type 0 where
  yes : Answer
  no : (passed : ℕ) → Answer
  refused : (number : ℕ) → Answer

-- The events passed, one more after an event.
abbrev pub counted : ℕ → Action → ℕ
counted n (event e) = suc n
counted n (silent a) = n

unfoldable pub replay_from : Topology → ℕ → List Action → State → Answer
replay_from sys n [] s = Answer.yes
replay_from sys n (a ∷ acts) s =
    cond (possible sys a s) (replay_from sys (counted n a) acts (next sys a s)) (Answer.no n)

unfoldable pub replayed : Topology → List Event → List Step → Answer
replayed sys es ps = replay_from sys 0 (weave es ps) (start sys)

-- Replay of a log's bytes with a schedule's bytes: the log's refusal, or 13, or the replay of its records.
abbrev pub with_schedule : Records → Option (List Step) → Answer
with_schedule r none = Answer.refused 13
with_schedule r (some ps) = replayed (system_of r) r.events ps

abbrev pub with_log : Log → List ℕ → Answer
with_log (rejected number) f = Answer.refused number
with_log (accepted r) f = with_schedule r (read_schedule (system_of r) (length r.events) f)

unfoldable pub replay_log : List ℕ → List ℕ → Answer
replay_log s f = with_log (read_log s) f

-- From a state the actions before `stop` run, `stop` is not possible after them, and k events are among those
-- before it.
pub record Stops (sys : Topology) (acts : List Action) (s : State) (k : ℕ) : Type 0 where
  pub ahead : List Action
  pub stop : Action
  pub rest : List Action
  pub parts : acts ≡ ahead ++ stop ∷ rest
  pub run : T (runs sys ahead s)
  pub impossible : T (not (possible sys stop (after sys ahead s)))
  pub passed : length (events ahead) ≡ k

-- The log s is accepted with the records r, and f is the verdict file that says allowed with the steps ps, which fit
-- the log.
pub record Admitted (s f : List ℕ) (r : Records) (ps : List Step) : Type 0 where
  pub log : read_log s ≡ accepted r
  pub file : f ≡ file_of (allowed ps)
  pub fits : T (schedule_fits (system_of r) (length r.events) ps)
