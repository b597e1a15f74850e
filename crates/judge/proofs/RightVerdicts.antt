-- What the right verdict is worth: its schedule fits the events and makes a run of them, so that replay of the log with
-- its file says yes.
use Prim.Native.Nat.{ℕ, ◌+◌, ◌*◌, ◌≤◌}
use native.Mathlib.Omega.{arith}
use mathlib.Core.Path.{◌≡◌}
use mathlib.Core.Bool.{◌&&◌}
use mathlib.Core.List.{List}
use lib.Dec.{T, leb, le→leb}
use lib.ListN.{length}
use Rattle.model.specs.Cxl0.{Topology, WellFormed, Event, count, is_store, is_load}
use Rattle.model.specs.Schedule.{Step, weave, in_order}
use Rattle.model.specs.Shortest.{Shortest}
use Rattle.model.proofs.Tests.{and_i}
use Rattle.model.proofs.Bound.{bound, bound_256}
use Rattle.model.proofs.Weaving.{events_weave}
use Rattle.model.proofs.Smallest.{length_weave_from}
use Rattle.log_bytes.specs.Records.{Records, system_of}
use Rattle.log_bytes.specs.Reading.{accepted, read_log}
use Rattle.log_bytes.proofs.Owned.{accepted_few, accepted_well_formed}
use Rattle.verdict_file.specs.Files.{allowed, file_of, steps_most, events_most}
use Rattle.verdict_file.specs.Fitting.{every_step_fits, schedule_fits}
use Rattle.verdict_file.specs.Verdicts.{verdict_of}
use Rattle.verdict_file.proofs.Fitting.{run_fits}
use Rattle.verdict_file.proofs.Verdicts.{Right, verdict_right}
use Rattle.replay.specs.Replaying as replaying
use Rattle.replay.specs.Replaying.{replay_log}
use Rattle.replay.proofs.Demand2.{written_yes}

-- ---- the schedule

-- The shortest schedule has at most two steps for each store and one for each load.
pub shortest_bound : (sys : Topology) → WellFormed sys → (es : List Event) (ps : List Step) → Shortest sys es ps
    → length ps ≤ 2 * count is_store es + count is_load es
unfolding weave
shortest_bound sys w es ps s =
    let most = rw (events_weave es ps) at (bound sys w (weave es ps) s.run) in
    omega (arith, most, length_weave_from 0 es ps)

module _ (sys : Topology) (w : WellFormed sys) (es : List Event) (few : length es ≤ events_most) where
  -- That of as many events as a log has at most 256 steps.
  pub shortest_few : (ps : List Step) → Shortest sys es ps → length ps ≤ steps_most
  unfolding weave
  shortest_few ps s =
      let most = bound_256 sys w (weave es ps) s.run (rw (events_weave es ps) few) in
      omega (arith, most, length_weave_from 0 es ps)

  -- It fits the events.
  pub shortest_fits : (ps : List Step) → Shortest sys es ps → T (schedule_fits sys (length es) ps)
  unfolding schedule_fits
  shortest_fits ps s =
      let short = leb (length ps) steps_most in
      let ordered = in_order 0 (length es) ps in
      and_i (short && ordered) (every_step_fits sys ps)
      (and_i short ordered (le→leb (length ps) steps_most (shortest_few ps s)) s.order)
      (run_fits sys w es ps s.run)

module _ (s : List ℕ) (r : Records) (read : read_log s ≡ accepted r) (ps : List Step)
    (right : Right (system_of r) r.events (allowed ps)) where
  -- The right schedule of an accepted log has at most two steps for each store and one for each load,
  pub right_bound : length ps ≤ 2 * count is_store r.events + count is_load r.events
  unfolding Right
  right_bound = shortest_bound (system_of r) (accepted_well_formed s r read) r.events ps right

  -- and so at most 256.
  pub right_few : length ps ≤ steps_most
  unfolding Right
  right_few = shortest_few (system_of r) (accepted_well_formed s r read) r.events (accepted_few s r read) ps right

  -- Replay of the log with its file says yes.
  pub right_replays : replay_log s (file_of (allowed ps)) ≡ replaying.Answer.yes
  unfolding Right
  right_replays =
      let well_formed = accepted_well_formed s r read in
      let fits = shortest_fits (system_of r) well_formed r.events (accepted_few s r read) ps right in
      written_yes s r ps read fits right.run

-- The verdict on an accepted log is right.
pub judged_right : (s : List ℕ) (r : Records) → read_log s ≡ accepted r
    → Right (system_of r) r.events (verdict_of (system_of r) r.events)
judged_right s r read = verdict_right (system_of r) r.events (accepted_well_formed s r read)
