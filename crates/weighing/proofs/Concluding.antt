-- Once every location was visited: the first impossible event, or the shortest schedule of all events.
use Prim.Native.Nat.{ℕ, suc, ◌+◌, ◌≤◌, ◌<◌}
use native.Mathlib.Omega.{arith}
use native.Mathlib.Nat.{le_of_suc-le-suc}
use mathlib.Core.Path.{◌≡◌}
use mathlib.Core.List.{List}
use lib.ListN.{length, take, drop, length-map}
use Rattle.model.specs.Cxl0.{Topology, WellFormed, Event, HasRun, FirstImpossible}
use Rattle.model.specs.Schedule.{Step}
use Rattle.model.specs.Shortest.{Shortest}
use Rattle.model.specs.Meaning.{topology_of}
use Rattle.model.specs.Words.{step_of_word}
use Rattle.model.specs.declared.Topology as topology
use Rattle.model.proofs.Limits.{within, listed_below}
use Rattle.model.proofs.Split.{split}
use Rattle.model.proofs.Prefixes.{has_run_fewer}
use Rattle.model.proofs.NamedEvents.{named_take}
use Rattle.scratch.specs.Layout.{STEPS, SORTED, LOG, WORDS, OnlyIn}
use Rattle.scratch.specs.Words.{words_at, steps_at}
use Rattle.scratch.proofs.Frames.{only_then, only_wider}
use Rattle.scratch.proofs.Events.{events_length}
use Rattle.sorting.specs.Ordering.{ordered}
use Rattle.sorting.proofs.ShortestMerge.{ordered_shortest}
use Rattle.sorting.specs.SortedWords.{Listed, Ordered}
use Rattle.sorting.proofs.SortedWords.{listed_steps, ordered_steps}
use Rattle.events.specs.Linking.{logged}
use Rattle.weighing.specs.Gathering.{Gathered}
use Rattle.weighing.specs.Weighing.{Weighable, Finds, Concluded}
use Rattle.weighing.specs.Visiting.{Visited}
use Rattle.weighing.specs.declared.Weighed.{Weighed}
use Rattle.weighing.specs.declared.visiting.Progress.{Progress}
use Rattle.weighing.proofs.Gathering.{gathered_few, gathered_before}

-- If the first m events have a run and one more have none, that one is the first impossible.
first_impossible : (sys : Topology) (es : List Event) (m : ℕ) → m < length es
    → HasRun sys (take m es) → ¬ HasRun sys (take (suc m) es) → FirstImpossible sys es (suc m)
unfolding FirstImpossible
first_impossible sys es m h run none =
    (omega arith, h, none, λ d l. has_run_fewer sys es d m (le_of_suc-le-suc l) run)

module _ {t : topology.Topology} {n : ℕ} {w : List ℕ} (can : Weighable t n w) {p : Progress} {w' : List ℕ}
    (v : Visited t n t.locations w p w') where
  abbrev sys : Topology
  sys = topology_of t

  abbrev es : List Event
  es = logged n w

  abbrev m : ℕ
  m = p.events

  size : length es ≡ n
  size = events_length (drop LOG w) n

  well_formed : WellFormed sys
  well_formed = (within t can.limits).well-formed

  -- Every location has a run of the first m events, so the system has one.
  runs : HasRun sys (take m es)
  runs =
      (split sys well_formed (take m es)).1 (
        named_take sys es m can.named,
        λ y l. v.tried.runs y (listed_below t y l),
      )

  ends_first : m < n → FirstImpossible sys es (suc m)
  ends_first h =
      let fewer : m < length es = omega (arith, size) in
      let none = v.tried.ends fewer in
      first_impossible sys es m fewer runs
      (λ r. none.2 (((split sys well_formed (take (suc m) es)).0 r).1 none.0 none.1))

  -- Not all events have a run: the next is the first impossible one.
  pub concluded_impossible : m < n → Concluded t n w (Weighed.Impossible (m + 1)) w'
  unfolding Finds
  concluded_impossible h =
      let next : m + 1 ≡ suc m = omega arith in
      record { frame = v.frame; few = omega arith; finds = rw next (ends_first h) }

  -- All events have a run: the list has the shortest schedules of all locations.
  module _ (all : n ≤ m) where
    everything : m ≡ length es
    everything = omega (arith, v.tried.most, size)

    counted : length (words_at STEPS p.steps w') ≡ p.steps
    counted = (v.tried.steps everything).0

    gathered : Gathered sys es t.locations (steps_at STEPS p.steps w')
    gathered = (v.tried.steps everything).1

    room : WORDS ≤ length w'
    room = omega (arith, v.frame.sized, can.linked.room)

    -- It can be ordered.
    pub steps_listed : Listed p.steps n w'
    steps_listed =
        listed_steps room v.tried.few (omega (arith, size, can.linked.few))
        (λ q i. rw size at (gathered_before sys es gathered q i))

    module _ {out : List ℕ} (sorted : Ordered p.steps n w' out) where
      abbrev steps : List Step
      steps = steps_at SORTED p.steps out

      same : steps ≡ ordered n (steps_at STEPS p.steps w')
      same = ordered_steps sorted

      shortest : Shortest sys es steps
      shortest =
          let all = ordered_shortest sys well_formed es (steps_at STEPS p.steps w') can.named gathered.named
          gathered.rise (λ x l. gathered.shortest x (listed_below t x l)) in
          rw same (rw size at all)

      -- In order, its steps are the shortest schedule of the events.
      pub concluded_allowed : Concluded t n w (Weighed.Allowed p.steps) out
      unfolding Finds
      concluded_allowed =
          let long = length-map (words_at STEPS p.steps w') step_of_word in
          let low : OnlyIn 0 LOG w' out = only_wider sorted.frame (omega arith) (omega arith) in
          record {
            frame = only_then v.frame low;
            few = omega (arith, gathered_few sys es gathered, long, counted, size);
            finds = shortest;
          }
