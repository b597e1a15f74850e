-- The loop keeps `Stands`, with one thing less ahead each time.
use Prim.Native.Nat.{ℕ, ◌+◌}
use mathlib.Core.Path.{◌≡◌}
use Rattle.model.specs.Cxl0.{start}
use Rattle.model.specs.Meaning.{topology_of}
use Rattle.states.specs.States.{state_of}
use Rattle.replay.specs.Replaying.{Answer}
use Rattle.replay.specs.Places.{Stands}
use Rattle.replay.proofs.walking.walk.Given as goal

abbrev pub invariant-loop : goal.invariant-loop
invariant-loop l =
    (a : Answer) → Stands l.log l.schedule l.t l.events a l.ahead (start (topology_of l.t)) l.initial.w
    → (k : ℕ) → l.counter + k ≡ l.ahead → Stands l.log l.schedule l.t l.events a k (state_of l.t l.s) l.w
