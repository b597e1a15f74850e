-- `walk` takes one thing after the other.
use Prim.Native.Nat.{suc, ◌+◌, ◌-◌}
use native.Mathlib.Omega.{arith}
use mathlib.Core.Path.{◌≡◌, sym, ap}
use Rattle.std.specs.Prelude.{None}
use Rattle.model.specs.Meaning.{Outcome}
use Rattle.replay.proofs.Going.{stands_done}
use Rattle.replay.proofs.walking.walk.Goals.{in_default-via-in-Some+in-None-1, in_default-via-in-None-1}
use Rattle.replay.proofs.walking.walk.Goals as goal

pub loop-init : goal.loop-init
loop-init c = λ a g k e.
    let same : k ≡ c.args.ahead = omega arith in
    rw (same, c.start-s.ensures.result_value) g

-- What a turn comes to: it stops, or goes on.
pub returns-in_default : goal.returns-in_default
returns-in_default c = λ a g.
    let k = c.args.ahead - (c.loop.counter + 1) in
    let next = c.next_at.ensures _ _ a k (c.loop.invariant a g (suc k) (omega arith)) in
    elim c.in_default.branch [
      | in_default-via-in-Some+in-None-1 w ↦
          let goes = rw w.in-Some.is at next in
          let none : w.take.result ≡ None = cc in
          goes.stop (sym (ap (λ (o : Outcome). o.possible) (rw none at w.take.ensures)))
      | in_default-via-in-None-1 w ↦ let none : c.next_at.result ≡ None = cc in absurd (rw none at next)
    ]

pub loop-preserved : goal.loop-preserved
loop-preserved c = λ a g k e.
    let goes = rw c.in-Some.is at (c.next_at.ensures _ _ a k (c.loop.invariant a g (suc k) (omega arith))) in
    let went = rw c.in-Some-take.is at c.take.ensures in
    rw (ap (λ (o : Outcome). o.state) went) (goes.on (sym (ap (λ (o : Outcome). o.possible) went)))

pub returns : goal.returns
returns c = λ a g. stands_done (c.loop.invariant a g 0 (omega arith)) (omega arith)
