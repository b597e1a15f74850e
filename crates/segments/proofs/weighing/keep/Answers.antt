-- `segments::weighing::keep` meets its contract.
use Prim.Native.Nat.{◌<◌}
use native.Mathlib.Omega.{arith}
use mathlib.Core.Path.{sym, ◌∙◌}
use mathlib.Core.Logic.{◌≢◌}
use mathlib.Core.Bool.{true, true≢false}
use Rattle.scratch.specs.Layout.{LEVELS, BACKS}
use Rattle.scratch.proofs.Frames.{only_none, only_wider}
use Rattle.segments.proofs.Cheapest.{keeps_free, keeps_for_some}
use Rattle.segments.proofs.weighing.keep.Goals as goal
use Rattle.segments.proofs.weighing.keep.Goals.{else-seen-via-then-seen+else-below-gt0, else-seen-via-else-seen}

-- The events run through.
pub returns-then-below-gt0 : goal.returns-then-below-gt0
returns-then-below-gt0 c =
    record {
      frame = only_none LEVELS BACKS c.args.w.now;
      resets = λ less. absurd (omega (arith, c.requires.0.whole));
      counts =
          λ h q tasked.
          keeps_free h c.requires.0.task c.requires.1 tasked c.if-seen.true c.if-below-gt0.true;
    }

-- They do not, and no step may be spent.
pub returns-then-below-le1 : goal.returns-then-below-le1
returns-then-below-le1 c =
    let stuck : 0 < c.args.below → c.args.seen.other ≢ true =
    elim c.else-seen.branch [
      | else-seen-via-then-seen+else-below-gt0 w ↦ λ some. absurd (omega (arith, w.if-below-gt0.false))
      | else-seen-via-else-seen w ↦ λ some all. absurd (true≢false (sym all ∙ w.if-seen.false))
    ]
    in
    record {
      frame = only_none LEVELS BACKS c.args.w.now;
      resets = λ less. absurd (omega (arith, c.requires.0.whole));
      counts = λ h q tasked. keeps_for_some h c.requires.0.task c.requires.1 tasked stuck c.if-below-le1.true;
    }

pub returns : goal.returns
returns c =
    let fewest = rw c.keeping.ensures at c.fewest.ensures in
    let few = (c.requires.0.task).few in
    record {
      frame = only_wider fewest.frame (omega arith) (omega arith);
      resets = λ less. absurd (omega (arith, c.requires.0.whole));
      counts = λ h. fewest.counted;
    }
