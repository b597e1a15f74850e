-- `other_costs` meets its contract.
use Rattle.std.proofs.Common.{refl, arith}
use Rattle.scratch.proofs.Frames.{only_wider}
use Rattle.segments.proofs.Cheapest.{keeps_far, others_right}
use Rattle.segments.proofs.weighing.other_costs.Goals as goal

-- With a reset, nothing keeps the value.
pub returns-then-s : goal.returns-then-s
returns-then-s c =
    let few = c.requires.ready.few in
    record {
      counts = c.fewest.ensures.counted;
      keeps =
          record {
            frame = only_wider c.fewest.ensures.frame (omega arith) (omega arith);
            resets = λ h. refl;
            counts = λ h. absurd (omega (arith, c.if-s.true));
          };
    }

pub add-requires : goal.add-requires
add-requires c =
    let kept = rw (c.spared.ensures, c.written-paid.ensures) at c.keep-kept.ensures in
    (keeps_far c.requires c.if-s.false kept, c.requires.small.1)

pub returns : goal.returns
returns c =
    let kept = rw (c.spared.ensures, c.written-paid.ensures) at c.keep-kept.ensures in
    rw (
      c.only_below.ensures,
      c.spared-2.ensures,
      c.min-other.ensures,
      c.add.ensures,
      c.written-paid.ensures,
    )
    (others_right c.requires c.if-s.false kept)
