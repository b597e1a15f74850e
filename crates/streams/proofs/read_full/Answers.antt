use Rattle.std.proofs.Common.{rules, sym, subst}
use Rattle.std.specs.Io.KnownBytes.{Consumes}
use Rattle.std.proofs.KnownBytes.{Consumes-trans}
use Rattle.streams.proofs.Fronts.{front_grown}
use Rattle.streams.proofs.read_full.Goals as goal

pub loop-done-preserved : goal.loop-done-preserved
loop-done-preserved g c =
    let read = c.in_ok-n.ensures in
    record {
      same_length = search rules;
      in_bounds = search rules;
      front = subst (Consumes _ _) (sym (front_grown _ _ _ _ _ c.loop-done.invariant.in_bounds read.bound.0))
          (Consumes-trans _ _ _ _ _ c.loop-done.invariant.front read.bytes.0);
    }
