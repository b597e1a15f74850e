-- The loop's invariant: the gaps from t on are filled in, and no gap before the first reset is.
use Rattle.std.proofs.Common.{◌≤◌, min}
use Rattle.segments.proofs.WriteBacks.{Filling}
use Rattle.segments.proofs.backing.fill_backs.Given as goal

abbrev pub invariant-loop-t : goal.invariant-loop-t
invariant-loop-t l =
    (min l.s.reset l.s.end ≤ l.t) × Filling l.site l.fn.b l.s l.fn.w l.t l.now l.again l.bounds l.w
