-- `segments::words::put_segment` meets its contract.
use native.Mathlib.Omega.{arith}
use Rattle.segments.proofs.Packing.{segment_put}
use Rattle.segments.proofs.words.put_segment.Goals as goal

pub returns : goal.returns
returns c =
    let a = c.args in
    segment_put a.w.now (omega arith) a.l (omega arith) a.s c.requires.2 (omega arith)
