-- `segments::words::put_costs` meets its contract.
use native.Mathlib.Omega.{arith}
use Rattle.segments.proofs.Packing.{costs_put}
use Rattle.segments.proofs.words.put_costs.Goals as goal

pub returns : goal.returns
returns c =
    let a = c.args in
    costs_put a.w.now (omega arith) a.l (omega arith) a.c c.requires.2
