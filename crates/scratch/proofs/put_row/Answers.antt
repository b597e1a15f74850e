-- `scratch::put_row` meets its contract.
use native.Mathlib.Omega.{arith}
use Rattle.scratch.proofs.Access.{row_put}
use Rattle.scratch.proofs.put_row.Goals as goal

pub returns : goal.returns
returns c =
    let a = c.args in
    row_put a.w.now (omega arith) a.t a.row (omega arith) (omega arith)
