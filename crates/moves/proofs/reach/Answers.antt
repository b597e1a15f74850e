-- `moves::reach` meets its contract: the constant is owner 1's part of the computed table, looked up between
-- two exchanges; outside of it no code is reached.
use native.Mathlib.Omega.{arith}
use borrow.Author.Rules.{rules}
use Rattle.model.specs.Sharers.{has, insert, remove}
use Rattle.model.specs.OneLocation.{moved}
use Rattle.moves.specs.Table.{number, entries}
use Rattle.moves.proofs.Exchange.{exchange_fits}
use Rattle.moves.proofs.Table.{kept}
use Rattle.moves.proofs.Owners.{reached}
use Rattle.moves.proofs.reach.Goals as goal

pub bounds-at : goal.bounds-at
bounds-at c =
    let a = c.args in
    omega (arith, exchange_fits a.owner.0 a.code (omega arith) (omega arith), c.exchanged-at.ensures)

pub returns : goal.returns
unfolding number entries kept moved has insert remove
returns c =
    let a = c.args in
    reached a.owner.0 a.code c.each_exchanged.result (omega arith) (omega arith) (search rules)
    (rw c.exchanged-at.ensures at c.each_exchanged.ensures)
